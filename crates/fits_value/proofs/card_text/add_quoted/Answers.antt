use Rattle.std.proofs.Common.{◌≡◌, ℕ, List, [], ◌∷◌, ◌++◌, length, arith, length-append, ap, ◌∙◌, sym, append_assoc}
use Rattle.fits_value.specs.Spelling.{doubled}
use Rattle.fits_value.proofs.PieceLemmas.{quoted_parts, quoted_length}
use Rattle.fits_value.proofs.card_text.add_quoted.Goals as goal

-- what was added in four parts
four : (a b v w x y z : List ℕ) → w ≡ v ++ 39 ∷ [] → x ≡ w ++ doubled a → y ≡ x ++ doubled b → z ≡ y ++ 39 ∷ [] → z ≡ v ++ ((39 ∷ []) ++ (doubled a ++ (doubled b ++ 39 ∷ [])))
four a b v w x y z e f g h = rw (h, g, f, e) (simp append_assoc)

pub returns-in_err-add_doubled-clause-none : goal.returns-in_err-add_doubled-clause-none
returns-in_err-add_doubled-clause-none c =
    rw (c.from_residual-in_err-add_doubled.ensures) (omega (arith, quoted_length c.args.characters.now c.args.after.now, c.in_err-add_doubled.ensures.none, ap length c.in_ok-add.ensures.some, length-append c.args.text.now (39 ∷ [])))

pub returns-in_err-add_doubled-2-clause-none : goal.returns-in_err-add_doubled-2-clause-none
returns-in_err-add_doubled-2-clause-none c =
    rw (c.from_residual-in_err-add_doubled-2.ensures) (omega (
      arith,
      quoted_length c.args.characters.now c.args.after.now,
      c.in_err-add_doubled-2.ensures.none,
      ap length c.in_ok-add.ensures.some,
      length-append c.args.text.now (39 ∷ []),
      ap length c.in_ok-add_doubled.ensures.some,
      length-append c.add.new.text (doubled c.args.characters.now),
    ))

pub returns-in_err-add-2-clause-none : goal.returns-in_err-add-2-clause-none
returns-in_err-add-2-clause-none c =
    rw (c.from_residual-in_err-add-2.ensures) (omega (
      arith,
      quoted_length c.args.characters.now c.args.after.now,
      c.in_err-add-2.ensures.none,
      ap length c.in_ok-add.ensures.some,
      length-append c.args.text.now (39 ∷ []),
      ap length c.in_ok-add_doubled.ensures.some,
      length-append c.add.new.text (doubled c.args.characters.now),
      ap length c.in_ok-add_doubled-2.ensures.some,
      length-append c.add_doubled.new.text (doubled c.args.after.now),
    ))

pub returns-clause-some : goal.returns-clause-some
returns-clause-some c =
    four c.args.characters.now c.args.after.now c.args.text.now c.add.new.text c.add_doubled.new.text c.add_doubled-2.new.text c.add-2.new.text c.in_ok-add.ensures.some c.in_ok-add_doubled.ensures.some c.in_ok-add_doubled-2.ensures.some c.in_ok-add-2.ensures.some
    ∙ ap (λ (x : List ℕ). c.args.text.now ++ x) (sym (quoted_parts c.args.characters.now c.args.after.now))
