use Rattle.std.proofs.Common.{◌≡◌, ◌∷◌, [], List, ℕ, length, arith, ap, subst, ◌∙◌}
use Rattle.std.specs.Prelude.{IfSome, IfNone, ◌<◌}
use Rattle.fits_value.specs.Written.{card_of, justified}
use Rattle.fits_value.proofs.CardTextLemmas.{length_added, pair_added, pair_over}
use Rattle.fits_value.proofs.card_text.pair_card.Goals as goal

-- an opening bracket fits
pub returns-in_err-add-clause-none : goal.returns-in_err-add-clause-none
returns-in_err-add-clause-none c =
    rw (c.from_residual.ensures) (pair_over c.args.lead.now c.args.real.now c.args.imaginary.now c.args.comment.now (omega (arith, c.in_err-add.ensures.none, ap length c.empty-spelling.ensures)))

-- the real part is too long
pub returns-in_err-add-2-clause-none : goal.returns-in_err-add-2-clause-none
returns-in_err-add-2-clause-none c =
    rw (c.from_residual-in_err-add-2.ensures) (pair_over c.args.lead.now c.args.real.now c.args.imaginary.now c.args.comment.now
    (omega (arith, c.in_err-add-2.ensures.none, ap length c.empty-spelling.ensures, length_added c.empty-spelling.result (40 ∷ []) c.add.new.text c.in_ok-add.ensures.some)))

-- the comma is too far
pub returns-in_err-add-3-clause-none : goal.returns-in_err-add-3-clause-none
returns-in_err-add-3-clause-none c =
    rw (c.from_residual-in_err-add-3.ensures) (pair_over c.args.lead.now c.args.real.now c.args.imaginary.now c.args.comment.now
    (omega (arith, c.in_err-add-3.ensures.none, ap length c.empty-spelling.ensures, length_added c.empty-spelling.result (40 ∷ []) c.add.new.text c.in_ok-add.ensures.some, length_added c.add.new.text c.args.real.now c.add-2.new.text c.in_ok-add-2.ensures.some)))

-- the imaginary part is too long
pub returns-in_err-add-4-clause-none : goal.returns-in_err-add-4-clause-none
returns-in_err-add-4-clause-none c =
    rw (c.from_residual-in_err-add-4.ensures) (pair_over c.args.lead.now c.args.real.now c.args.imaginary.now c.args.comment.now
    (omega (
      arith,
      c.in_err-add-4.ensures.none,
      ap length c.empty-spelling.ensures,
      length_added c.empty-spelling.result (40 ∷ []) c.add.new.text c.in_ok-add.ensures.some,
      length_added c.add.new.text c.args.real.now c.add-2.new.text c.in_ok-add-2.ensures.some,
      length_added c.add-2.new.text (44 ∷ 32 ∷ []) c.add-3.new.text c.in_ok-add-3.ensures.some,
    )))

-- the closing bracket is too far
pub returns-in_err-add-5-clause-none : goal.returns-in_err-add-5-clause-none
returns-in_err-add-5-clause-none c =
    rw (c.from_residual-in_err-add-5.ensures) (pair_over c.args.lead.now c.args.real.now c.args.imaginary.now c.args.comment.now
    (omega (
      arith,
      c.in_err-add-5.ensures.none,
      ap length c.empty-spelling.ensures,
      length_added c.empty-spelling.result (40 ∷ []) c.add.new.text c.in_ok-add.ensures.some,
      length_added c.add.new.text c.args.real.now c.add-2.new.text c.in_ok-add-2.ensures.some,
      length_added c.add-2.new.text (44 ∷ 32 ∷ []) c.add-3.new.text c.in_ok-add-3.ensures.some,
      length_added c.add-3.new.text c.args.imaginary.now c.add-4.new.text c.in_ok-add-4.ensures.some,
    )))

-- what was added is the spelling
pub returns-clause-some : goal.returns-clause-some
returns-clause-some c =
    let e = c.split_at.ensures.front ∙ c.spelling.view_is
    ∙ pair_added _ _ _ _ _ _ c.args.real.now c.args.imaginary.now c.empty-spelling.ensures c.in_ok-add.ensures.some c.in_ok-add-2.ensures.some c.in_ok-add-3.ensures.some c.in_ok-add-4.ensures.some c.in_ok-add-5.ensures.some in
    subst (λ (x : List ℕ). IfSome c.justified_card.result (λ card. card ≡ card_of c.args.lead.now (justified x) c.args.comment.now)) e c.justified_card.ensures.some

-- what was added is the spelling
pub returns-clause-none : goal.returns-clause-none
returns-clause-none c =
    let e = c.split_at.ensures.front ∙ c.spelling.view_is
    ∙ pair_added _ _ _ _ _ _ c.args.real.now c.args.imaginary.now c.empty-spelling.ensures c.in_ok-add.ensures.some c.in_ok-add-2.ensures.some c.in_ok-add-3.ensures.some c.in_ok-add-4.ensures.some c.in_ok-add-5.ensures.some in
    subst (λ (x : List ℕ). IfNone c.justified_card.result (80 < length (card_of c.args.lead.now (justified x) c.args.comment.now))) e c.justified_card.ensures.none
