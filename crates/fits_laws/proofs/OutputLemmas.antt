-- A script is cut in one way, and a run has one output.
use Rattle.std.proofs.Common.{◌≡◌, ℕ, List, [], ◌∷◌, ◌++◌, length, take, refl, ap, sym, ◌∙◌, append_assoc, inl, inr, All}
use Rattle.std.proofs.lemmas.List.Elements.{All-head, All-tail}
use Rattle.fits_cli.specs.declared.limits.TheConstants.{SCRIPT_LIMIT}
use Rattle.fits_cli.specs.Script.{HasNoLineFeed, ended_lines, IsCutInLines}
use Rattle.fits_cli.specs.Output.{Output, IsOutputOf, output_unopened, output_of_cut}
use Rattle.fits_cli.specs.declared.terms.Terms.{Terms}
use Rattle.fits_laws.proofs.JoinedLemmas.{one_cut_at, not_without}
use Rattle.fits_cli.proofs.LinesLemmas.{a_cut}
use Rattle.fits_laws.proofs.FileLemmas.{one_file, no_open_fault, one_open_fault, file_or_fault}

-- lines with their line feeds, and a last piece
one_cut_from : (ls ms : List (List ℕ)) (x y : List ℕ) → All HasNoLineFeed ls → All HasNoLineFeed ms → HasNoLineFeed x → HasNoLineFeed y → ended_lines ls ++ x ≡ ended_lines ms ++ y → (ls ≡ ms) × (x ≡ y)
one_cut_from [] [] x y a b p q e = (refl, e)
one_cut_from [] (m ∷ ms) x y a b p q e =
    absurd (not_without 10 m (ended_lines ms ++ y) x p (sym (e ∙ append_assoc (m ++ 10 ∷ []) (ended_lines ms) y ∙ append_assoc m (10 ∷ []) (ended_lines ms ++ y))))
one_cut_from (l ∷ ls) [] x y a b p q e =
    absurd (not_without 10 l (ended_lines ls ++ x) y q (sym (sym e ∙ append_assoc (l ++ 10 ∷ []) (ended_lines ls) x ∙ append_assoc l (10 ∷ []) (ended_lines ls ++ x))))
one_cut_from (l ∷ ls) (m ∷ ms) x y a b p q e =
    let left : ended_lines (l ∷ ls) ++ x ≡ l ++ 10 ∷ (ended_lines ls ++ x) = append_assoc (l ++ 10 ∷ []) (ended_lines ls) x ∙ append_assoc l (10 ∷ []) (ended_lines ls ++ x) in
    let right : ended_lines (m ∷ ms) ++ y ≡ m ++ 10 ∷ (ended_lines ms ++ y) = append_assoc (m ++ 10 ∷ []) (ended_lines ms) y ∙ append_assoc m (10 ∷ []) (ended_lines ms ++ y) in
    let first = one_cut_at 10 l m (ended_lines ls ++ x) (ended_lines ms ++ y) (All-head HasNoLineFeed l ls a) (All-head HasNoLineFeed m ms b) (sym left ∙ e ∙ right) in
    let others = one_cut_from ls ms x y (All-tail HasNoLineFeed l ls a) (All-tail HasNoLineFeed m ms b) p q first.1 in
    (rw (first.0, others.0) refl, others.1)

-- so a script is cut in one way
pub one_cut : (text : List ℕ) (ls ms : List (List ℕ)) (x y : List ℕ) → IsCutInLines text ls x → IsCutInLines text ms y → (ls ≡ ms) × (x ≡ y)
one_cut text ls ms x y a b = one_cut_from ls ms x y a.whole b.whole a.open_end b.open_end (sym a.joined ∙ b.joined)

-- and a run has one output
pub one_output : (terms : Terms) (file script : List ℕ) (o p : Output) → IsOutputOf terms file script o → IsOutputOf terms file script p → o ≡ p
one_output terms file script o p a b =
    elim a [
      | inl x ↦ elim b [
        | inl y ↦ x.is ∙ ap output_unopened (one_open_fault file x.why y.why x.fails y.fails) ∙ sym y.is
        | inr y ↦ absurd (no_open_fault file y.parts x.why y.opens x.fails)
      ]
      | inr x ↦ elim b [
        | inl y ↦ absurd (no_open_fault file x.parts y.why x.opens y.fails)
        | inr y ↦
            let size : ℕ = length script in
            let cut = one_cut (take SCRIPT_LIMIT script) x.lines y.lines x.last y.last x.cut y.cut in
            x.is ∙ ap (λ h. output_of_cut terms h size x.lines x.last) (one_file file x.parts y.parts x.opens y.opens)
            ∙ ap (λ ls. output_of_cut terms y.parts size ls x.last) cut.0 ∙ ap (λ t. output_of_cut terms y.parts size y.lines t) cut.1 ∙ sym y.is
      ]
    ]

-- each file and script has one
pub an_output : (terms : Terms) (file script : List ℕ) → (output : Output) × IsOutputOf terms file script output
an_output terms file script =
    let cut = a_cut (take SCRIPT_LIMIT script) in
    elim (file_or_fault file) [
      | inl opened ↦
          let output : Output = output_of_cut terms opened.0 (length script) cut.lines cut.last in
          (output, inr (record { parts = opened.0; lines = cut.lines; last = cut.last; opens = opened.1; cut = cut.cut; is = refl }))
      | inr faulty ↦ (output_unopened faulty.0, inl (record { why = faulty.0; fails = faulty.1; is = refl }))
    ]
