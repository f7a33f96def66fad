-- Texts that end in an ampersand.
use Rattle.std.proofs.Common.{◌≡◌, ℕ, ◌-◌, true, List, [], ◌∷◌, ◌++◌, length, take, drop, codes, sym, ◌∙◌, ap, arith, length-append}
use Rattle.std.proofs.Math.Seq.{drop-append_seam}
use Rattle.std.proofs.lemmas.List.{take-append-drop}
use Rattle.std.proofs.lemmas.Slice.Eq.{bytes_eq-Decides}
use Rattle.fits_value.specs.LongString.{EndsInAmpersand}
use Rattle.fits_value.specs.Says.{ends_in_ampersand}

-- an ampersand is found at the end
pub ampersand_told : (text : List ℕ) → ends_in_ampersand text ≡ true → EndsInAmpersand text
ampersand_told text e =
    let n = length text - 1 in
    (take n text, sym (take-append-drop n text) ∙ ap (λ (x : List ℕ). take n text ++ x) ((bytes_eq-Decides (drop n text) (codes "&")).0 e))

-- one at the end is found
pub ampersand_said : (text : List ℕ) → EndsInAmpersand text → ends_in_ampersand text ≡ true
ampersand_said text h =
    let n : length text - 1 ≡ length h.0 = omega (arith, ap length h.1, length-append h.0 (38 ∷ [])) in
    (bytes_eq-Decides (drop (length text - 1) text) (codes "&")).1 (ap (λ (k : ℕ). drop k text) n ∙ (ap (λ (x : List ℕ). drop (length h.0) x) h.1 ∙ drop-append_seam h.0 (38 ∷ [])))
