-- Texts that end in no space.
use Rattle.std.proofs.Common.{◌≡◌, ℕ, List, [], ◌∷◌, length, refl, sym, ◌∙◌, arith}
use Rattle.std.specs.List.{suffix_len}
use Rattle.std.proofs.Math.Seq.{take-length}
use Rattle.fits_value.proofs.NormalLemmas.{normal_form-other}
use Rattle.fits_value.specs.Spelling.{is_space}
use Rattle.fits_value.specs.Text.{normal_form}

-- a text that ends in no space is in normal form
pub normal_stops : (text : List ℕ) → suffix_len is_space text ≡ 0 → normal_form text ≡ text
normal_stops [] h = refl
normal_stops (c ∷ s) h = sym (normal_form-other (c ∷ s) (length (c ∷ s)) (omega (arith, h)) (λ e. omega arith)) ∙ take-length (c ∷ s)
