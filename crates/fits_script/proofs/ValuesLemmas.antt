-- Words that aren't values, one after another.
use Rattle.std.proofs.Common.{◌≡◌, ℕ, ◌+◌, ◌-◌, List, [], ◌∷◌, ◌++◌, length, None, Some, refl, sym, ◌∙◌, ap, arith, length-append}
use Rattle.std.specs.Prelude.{◌==◌, ℤ}
use Rattle.std.specs.List.{slice_split}
use Rattle.std.specs.Option.{is_some}
use Rattle.std.proofs.lemmas.Bool.{cond-true, cond-false}
use Rattle.fits_script.specs.Cut.{HasNo}
use Rattle.fits_script.specs.Misfit.{no_value, values_misfit}
use Rattle.fits_script.specs.Words.{value_of_word}
use Rattle.fits_script.specs.declared.misfit.Misfit.{Misfit}
use Rattle.fits_script.specs.declared.misfit.Misfit.TheVariants.{WordMissing}
use Rattle.fits_script.proofs.PartsLemmas.{parts-none, parts-cut}

-- the words of a text
abbrev pub spaced : List ℕ → List (List ℕ)
spaced text = slice_split (λ byte. byte == 32) text

-- a first word that is no value
first_bad : (size left : ℕ) (word : List ℕ) (words : List (List ℕ)) → value_of_word word ≡ None → values_misfit size left (word ∷ words) ≡ no_value size left word
unfolding values_misfit
first_bad size left word words e = cond-false (is_some (value_of_word word)) _ _ (ap is_some e)

-- and one that is
first_good : (size left : ℕ) (word : List ℕ) (words : List (List ℕ)) (value : ℤ) → value_of_word word ≡ Some value → values_misfit size left (word ∷ words) ≡ values_misfit size (left - (length word + 1)) words
unfolding values_misfit
first_good size left word words value e = cond-true (is_some (value_of_word word)) _ _ (ap is_some e)

-- no words
nothing : (size left : ℕ) → values_misfit size left [] ≡ WordMissing
unfolding values_misfit
nothing size left = refl

-- the words of a text that goes on after a space
cut_words : (rest word more : List ℕ) → HasNo 32 word → rest ≡ word ++ 32 ∷ more → spaced rest ≡ word ∷ spaced more
cut_words rest word more none e = ap spaced e ∙ parts-cut 32 word more none

-- a word that is no value, after others
pub bad_word : (size : ℕ) (rest word more : List ℕ) (whole : Misfit) → HasNo 32 word → rest ≡ word ++ 32 ∷ more → value_of_word word ≡ None → values_misfit size (length rest) (spaced rest) ≡ whole
    → no_value size (length rest) word ≡ whole
bad_word size rest word more whole none e is before =
    sym (first_bad size (length rest) word (spaced more) is) ∙ (ap (values_misfit size (length rest)) (sym (cut_words rest word more none e)) ∙ before)

-- one that is
pub good_word : (size : ℕ) (rest word more : List ℕ) (value : ℤ) (whole : Misfit) → HasNo 32 word → rest ≡ word ++ 32 ∷ more → value_of_word word ≡ Some value → values_misfit size (length rest) (spaced rest) ≡ whole
    → values_misfit size (length more) (spaced more) ≡ whole
good_word size rest word more value whole none e is before =
    let left : length more ≡ length rest - (length word + 1) = omega (arith, ap length e, length-append word (32 ∷ more)) in
    ap (λ (n : ℕ). values_misfit size n (spaced more)) left
    ∙ (sym (first_good size (length rest) word (spaced more) value is)
    ∙ (ap (values_misfit size (length rest)) (sym (cut_words rest word more none e)) ∙ before))

-- the last word is none
pub last_bad : (size : ℕ) (rest : List ℕ) (whole : Misfit) → HasNo 32 rest → value_of_word rest ≡ None → values_misfit size (length rest) (spaced rest) ≡ whole → no_value size (length rest) rest ≡ whole
last_bad size rest whole none is before =
    sym (first_bad size (length rest) rest [] is) ∙ (ap (values_misfit size (length rest)) (sym (parts-none 32 rest none)) ∙ before)

-- or one too
pub last_good : (size : ℕ) (rest : List ℕ) (value : ℤ) (whole : Misfit) → HasNo 32 rest → value_of_word rest ≡ Some value → values_misfit size (length rest) (spaced rest) ≡ whole → WordMissing ≡ whole
last_good size rest value whole none is before =
    sym (nothing size (length rest - (length rest + 1)))
    ∙ (sym (first_good size (length rest) rest [] value is) ∙ (ap (values_misfit size (length rest)) (sym (parts-none 32 rest none)) ∙ before))
