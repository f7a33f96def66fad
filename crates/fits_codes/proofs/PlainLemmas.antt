-- Cards of which nothing is found.
use Rattle.std.proofs.Common.{◌≡◌, Bool, true, false, List, [], ◌∷◌, refl, ◌∙◌, ap, codes}
use Rattle.std.specs.Prelude.{◌&&◌, ◌||◌}
use Rattle.std.specs.List.{filter}
use Rattle.std.specs.Str.{bytes_eq}
use Rattle.std.proofs.lemmas.Bool.{cond-false}
use Rattle.fits_codes.specs.Judged.{card_codes, says_shape, has_code, judged}
use Rattle.fits_codes.specs.Code.{is_among}
use Rattle.fits_codes.specs.declared.code.Code.{Code}
use Rattle.fits_codes.specs.declared.code.Code.TheVariants.{NotFixedFormat, MandatoryRepeated, KeywordRepeated, StrayContinue, AmpersandNotContinued}
use Rattle.fits_codes.specs.declared.context.Context.{Context}
use Rattle.fits_codes.specs.declared.mark.Mark.{Mark}

-- where each fails, none passes
none_pass : {X : Type 0} (p : X → Bool) → ((x : X) → p x ≡ false) → (xs : List X) → filter p xs ≡ []
none_pass p fails [] = refl
none_pass p fails (x ∷ xs) = cond-false (p x) (x ∷ filter p xs) (filter p xs) (fails x) ∙ none_pass p fails xs

-- what fails does so whatever stands behind it
and_false : (a b : Bool) → a ≡ false → (a && b) ≡ false
and_false a b fails = ap (λ (x : Bool). x && b) fails

-- and whatever stands before it
false_and : (a b : Bool) → b ≡ false → (a && b) ≡ false
false_and true b fails = fails
false_and false b fails = refl

-- no fact holds of such a card
unsaid : (mark : Mark) (context : Context) → mark.alone ≡ [] → context.around.name_before ≡ false → context.around.value_before ≡ false → mark.is_open ≡ false
    → bytes_eq mark.name (codes "CONTINUE") ≡ false → says_shape mark context ≡ false → (code : Code) → has_code mark context code ≡ false
unfolding has_code is_among
unsaid mark context nothing first no_value closed named apart NotFixedFormat = and_false (says_shape mark context) _ apart
unsaid mark context nothing first no_value closed named apart MandatoryRepeated = and_false context.around.name_before _ first
unsaid mark context nothing first no_value closed named apart KeywordRepeated = and_false (context.around.value_before && mark.has_value) _ (and_false context.around.value_before mark.has_value no_value)
unsaid mark context nothing first no_value closed named apart StrayContinue = and_false (bytes_eq mark.name (codes "CONTINUE")) _ named
unsaid mark context nothing first no_value closed named apart AmpersandNotContinued = and_false ((mark.begins || context.around.is_link) && mark.is_open) _ (false_and (mark.begins || context.around.is_link) mark.is_open closed)
unsaid mark context nothing first no_value closed named apart code = ap (λ (found : List Code). is_among found code) nothing

-- so it has no code
pub plain : (mark : Mark) (context : Context) → mark.alone ≡ [] → context.around.name_before ≡ false → context.around.value_before ≡ false → mark.is_open ≡ false
    → bytes_eq mark.name (codes "CONTINUE") ≡ false → says_shape mark context ≡ false → judged mark context ≡ []
unfolding judged
plain mark context nothing first no_value closed named apart = none_pass (has_code mark context) (unsaid mark context nothing first no_value closed named apart) card_codes
