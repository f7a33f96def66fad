-- Letters, and what they name.
use Rattle.std.proofs.Common.{◌≡◌, ◌==◌, ℕ, Bool, true, false, cond, List, [], ◌∷◌, Option, None, Some, refl, sym}
use Rattle.std.specs.List.{find}
use Rattle.std.proofs.lemmas.Bool.{eqb-true}
use Rattle.fits_value.specs.Characters.{is_digit}
use Rattle.fits_table.specs.Element.{element_letter, element_of}
use Rattle.fits_table.specs.Format.{format_letter, format_of}
use Rattle.fits_table.specs.declared.element.Element.{Element}
use Rattle.fits_table.specs.declared.element.Element.TheVariants as element
use Rattle.fits_table.specs.declared.element.TheConstants.{ELEMENTS}
use Rattle.fits_table.specs.declared.format.Format.{Format}
use Rattle.fits_table.specs.declared.format.Format.TheVariants as format
use Rattle.fits_table.specs.declared.format.TheConstants.{FORMATS}

-- one of two things is there
either_some : {X P : Type 0} (test : Bool) (a b : Option X) (x : X) → cond test a b ≡ Some x
    → (test ≡ true → a ≡ Some x → P) → (test ≡ false → b ≡ Some x → P) → P
either_some true a b x e first next = first refl e
either_some false a b x e first next = next refl e

-- what is found passes the test
found-passes : {X : Type 0} (test : X → Bool) (items : List X) (x : X) → find test items ≡ Some x → test x ≡ true
found-passes {X = X} test [] x e = absurd (let z : ◌≡◌ {A = Option X} None (Some x) = e in cc)
found-passes {X = X} test (y ∷ items) x e =
    either_some (test y) (Some y) (find test items) x e (λ passes same. let is : ◌≡◌ {A = X} y x = cc in rw (sym is) passes) (λ fails more. found-passes test items x more)

-- the type of a letter has that letter
pub element_found : (letter : ℕ) (type : Element) → element_of letter ≡ Some type → element_letter type ≡ letter
unfolding element_of
element_found letter type e = eqb-true (element_letter type) letter (found-passes (λ type. element_letter type == letter) ELEMENTS type e)

-- the letter of a type names it
pub element_read : (type : Element) → element_of (element_letter type) ≡ Some type
unfolding element_of
element_read element.Logical = refl
element_read element.Bit = refl
element_read element.Byte = refl
element_read element.Integer16 = refl
element_read element.Integer32 = refl
element_read element.Integer64 = refl
element_read element.Character = refl
element_read element.Single = refl
element_read element.Double = refl
element_read element.SingleComplex = refl
element_read element.DoubleComplex = refl

-- it is no digit, and no letter of a descriptor
pub letter_alone : (type : Element) → (is_digit (element_letter type) ≡ false) × ((element_letter type == 80) ≡ false) × ((element_letter type == 81) ≡ false)
letter_alone element.Logical = (refl, refl, refl)
letter_alone element.Bit = (refl, refl, refl)
letter_alone element.Byte = (refl, refl, refl)
letter_alone element.Integer16 = (refl, refl, refl)
letter_alone element.Integer32 = (refl, refl, refl)
letter_alone element.Integer64 = (refl, refl, refl)
letter_alone element.Character = (refl, refl, refl)
letter_alone element.Single = (refl, refl, refl)
letter_alone element.Double = (refl, refl, refl)
letter_alone element.SingleComplex = (refl, refl, refl)
letter_alone element.DoubleComplex = (refl, refl, refl)

-- the format of a letter has that letter
pub format_found : (letter : ℕ) (form : Format) → format_of letter ≡ Some form → format_letter form ≡ letter
unfolding format_of
format_found letter form e = eqb-true (format_letter form) letter (found-passes (λ form. format_letter form == letter) FORMATS form e)

-- the letter of a format names it
pub format_read : (form : Format) → format_of (format_letter form) ≡ Some form
unfolding format_of
format_read format.Text = refl
format_read format.Whole = refl
format_read format.Fixed = refl
format_read format.Exponential = refl
format_read format.DoubleExponential = refl
