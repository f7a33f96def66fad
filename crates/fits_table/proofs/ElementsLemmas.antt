-- The forms of columns of binary tables.
use Rattle.std.proofs.Common.{◌≡◌, ℕ, ◌≤◌, ◌==◌, true, false, leb, List, [], ◌∷◌, ◌++◌, Option, None, Some, option_and_then, refl, ap, sym, ◌∙◌, subst, inl, inr}
use Rattle.std.specs.List.{list_all, take_while, prefix_len}
use Rattle.std.specs.Option.{option_map}
use Rattle.std.proofs.lemmas.Bool.{cond-true, cond-false, le-leb, leb-true, eqb-true}
use Rattle.std.proofs.lemmas.List.{take-append-drop}
use Rattle.std.proofs.lemmas.Option.{option_and_then_some}
use Rattle.fits_value.specs.Characters.{is_digit}
use Rattle.fits_value.specs.NumberSteps.{after_digits}
use Rattle.fits_value.proofs.FrontLemmas.{chosen, option_map_some}
use Rattle.fits_value.proofs.NumberLemmas.{front_taken}
use Rattle.fits_table.specs.Element.{element_letter, element_of}
use Rattle.fits_table.specs.Form.{IsCount, AreElements, IsArray, IsForm, descriptor_letter}
use Rattle.fits_table.specs.FormSteps.{count_of, array_of, counted_form, binary_form}
use Rattle.fits_table.specs.declared.descriptor.Descriptor.{Descriptor}
use Rattle.fits_table.specs.declared.descriptor.Descriptor.TheVariants.{Narrow, Wide}
use Rattle.fits_table.specs.declared.element.Element.{Element}
use Rattle.fits_table.specs.declared.form.Form.{Form}
use Rattle.fits_table.specs.declared.form.Form.TheVariants.{Elements, Array}
use Rattle.fits_table.specs.declared.table_kind.TableKind.TheVariants.{Binary}
use Rattle.fits_table.proofs.LetterLemmas.{element_found, element_read, letter_alone}
use Rattle.fits_table.proofs.NumeralLaws.{numeral_read, numeral_found}

-- a count is read
count_read : (digits : List ℕ) (count : ℕ) → IsCount digits count → count_of digits ≡ Some count
count_read [] count is = ap Some (sym is)
count_read (digit ∷ digits) count is = numeral_read (digit ∷ digits) count is

-- it is digits
count_digits : (digits : List ℕ) (count : ℕ) → IsCount digits count → list_all is_digit digits ≡ true
count_digits [] count is = refl
count_digits (digit ∷ digits) count is = is.digits.0

-- a count before a letter
counted_read : (digits : List ℕ) (letter : ℕ) (rest : List ℕ) (count : ℕ) → IsCount digits count → is_digit letter ≡ false → binary_form (digits ++ letter ∷ rest) ≡ counted_form count (letter ∷ rest)
unfolding binary_form
counted_read digits letter rest count is other =
    let taken = front_taken is_digit digits (letter ∷ rest) (count_digits digits count is) other in
    let behind = after_digits (digits ++ letter ∷ rest) in
    ap (λ front. option_and_then (λ count. counted_form count behind) (count_of front)) (sym taken.0)
    ∙ (ap (option_and_then (λ count. counted_form count behind)) (count_read digits count is)
    ∙ ap (counted_form count) (sym taken.1))

-- the letter of a type after a count
letter_read : (count : ℕ) (type : Element) (additional : List ℕ) → counted_form count (element_letter type ∷ additional) ≡ Some (Elements count type)
letter_read count type additional =
    let alone = letter_alone type in
    cond-false (element_letter type == 80) _ _ alone.1
    ∙ (cond-false (element_letter type == 81) _ _ alone.2
    ∙ ap (option_map (λ type. Elements count type)) (element_read type))

-- elements are read
pub elements_read : (text : List ℕ) (count : ℕ) (type : Element) → AreElements text count type → binary_form text ≡ Some (Elements count type)
elements_read text count type are =
    ap binary_form are.parts
    ∙ (counted_read are.digits (element_letter type) are.additional count are.is_count (letter_alone type).0
    ∙ letter_read count type are.additional)

-- the letter of a type after a descriptor's
inner_read : (count : ℕ) (descriptor : Descriptor) (type : Element) (additional : List ℕ) → count ≤ 1 → array_of count descriptor (element_letter type ∷ additional) ≡ Some (Array count descriptor type)
inner_read count descriptor type additional one =
    cond-true (leb count 1) _ _ (le-leb count 1 one) ∙ ap (option_map (λ type. Array count descriptor type)) (element_read type)

-- the letter of a descriptor after a count
descriptor_read : (digits : List ℕ) (count : ℕ) (descriptor : Descriptor) (rest : List ℕ) → IsCount digits count → binary_form (digits ++ descriptor_letter descriptor ∷ rest) ≡ array_of count descriptor rest
descriptor_read digits count Narrow rest is = counted_read digits 80 rest count is refl
descriptor_read digits count Wide rest is = counted_read digits 81 rest count is refl

-- an array is read
pub array_read : (text : List ℕ) (count : ℕ) (descriptor : Descriptor) (type : Element) → IsArray text count descriptor type → binary_form text ≡ Some (Array count descriptor type)
array_read text count descriptor type is =
    ap binary_form is.parts
    ∙ (descriptor_read is.digits count descriptor (element_letter type ∷ is.additional) is.is_count
    ∙ inner_read count descriptor type is.additional is.at_most_one)

-- a count that is read
count_found : (digits : List ℕ) (count : ℕ) → count_of digits ≡ Some count → IsCount digits count
count_found [] count e = cc
count_found (digit ∷ digits) count e = numeral_found (digit ∷ digits) count e

-- an array that is read after a count and a letter
inner_found : (digits : List ℕ) (letter : ℕ) (rest : List ℕ) (count : ℕ) (descriptor : Descriptor) (read : Form) → IsCount digits count → letter ≡ descriptor_letter descriptor → array_of count descriptor rest ≡ Some read
    → IsForm Binary (digits ++ letter ∷ rest) read
inner_found digits letter [] count descriptor read is named e = absurd (let none : ◌≡◌ {A = Option Form} None (Some read) = e in cc)
inner_found digits letter (inner ∷ additional) count descriptor read is named e = elim (chosen (leb count 1) (option_map (λ type. Array count descriptor type) (element_of inner)) None (Some read) e) [
  | inl one ↦
      let found = option_map_some (λ type. Array count descriptor type) (element_of inner) read one.1 in
      let letters : digits ++ letter ∷ inner ∷ additional ≡ digits ++ descriptor_letter descriptor ∷ element_letter found.0 ∷ additional =
      ap (λ (first : ℕ). digits ++ first ∷ inner ∷ additional) named ∙ ap (λ (second : ℕ). digits ++ descriptor_letter descriptor ∷ second ∷ additional) (sym (element_found inner found.0 found.1)) in
      let array : IsArray (digits ++ letter ∷ inner ∷ additional) count descriptor found.0 =
      record { digits = digits; additional = additional; is_count = is; at_most_one = leb-true count 1 one.0; parts = letters } in
      subst (IsForm Binary (digits ++ letter ∷ inner ∷ additional)) found.2 array
  | inr more ↦ absurd (let none : ◌≡◌ {A = Option Form} None (Some read) = more.1 in cc)
]

-- elements that are read after a count
outer_found : (digits : List ℕ) (letter : ℕ) (rest : List ℕ) (count : ℕ) (read : Form) → IsCount digits count → option_map (λ type. Elements count type) (element_of letter) ≡ Some read → IsForm Binary (digits ++ letter ∷ rest) read
outer_found digits letter rest count read is e =
    let found = option_map_some (λ type. Elements count type) (element_of letter) read e in
    let elements : AreElements (digits ++ letter ∷ rest) count found.0 =
    record { digits = digits; additional = rest; is_count = is; parts = ap (λ (first : ℕ). digits ++ first ∷ rest) (sym (element_found letter found.0 found.1)) } in
    subst (IsForm Binary (digits ++ letter ∷ rest)) found.2 elements

-- what is read after a count
counted_found : (digits rest : List ℕ) (count : ℕ) (read : Form) → IsCount digits count → counted_form count rest ≡ Some read → IsForm Binary (digits ++ rest) read
counted_found digits [] count read is e = absurd (let none : ◌≡◌ {A = Option Form} None (Some read) = e in cc)
counted_found digits (letter ∷ rest) count read is e = elim (chosen (letter == 80) _ _ (Some read) e) [
  | inl narrow ↦ inner_found digits letter rest count Narrow read is (eqb-true letter 80 narrow.0) narrow.1
  | inr other ↦ elim (chosen (letter == 81) _ _ (Some read) other.1) [
    | inl wide ↦ inner_found digits letter rest count Wide read is (eqb-true letter 81 wide.0) wide.1
    | inr type ↦ outer_found digits letter rest count read is type.1
  ]
]

-- what is read of a binary table's TFORMn is so
pub binary_found : (text : List ℕ) (read : Form) → binary_form text ≡ Some read → IsForm Binary text read
unfolding binary_form
binary_found text read e =
    option_and_then_some (λ count. counted_form count (after_digits text)) (count_of (take_while is_digit text)) read e (λ count is behind.
    subst (λ (whole : List ℕ). IsForm Binary whole read) (take-append-drop (prefix_len is_digit text) text)
    (counted_found (take_while is_digit text) (after_digits text) count read (count_found (take_while is_digit text) count is) behind))
