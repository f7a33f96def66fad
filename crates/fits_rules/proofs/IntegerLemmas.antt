-- The integer that a card says alone.
use Rattle.std.proofs.Common.{◌≡◌, ℕ, ◌≤◌, Bool, true, false, cond, leb, List, Option, None, Some, option_and_then, refl, ap, sym, ◌∙◌, inl, inr, arith}
use Rattle.std.specs.Prelude.{ℤ, pos, negsuc, FitsSigned}
use Rattle.std.specs.Int.{w64}
use Rattle.std.proofs.lemmas.Bool.{cases_Bool, cond-true, cond-false, leb-true}
use Rattle.std.proofs.lemmas.Bool.Decides.{nat_tests}
use Rattle.fits_value.proofs.IntegerLemmas as value
use Rattle.fits_value.proofs.NumberLemmas.{integer_has_number}
use Rattle.fits_value.specs.Says.{value_spelled, integer_in}
use Rattle.fits_value.specs.Spelling.{Spells}
use Rattle.fits_value.specs.Value.{kind_of}
use Rattle.fits_value.specs.declared.reading.ValueKind.TheVariants as kind
use Rattle.fits_value.specs.declared.value.Value.{Value}
use Rattle.fits_value.specs.declared.value.Value.TheVariants.{Undefined, Logical, Integer, Real, Complex, Str}
use Rattle.fits_rules.specs.Reads.{value_said, integer_of_value, integer_said, has_64_bits, in_64_bits}
use Rattle.fits_rules.specs.Shape.{is_bitpix, bitpix_in, up_to}
use Rattle.fits_rules.specs.declared.integers.IntegerSaid.TheVariants.{Nothing, TooLarge, Number}
use Rattle.fits_rules.proofs.ReadLemmas.{of_no_kind}

-- the integer of an integer
integer_spelled : (card text : List ℕ) → value_said card ≡ value_spelled kind.Integer text → integer_said card ≡ integer_in text
unfolding integer_said
integer_spelled card text said = ap (option_and_then integer_of_value) said

-- no other value has one
no_integer_value : (value : Value) → (kind_of value ≡ kind.Integer → ⊥) → integer_of_value value ≡ None
no_integer_value Undefined other = refl
no_integer_value (Logical flag) other = refl
no_integer_value (Integer text) other = absurd (other refl)
no_integer_value (Real text) other = refl
no_integer_value (Complex real imaginary) other = refl
no_integer_value (Str text) other = refl

-- what fits has 64 bits, and what has them fits
fits_64_bits : (number : ℤ) → FitsSigned w64 number → has_64_bits number ≡ true
fits_64_bits (pos n) fits = let small = fits.sfits in grind (arith, nat_tests)
fits_64_bits (negsuc n) fits = let small = fits.sfits in grind (arith, nat_tests)

-- and the other way round
bits_64_fit : (number : ℤ) → has_64_bits number ≡ true → FitsSigned w64 number
bits_64_fit (pos n) has = record { sfits = grind (arith, nat_tests) }
bits_64_fit (negsuc n) has = record { sfits = grind (arith, nat_tests) }

-- a card without an integer
pub nothing_said : (card : List ℕ) → ((value : Value) → value_said card ≡ Some value → kind_of value ≡ kind.Integer → ⊥) → Nothing ≡ in_64_bits (integer_said card)
unfolding integer_said
nothing_said card none = ap in_64_bits (sym (of_no_kind integer_of_value kind.Integer (value_said card) no_integer_value none))

-- a card with one of 64 bits
pub number_said : (card text : List ℕ) (number : ℤ) → value_said card ≡ value_spelled kind.Integer text → FitsSigned w64 number → integer_in text ≡ Some number → Number number ≡ in_64_bits (integer_said card)
number_said card text number said fits is =
    sym (ap in_64_bits (integer_spelled card text said ∙ is) ∙ cond-true (has_64_bits number) (Number number) TooLarge (fits_64_bits number fits))

-- and with a larger one
pub large_said : (card text : List ℕ) → value_said card ≡ value_spelled kind.Integer text → Spells kind.Integer text → ((number : ℤ) → integer_in text ≡ Some number → FitsSigned w64 number → ⊥) → TooLarge ≡ in_64_bits (integer_said card)
large_said card text said spelled large =
    let number = integer_has_number text spelled in
    let is : integer_in text ≡ Some number.0 = value.integer_said text number.0 number.1 in
    elim (cases_Bool (has_64_bits number.0)) [
      | inl has ↦ absurd (large number.0 is (bits_64_fit number.0 has))
      | inr other ↦ sym (ap in_64_bits (integer_spelled card text said ∙ is) ∙ cond-false (has_64_bits number.0) (Number number.0) TooLarge other)
    ]

pub ruleset integer_steps = (nothing_said, number_said, large_said)

-- which integer is said where one of 64 bits is, or none, or a larger one
choice : (b : Bool) (m n : ℤ) → Number m ≡ cond b (Number n) TooLarge → n ≡ m
choice true m n e = cc
choice false m n e = cc

-- a number that is said
pub number_is : (o : Option ℤ) (number : ℤ) → Number number ≡ in_64_bits o → o ≡ Some number
number_is None number e = cc
number_is (Some n) number e = ap Some (choice (has_64_bits n) number n e)

-- neither a number nor a larger one is none
none_is : (b : Bool) (n : ℤ) → Nothing ≡ cond b (Number n) TooLarge → ⊥
none_is true n e = cc
none_is false n e = cc

-- none that is said
nothing_is : (o : Option ℤ) → Nothing ≡ in_64_bits o → o ≡ None
nothing_is None e = refl
nothing_is (Some n) e = absurd (none_is (has_64_bits n) n e)

-- a larger one that is said
large_is : (b : Bool) (n : ℤ) → TooLarge ≡ cond b (Number n) TooLarge → b ≡ false
large_is true n e = cc
large_is false n e = refl

-- BITPIX is one of six numbers, which have 64 bits
bitpix_fits : (number : ℤ) → is_bitpix number ≡ true → has_64_bits number ≡ true
bitpix_fits (pos n) holds = grind (arith, nat_tests)
bitpix_fits (negsuc n) holds = grind (arith, nat_tests)

-- BITPIX where its number is one of the six
pub bitpix_here : (o : Option ℤ) (number : ℤ) → is_bitpix number ≡ true → Number number ≡ in_64_bits o → Some number ≡ option_and_then bitpix_in o
bitpix_here o number holds e = sym (ap (option_and_then bitpix_in) (number_is o number e) ∙ cond-true (is_bitpix number) (Some number) None holds)

-- where it is another
pub bitpix_other : (o : Option ℤ) (number : ℤ) → is_bitpix number ≡ false → Number number ≡ in_64_bits o → None ≡ option_and_then bitpix_in o
bitpix_other o number fails e = sym (ap (option_and_then bitpix_in) (number_is o number e) ∙ cond-false (is_bitpix number) (Some number) None fails)

-- where none is said
pub bitpix_nothing : (o : Option ℤ) → Nothing ≡ in_64_bits o → None ≡ option_and_then bitpix_in o
bitpix_nothing o e = sym (ap (option_and_then bitpix_in) (nothing_is o e))

-- where a larger one is
pub bitpix_large : (o : Option ℤ) → TooLarge ≡ in_64_bits o → None ≡ option_and_then bitpix_in o
bitpix_large None e = refl
bitpix_large (Some n) e = elim (cases_Bool (is_bitpix n)) [
  | inl holds ↦ let no : true ≡ false = sym (bitpix_fits n holds) ∙ large_is (has_64_bits n) n e in absurd (cc)
  | inr fails ↦ sym (cond-false (is_bitpix n) (Some n) None fails)
]

pub ruleset bitpix_steps = (bitpix_here, bitpix_other, bitpix_nothing, bitpix_large)

-- a number from 0 to a limit has 64 bits
limit_fits : (limit n : ℕ) → limit ≤ 9223372036854775807 → leb n limit ≡ true → has_64_bits (pos n) ≡ true
limit_fits limit n small holds = let within = leb-true n limit holds in grind (arith, nat_tests)

-- where none is
pub number_nothing : (limit : ℕ) (o : Option ℤ) → Nothing ≡ in_64_bits o → None ≡ option_and_then (up_to limit) o
number_nothing limit o e = sym (ap (option_and_then (up_to limit)) (nothing_is o e))

-- where a larger one is
pub number_large : (limit : ℕ) (o : Option ℤ) → limit ≤ 9223372036854775807 → TooLarge ≡ in_64_bits o → None ≡ option_and_then (up_to limit) o
number_large limit None small e = refl
number_large limit (Some (pos n)) small e = elim (cases_Bool (leb n limit)) [
  | inl holds ↦ let no : true ≡ false = sym (limit_fits limit n small holds) ∙ large_is (has_64_bits (pos n)) (pos n) e in absurd (cc)
  | inr fails ↦ sym (cond-false (leb n limit) (Some n) None fails)
]
number_large limit (Some (negsuc n)) small e = refl

pub ruleset number_steps = (number_is, number_nothing, number_large)
