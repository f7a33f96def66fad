-- The place in a row that a card says.
use Rattle.std.proofs.Common.{◌≡◌, ℕ, Bool, true, false, leb, cond, Option, None, Some, option_and_then, refl, ap, sym, arith}
use Rattle.std.specs.Prelude.{ℤ, pos, negsuc}
use Rattle.std.proofs.lemmas.Bool.Decides.{nat_tests}
use Rattle.fits_rules.specs.Reads.{has_64_bits, in_64_bits}
use Rattle.fits_rules.specs.declared.integers.IntegerSaid.TheVariants.{Nothing, TooLarge, Number}
use Rattle.fits_rules.proofs.IntegerLemmas.{number_is}
use Rattle.fits_table.specs.Column.{start_in}

-- a number that is said
pub start_here : (o : Option ℤ) (number : ℤ) → Number number ≡ in_64_bits o → option_and_then start_in o ≡ start_in number
start_here o number e = ap (option_and_then start_in) (number_is o number e)

-- neither a number nor a larger one is none
none_is : (b : Bool) (n : ℤ) → Nothing ≡ cond b (Number n) TooLarge → ⊥
none_is true n e = cc
none_is false n e = cc

-- none that is said
pub start_nothing : (o : Option ℤ) → Nothing ≡ in_64_bits o → None ≡ option_and_then start_in o
start_nothing None e = refl
start_nothing (Some n) e = absurd (none_is (has_64_bits n) n e)

-- a larger one that is said
large_is : (b : Bool) (n : ℤ) → TooLarge ≡ cond b (Number n) TooLarge → b ≡ false
large_is true n e = cc
large_is false n e = refl

-- a larger one is no place in a row
start_over : (n : ℕ) → has_64_bits (pos n) ≡ false → start_in (pos n) ≡ None
start_over n over =
    let large : leb n 9223372036854775807 ≡ false = grind (arith, nat_tests) in
    grind (arith, nat_tests)

-- nor is a number of more than 64 bits
pub start_large : (o : Option ℤ) → TooLarge ≡ in_64_bits o → None ≡ option_and_then start_in o
start_large None e = refl
start_large (Some (pos n)) e = sym (start_over n (large_is (has_64_bits (pos n)) (pos n) e))
start_large (Some (negsuc n)) e = refl

pub ruleset start_steps = (start_here, start_nothing, start_large)
