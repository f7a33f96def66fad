use Rattle.std.proofs.Common.{rules, ◌≡◌, ℕ, ◌-◌, List, length, Some, ◌∙◌, ap, arith}
use Rattle.fits_value.specs.Scan.{number_of}
use Rattle.fits_value.specs.declared.reading.ValueKind.{ValueKind}
use Rattle.fits_value.proofs.NumberScanLemmas.{no_decimal, no_whole_decimal, whole_decimal}
use Rattle.fits_value.proofs.number.split_decimal.Goals as goal

-- a number that nothing follows has the bytes of the text
whole_bytes : (text rest : List ℕ) (k : ValueKind) → number_of text ≡ Some (k, length text - length rest) → length rest ≡ 0 → number_of text ≡ Some (k, length text)
whole_bytes text rest k e none = e ∙ ap (λ (n : ℕ). Some (k, n)) (omega (arith, none))

pub returns-in_default-clause-none : goal.returns-in_default-clause-none
returns-in_default-clause-none c = λ negative front back power d. no_decimal c.args.text.now front back negative power c.in_default.ensures.none d

pub returns-then-is_empty-clause-found : goal.returns-then-is_empty-clause-found
returns-then-is_empty-clause-found c =
    let none : length c.in-Some.rest.now ≡ 0 = search rules in
    whole_decimal _ _ _ c.in-Some.rest.now _ _ c.in-Some.ensures.found none

pub returns-then-is_empty-clause-kind : goal.returns-then-is_empty-clause-kind
returns-then-is_empty-clause-kind c =
    let none : length c.in-Some.rest.now ≡ 0 = search rules in
    whole_bytes c.args.text.now c.in-Some.rest.now _ c.in-Some.ensures.kind none

pub returns-else-is_empty-clause-none : goal.returns-else-is_empty-clause-none
returns-else-is_empty-clause-none c =
    let some : length c.in-Some.rest.now ≡ 0 → ⊥ = search rules in
    λ negative front back power d. no_whole_decimal c.args.text.now front back c.in-Some.rest.now negative power _ c.in-Some.ensures.kind c.in-Some.ensures.within some d
