-- How many errors and warnings a report lists.
use Rattle.std.proofs.Common.{◌≡◌, ℕ, ◌+◌, ◌-◌, ◌<◌, ◌≤◌, true, false, List, length, take, get_or, refl, ap, sym, ◌∙◌, arith}
use Rattle.std.specs.Prelude.{not}
use Rattle.std.proofs.lemmas.List.{take_all, length-take-le}
use Rattle.std.proofs.lemmas.List.Filters.{length-filter_both}
use Rattle.std.proofs.lemmas.List.Sums.{length-filter, count_by-le-length, count_by_more_yes, count_by_more_no}
use Rattle.fits_tell.specs.Listed.{is_listed_error, listed_errors, listed_warnings}
use Rattle.fits_tell.specs.declared.listed.Listed.{Listed}

-- nothing listed, no error
pub errors-none : (report : List Listed) → 0 ≡ listed_errors (take 0 report)
errors-none report = refl

-- one more error
pub errors-more : (report : List Listed) (i errors : ℕ) (d : Listed) → i < length report → is_listed_error (get_or report i d) ≡ true → errors ≡ listed_errors (take i report) → errors + 1 ≡ listed_errors (take (i + 1) report)
errors-more report i errors d l e are = omega (arith, are, count_by_more_yes is_listed_error report i d l e)

-- one more warning
pub errors-same : (report : List Listed) (i errors : ℕ) (d : Listed) → i < length report → is_listed_error (get_or report i d) ≡ false → errors ≡ listed_errors (take i report) → errors ≡ listed_errors (take (i + 1) report)
errors-same report i errors d l e are = are ∙ sym (count_by_more_no is_listed_error report i d l e)

-- no more errors than there are so far
pub errors-within : (report : List Listed) (i errors : ℕ) → errors ≡ listed_errors (take i report) → i ≤ length report → errors ≤ i
errors-within report i errors are l = omega (arith, are, count_by-le-length is_listed_error (take i report), length-take-le i report l)

-- all errors
pub errors-whole : (report : List Listed) (i errors : ℕ) → errors ≡ listed_errors (take i report) → length report ≤ i → errors ≡ listed_errors report
errors-whole report i errors are l = are ∙ ap listed_errors (take_all i report l)

-- no more than are listed
pub errors-few : (report : List Listed) (errors : ℕ) → errors ≡ listed_errors report → errors ≤ length report
errors-few report errors are = omega (arith, are, count_by-le-length is_listed_error report)

-- what isn't an error is a warning
pub others_warn : (report : List Listed) (errors : ℕ) → errors ≡ listed_errors report → length report - errors ≡ listed_warnings report
others_warn report errors are =
    let both = length-filter_both is_listed_error (λ (it : Listed). not (is_listed_error it)) (λ it. refl) report in
    omega (arith, are, both, length-filter is_listed_error report, length-filter (λ (it : Listed). not (is_listed_error it)) report)

pub ruleset count_steps = (errors-none, errors-more, errors-same, errors-within, errors-whole, errors-few)
