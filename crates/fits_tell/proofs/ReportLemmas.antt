-- A report as a text: its lines, its counts, its closing line.
use Rattle.std.proofs.Common.{◌≡◌, ℕ, ◌+◌, ◌-◌, ◌<◌, ◌≤◌, List, [], ◌∷◌, ◌++◌, length, take, drop, get_or, refl, ap, sym, ◌∙◌, arith, true, false, zero, suc, None}
use Rattle.std.specs.Prelude.{not}
use Rattle.std.specs.List.{flat_map}
use Rattle.std.proofs.lemmas.List.{append-nil, take_all, take_more, take-append-drop, length-take-le}
use Rattle.std.proofs.lemmas.List.Concat.{flat_map-append}
use Rattle.std.proofs.lemmas.List.Filters.{length-filter_both}
use Rattle.std.proofs.lemmas.List.Sums.{length-filter, count_by-le-length, count_by_more_yes, count_by_more_no}
use Rattle.fits_codes.specs.Code.{is_error}
use Rattle.fits_passing.specs.declared.problem.Problem.{Problem}
use Rattle.fits_tell.specs.Report.{card_of, card_problem_line, closing_line, errors_in, listed_line, problem_line, problem_lines, report_text, warnings_in}
use Rattle.fits_tell.specs.declared.level.Level.TheVariants.{All}

-- lines of the first, and of one more
pub lines-more : {X : Type 0} (line : X → List ℕ) (report : List X) (i : ℕ) (d : X) → i < length report
    → flat_map line (take (i + 1) report) ≡ flat_map line (take i report) ++ line (get_or report i d)
lines-more line report i d l =
    ap (flat_map line) (take_more report i d l) ∙ flat_map-append line (take i report) (get_or report i d ∷ [])
    ∙ ap (λ t. flat_map line (take i report) ++ t) (append-nil (line (get_or report i d)))

-- lines of the first, and of the others
pub lines-split : {X : Type 0} (line : X → List ℕ) (report : List X) (i : ℕ) → flat_map line report ≡ flat_map line (take i report) ++ flat_map line (drop i report)
lines-split line report i =
    ap (flat_map line) (sym (take-append-drop i report)) ∙ flat_map-append line (take i report) (drop i report)

-- no header has a card
card_of-none : (h place : ℕ) → card_of [] h place ≡ None
card_of-none zero place = refl
card_of-none (suc index) place = refl

-- so a line without headers is one without a card
line-bare : (it : Problem) → problem_line it ≡ listed_line All [] it
unfolding card_problem_line
line-bare it = rw (card_of-none it.hdu it.place) refl

-- one more line is added
pub text_step : (text new : List ℕ) (report : List Problem) (i : ℕ) (d : Problem) → i < length report → text ≡ problem_lines All [] (take i report) → new ≡ text ++ problem_line (get_or report i d)
    → new ≡ problem_lines All [] (take (i + 1) report)
text_step text new report i d l before added =
    added ∙ ap (λ t. t ++ problem_line (get_or report i d)) before ∙ ap (λ t. problem_lines All [] (take i report) ++ t) (line-bare (get_or report i d)) ∙ sym (lines-more (listed_line All []) report i d l)

-- all lines, and the closing one
pub text_whole : (text new : List ℕ) (report : List Problem) (i : ℕ) → length report ≤ i → text ≡ problem_lines All [] (take i report) → new ≡ text ++ closing_line report → new ≡ report_text All [] report
text_whole text new report i l before added =
    added ∙ ap (λ t. t ++ closing_line report) (before ∙ ap (problem_lines All []) (take_all i report l))

-- what isn't an error is a warning
pub others_warn : (report : List Problem) (errors : ℕ) → errors ≡ errors_in report → length report - errors ≡ warnings_in report
others_warn report errors are =
    let both = length-filter_both (λ (it : Problem). is_error it.code) (λ (it : Problem). not (is_error it.code)) (λ it. refl) report in
    omega (arith, are, both, length-filter (λ (it : Problem). is_error it.code) report, length-filter (λ (it : Problem). not (is_error it.code)) report)

-- no problem, no error
pub errors-none : (report : List Problem) → 0 ≡ errors_in (take 0 report)
errors-none report = refl

-- one more error
pub errors-more : (report : List Problem) (i errors : ℕ) (d : Problem) → i < length report → is_error (get_or report i d).code ≡ true → errors ≡ errors_in (take i report) → errors + 1 ≡ errors_in (take (i + 1) report)
errors-more report i errors d l e are = omega (arith, are, count_by_more_yes (λ (it : Problem). is_error it.code) report i d l e)

-- one more warning
pub errors-same : (report : List Problem) (i errors : ℕ) (d : Problem) → i < length report → is_error (get_or report i d).code ≡ false → errors ≡ errors_in (take i report) → errors ≡ errors_in (take (i + 1) report)
errors-same report i errors d l e are = are ∙ sym (count_by_more_no (λ (it : Problem). is_error it.code) report i d l e)

-- no more errors than problems
pub errors-within : (report : List Problem) (i errors : ℕ) → errors ≡ errors_in (take i report) → i ≤ length report → errors ≤ i
errors-within report i errors are l = omega (arith, are, count_by-le-length (λ (it : Problem). is_error it.code) (take i report), length-take-le i report l)

-- the errors of all problems
pub errors-whole : (report : List Problem) (i errors : ℕ) → errors ≡ errors_in (take i report) → length report ≤ i → errors ≡ errors_in report
errors-whole report i errors are l = are ∙ ap errors_in (take_all i report l)

-- no more than there are problems
pub errors-few : (report : List Problem) (errors : ℕ) → errors ≡ errors_in report → errors ≤ length report
errors-few report errors are = omega (arith, are, count_by-le-length (λ (it : Problem). is_error it.code) report)

-- all are errors or warnings
pub all_counted : (report : List Problem) → errors_in report + warnings_in report ≡ length report
all_counted report = omega (arith, others_warn report (errors_in report) refl, errors-few report (errors_in report) refl)

pub ruleset count_steps = (errors-none, errors-more, errors-same, errors-within, errors-whole, errors-few)
