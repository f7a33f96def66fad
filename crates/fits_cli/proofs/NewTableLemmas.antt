-- What is new of the problems of tables, and how it is found.
use Rattle.std.proofs.Common.{◌≡◌, ℕ, ◌+◌, ◌-◌, ◌<◌, ◌≤◌, Bool, true, false, List, [], ◌∷◌, ◌++◌, length, take, get_or, refl, ap, sym, ◌∙◌, append_assoc, arith}
use Rattle.std.specs.Prelude.{not, if◌then◌else◌}
use Rattle.std.specs.List.{filter}
use Rattle.std.proofs.lemmas.List.{append-nil, take_all, take_more, length-take-le}
use Rattle.std.proofs.lemmas.List.Concat.{flat_map-append}
use Rattle.std.proofs.lemmas.List.Elements.{filter_more}
use Rattle.std.proofs.lemmas.List.Filters.{length-filter_both}
use Rattle.std.proofs.lemmas.List.Sums.{length-filter, count_by-le-length, count_by_more_yes, count_by_more_no}
use Rattle.fits_table.specs.TableCode.{is_error}
use Rattle.fits_table.specs.declared.table_code.TableCode.{TableCode}
use Rattle.fits_tell.specs.declared.level.Level.{Level}
use Rattle.fits_tell.specs.declared.table_problem.TableProblem.{TableProblem}
use Rattle.fits_cli.specs.NewTables.{is_new_table, is_of_table_code, new_table_line, new_table_lines, new_tables, table_count, table_errors, table_warnings}

-- no problem of a code among none
pub count-none : (code : TableCode) (report : List TableProblem) → 0 ≡ table_count code (take 0 report)
count-none code report = refl

-- one more
pub count-more : (code : TableCode) (report : List TableProblem) (i n : ℕ) (d : TableProblem) → i < length report → is_of_table_code code (get_or report i d) ≡ true → n ≡ table_count code (take i report) → n + 1 ≡ table_count code (take (i + 1) report)
count-more code report i n d l e is = omega (arith, is, count_by_more_yes (is_of_table_code code) report i d l e)

-- one that isn't
pub count-same : (code : TableCode) (report : List TableProblem) (i n : ℕ) (d : TableProblem) → i < length report → is_of_table_code code (get_or report i d) ≡ false → n ≡ table_count code (take i report) → n ≡ table_count code (take (i + 1) report)
count-same code report i n d l e is = is ∙ sym (count_by_more_no (is_of_table_code code) report i d l e)

-- no more than there are
pub count-within : (code : TableCode) (report : List TableProblem) (i n : ℕ) → n ≡ table_count code (take i report) → i ≤ length report → n ≤ i
count-within code report i n is l = omega (arith, is, count_by-le-length (is_of_table_code code) (take i report), length-take-le i report l)

-- all of them
pub count-whole : (code : TableCode) (report : List TableProblem) (i n : ℕ) → n ≡ table_count code (take i report) → length report ≤ i → n ≡ table_count code report
count-whole code report i n is l = is ∙ ap (table_count code) (take_all i report l)

-- no more than are listed
pub count-few : (code : TableCode) (report : List TableProblem) (n : ℕ) → n ≡ table_count code report → n ≤ length report
count-few code report n is = omega (arith, is, count_by-le-length (is_of_table_code code) report)

pub ruleset count_steps = (count-none, count-more, count-same, count-within, count-whole, count-few)

-- no error among none
pub errors-none : (report : List TableProblem) → 0 ≡ table_errors (take 0 report)
errors-none report = refl

-- one more
pub errors-more : (report : List TableProblem) (i n : ℕ) (d : TableProblem) → i < length report → is_error (get_or report i d).code ≡ true → n ≡ table_errors (take i report) → n + 1 ≡ table_errors (take (i + 1) report)
errors-more report i n d l e is = omega (arith, is, count_by_more_yes (λ (it : TableProblem). is_error it.code) report i d l e)

-- one that isn't
pub errors-same : (report : List TableProblem) (i n : ℕ) (d : TableProblem) → i < length report → is_error (get_or report i d).code ≡ false → n ≡ table_errors (take i report) → n ≡ table_errors (take (i + 1) report)
errors-same report i n d l e is = is ∙ sym (count_by_more_no (λ (it : TableProblem). is_error it.code) report i d l e)

-- no more than there are
pub errors-within : (report : List TableProblem) (i n : ℕ) → n ≡ table_errors (take i report) → i ≤ length report → n ≤ i
errors-within report i n is l = omega (arith, is, count_by-le-length (λ (it : TableProblem). is_error it.code) (take i report), length-take-le i report l)

-- all of them
pub errors-whole : (report : List TableProblem) (i n : ℕ) → n ≡ table_errors (take i report) → length report ≤ i → n ≡ table_errors report
errors-whole report i n is l = is ∙ ap (table_errors) (take_all i report l)

-- no more than are listed
pub errors-few : (report : List TableProblem) (n : ℕ) → n ≡ table_errors report → n ≤ length report
errors-few report n is = omega (arith, is, count_by-le-length (λ (it : TableProblem). is_error it.code) report)

pub ruleset error_steps = (errors-none, errors-more, errors-same, errors-within, errors-whole, errors-few)

-- what isn't an error is a warning
pub others_warn : (report : List TableProblem) (errors : ℕ) → errors ≡ table_errors report → length report - errors ≡ table_warnings report
others_warn report errors are =
    let both = length-filter_both (λ (it : TableProblem). is_error it.code) (λ (it : TableProblem). not (is_error it.code)) (λ it. refl) report in
    omega (arith, are, both, length-filter (λ (it : TableProblem). is_error it.code) report, length-filter (λ (it : TableProblem). not (is_error it.code)) report)

-- all are errors or warnings
pub all_counted : (report : List TableProblem) → table_errors report + table_warnings report ≡ length report
all_counted report = omega (arith, others_warn report (table_errors report) refl, errors-few report (table_errors report) refl)

-- one more problem, where it is new
pub new-more : (level : Level) (before after found more : List TableProblem) (i : ℕ) (d : TableProblem) → i < length after → found ≡ filter (is_new_table level before after) (take i after)
    → more ≡ found ++ (if is_new_table level before after (get_or after i d) then get_or after i d ∷ [] else []) → more ≡ filter (is_new_table level before after) (take (i + 1) after)
new-more level before after found more i d l is added =
    let p : TableProblem → Bool = is_new_table level before after in
    added ∙ (ap (λ xs. xs ++ (if p (get_or after i d) then get_or after i d ∷ [] else [])) is ∙ sym (filter_more p after i d l))

-- all new ones
pub new-whole : (level : Level) (before after found : List TableProblem) (i : ℕ) → length after ≤ i → found ≡ filter (is_new_table level before after) (take i after) → found ≡ new_tables level before after
unfolding new_tables
new-whole level before after found i l is = is ∙ ap (filter (is_new_table level before after)) (take_all i after l)

-- one more line
pub lines-more : (text now next : List ℕ) (report : List TableProblem) (i : ℕ) (d : TableProblem) → i < length report → now ≡ text ++ new_table_lines (take i report) → next ≡ now ++ new_table_line (get_or report i d) → next ≡ text ++ new_table_lines (take (i + 1) report)
lines-more text now next report i d l is added =
    let line : List ℕ = new_table_line (get_or report i d) in
    let lines : new_table_lines (take (i + 1) report) ≡ new_table_lines (take i report) ++ line =
    ap new_table_lines (take_more report i d l) ∙ (flat_map-append new_table_line (take i report) (get_or report i d ∷ []) ∙ ap (λ t. new_table_lines (take i report) ++ t) (append-nil line)) in
    added ∙ (ap (λ t. t ++ line) is ∙ (append_assoc text (new_table_lines (take i report)) line ∙ ap (λ t. text ++ t) (sym lines)))

-- all lines
pub lines-whole : (text now : List ℕ) (report : List TableProblem) (i : ℕ) → length report ≤ i → now ≡ text ++ new_table_lines (take i report) → now ≡ text ++ new_table_lines report
lines-whole text now report i l is = is ∙ ap (λ xs. text ++ new_table_lines xs) (take_all i report l)
