use Rattle.std.proofs.Common.{ℕ, List, [], ap, ◌∙◌}
use Rattle.std.specs.Prelude.{if◌then◌else◌}
use Rattle.fits_tell.proofs.ExitLemmas.{at_exit}
use Rattle.fits_tell.proofs.TableReportLemmas.{TextIsTold-report, TextStopsBy-report}
use Rattle.fits_tell.proofs.verifying.verify.Goals as goal

pub returns-in_err-print_listed-clause-err : goal.returns-in_err-print_listed-clause-err
returns-in_err-print_listed-clause-err g c =
    let listed = rw c.deref.ensures.value at c.in_ok-problems-2.ensures.problems in
    let told = c.told_headers-headers.ensures ∙ ap (λ (headers : List (List (List ℕ))). if c.args.cards then headers else []) c.in_ok-problems-2.ensures.headers in
    at_exit _ _ _ c.from_residual-in_err-print_listed.ensures.1
    (TextStopsBy-report _ _ _ _ c.args.level c.args.strict c.args.cards c.args.tables _ _ _ _ c.in_err-print_listed.field-0.0 c.in_ok-problems.ensures.ok c.in_ok-problems.ensures.quiet listed told
    (rw c.deref-2.ensures.value at c.in_err-print_listed.ensures.err))

pub returns-clause-ok : goal.returns-clause-ok
returns-clause-ok g c =
    let listed = rw c.deref.ensures.value at c.in_ok-problems-2.ensures.problems in
    let told = c.told_headers-headers.ensures ∙ ap (λ (headers : List (List (List ℕ))). if c.args.cards then headers else []) c.in_ok-problems-2.ensures.headers in
    TextIsTold-report _ _ _ _ c.args.level c.args.strict c.args.cards c.args.tables _ _ _ _ _ c.in_ok-problems.ensures.ok c.in_ok-problems.ensures.quiet listed told
    (rw c.deref-2.ensures.value at c.in_ok-print_listed.ensures.ok) (rw c.deref-3.ensures.value at c.status_of_report.ensures)
