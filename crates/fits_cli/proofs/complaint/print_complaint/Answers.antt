use Rattle.fits_cli.proofs.ComplaintLemmas.{complaint_word, complaint_number, complaint_colon, complaint_why, complaint_end, complaint_whole}
use Rattle.fits_tell.proofs.ExitLemmas.{last_ok}
use Rattle.fits_cli.proofs.ExitLemmas.{print_exit, print_last}
use Rattle.fits_cli.proofs.complaint.print_complaint.Goals as goal

pub returns-in_err-print-clause-err : goal.returns-in_err-print-clause-err
returns-in_err-print-clause-err g c =
    let failed = c.in_err-print.ensures.err in
    print_exit _ _ _ _ _ c.from_residual.ensures.1 failed.0 (complaint_word _ _ c.args.line c.args.why.now failed.1)

pub returns-in_err-print_number-clause-err : goal.returns-in_err-print_number-clause-err
returns-in_err-print_number-clause-err g c =
    let failed = c.in_err-print_number.ensures.err in
    print_exit _ _ _ _ _ c.from_residual-in_err-print_number.ensures.1 failed.0 (complaint_number _ _ _ c.args.line c.args.why.now c.in_ok-print.ensures.ok failed.1)

pub returns-in_err-print-2-clause-err : goal.returns-in_err-print-2-clause-err
returns-in_err-print-2-clause-err g c =
    let failed = c.in_err-print-2.ensures.err in
    print_exit _ _ _ _ _ c.from_residual-in_err-print-2.ensures.1 failed.0 (complaint_colon _ _ _ _ c.args.line c.args.why.now c.in_ok-print.ensures.ok c.in_ok-print_number.ensures.ok failed.1)

pub returns-in_err-print-3-clause-err : goal.returns-in_err-print-3-clause-err
returns-in_err-print-3-clause-err g c =
    let failed = rw c.as_bytes.ensures.value at c.in_err-print-3.ensures.err in
    print_exit _ _ _ _ _ c.from_residual-in_err-print-3.ensures.1 failed.0 (complaint_why _ _ _ _ _ c.args.line c.args.why.now c.in_ok-print.ensures.ok c.in_ok-print_number.ensures.ok c.in_ok-print-2.ensures.ok failed.1)

pub returns-clause-err : goal.returns-clause-err
returns-clause-err g c =
    print_last _ _ _ _ _ _ c.print-4.ensures.err
    (λ front. complaint_end _ _ _ _ _ _ c.args.line c.args.why.now c.in_ok-print.ensures.ok c.in_ok-print_number.ensures.ok c.in_ok-print-2.ensures.ok (rw c.as_bytes.ensures.value at c.in_ok-print-3.ensures.ok) front)

pub returns-clause-ok : goal.returns-clause-ok
returns-clause-ok g c =
    last_ok _ c.print-4.ensures.ok
    (λ printed. complaint_whole _ _ _ _ _ _ c.args.line c.args.why.now c.in_ok-print.ensures.ok c.in_ok-print_number.ensures.ok c.in_ok-print-2.ensures.ok (rw c.as_bytes.ensures.value at c.in_ok-print-3.ensures.ok) printed)
