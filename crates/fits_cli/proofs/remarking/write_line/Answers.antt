use Rattle.fits_cli.proofs.ComplaintLemmas.{complaint_word, complaint_number, complaint_colon, complaint_why, complaint_end, complaint_whole}
use Rattle.fits_tell.proofs.ExitLemmas.{at_exit, last_err, last_ok}
use Rattle.fits_cli.specs.Remark.{remark_by, words_of}
use Rattle.fits_cli.proofs.remarking.write_line.Goals as goal

pub returns-in_err-write_all-clause-err : goal.returns-in_err-write_all-clause-err
returns-in_err-write_all-clause-err g c =
    at_exit _ _ _ c.from_residual.ensures.1 (complaint_word _ _ c.args.number (words_of (remark_by c.args.line.now c.args.reply.now)) c.in_err-write_all.ensures.err)

pub returns-in_err-write_all-2-clause-err : goal.returns-in_err-write_all-2-clause-err
returns-in_err-write_all-2-clause-err g c =
    let failed = rw (c.as_bytes.ensures.value, c.format.ensures.text) at c.in_err-write_all-2.ensures.err in
    at_exit _ _ _ c.from_residual-in_err-write_all-2.ensures.1 (complaint_number _ _ _ c.args.number (words_of (remark_by c.args.line.now c.args.reply.now)) c.in_ok-write_all.ensures.ok failed)

pub returns-in_err-write_all-3-clause-err : goal.returns-in_err-write_all-3-clause-err
returns-in_err-write_all-3-clause-err g c =
    let number = rw (c.as_bytes.ensures.value, c.format.ensures.text) at c.in_ok-write_all-2.ensures.ok in
    at_exit _ _ _ c.from_residual-in_err-write_all-3.ensures.1
    (complaint_colon _ _ _ _ c.args.number (words_of (remark_by c.args.line.now c.args.reply.now)) c.in_ok-write_all.ensures.ok number c.in_err-write_all-3.ensures.err)

pub returns-in_err-write_remark-clause-err : goal.returns-in_err-write_remark-clause-err
returns-in_err-write_remark-clause-err g c =
    let number = rw (c.as_bytes.ensures.value, c.format.ensures.text) at c.in_ok-write_all-2.ensures.ok in
    at_exit _ _ _ c.from_residual-in_err-write_remark.ensures.1
    (complaint_why _ _ _ _ _ c.args.number (words_of (remark_by c.args.line.now c.args.reply.now)) c.in_ok-write_all.ensures.ok number c.in_ok-write_all-3.ensures.ok c.in_err-write_remark.ensures.err)

pub returns-clause-err : goal.returns-clause-err
returns-clause-err g c =
    let number = rw (c.as_bytes.ensures.value, c.format.ensures.text) at c.in_ok-write_all-2.ensures.ok in
    last_err _ c.write_all-4.ensures.err
    (λ why failed. complaint_end _ _ _ _ _ _ c.args.number (words_of (remark_by c.args.line.now c.args.reply.now)) c.in_ok-write_all.ensures.ok number c.in_ok-write_all-3.ensures.ok c.in_ok-write_remark.ensures.ok failed)

pub returns-clause-ok : goal.returns-clause-ok
returns-clause-ok g c =
    let number = rw (c.as_bytes.ensures.value, c.format.ensures.text) at c.in_ok-write_all-2.ensures.ok in
    last_ok _ c.write_all-4.ensures.ok
    (λ printed. complaint_whole _ _ _ _ _ _ c.args.number (words_of (remark_by c.args.line.now c.args.reply.now)) c.in_ok-write_all.ensures.ok number c.in_ok-write_all-3.ensures.ok c.in_ok-write_remark.ensures.ok printed)
