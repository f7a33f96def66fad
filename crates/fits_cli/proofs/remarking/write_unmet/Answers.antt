use Rattle.std.proofs.Common.{codes, ◌++◌}
use Rattle.fits_stream.proofs.StreamLemmas.{PrintsFront-longer, PrintsFront-more}
use Rattle.fits_tell.proofs.ExitLemmas.{at_exit, last_err}
use Rattle.fits_extended.specs.Stands.{unmet_text}
use Rattle.fits_cli.specs.Remark.{unmet_words}
use Rattle.fits_cli.proofs.remarking.write_unmet.Goals as goal

pub returns-in_err-write_all-2-clause-err : goal.returns-in_err-write_all-2-clause-err
returns-in_err-write_all-2-clause-err g c =
    let text = rw (c.as_bytes.ensures.value, c.text.ensures) at c.in_ok-write_all.ensures.ok in
    let rest = unmet_words c.args.why in
    at_exit _ _ _ c.from_residual-in_err-write_all-2.ensures.1
    (PrintsFront-more _ _ _ (unmet_text c.args.why) (codes ": " ++ rest) text (PrintsFront-longer _ _ (codes ": ") rest c.in_err-write_all-2.ensures.err))

pub returns-clause-err : goal.returns-clause-err
returns-clause-err g c =
    let text = rw (c.as_bytes.ensures.value, c.text.ensures) at c.in_ok-write_all.ensures.ok in
    let rest = unmet_words c.args.why in
    last_err _ c.write_words.ensures.err
    (λ why failed. PrintsFront-more _ _ _ (unmet_text c.args.why) (codes ": " ++ rest) text (PrintsFront-more _ _ _ (codes ": ") rest c.in_ok-write_all-2.ensures.ok failed))
