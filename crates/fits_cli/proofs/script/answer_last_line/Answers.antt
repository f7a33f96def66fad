use Rattle.std.proofs.Common.{rules, ◌<◌, ◌≡◌, length}
use Rattle.fits_tell.proofs.ExitLemmas.{at_exit}
use Rattle.fits_cli.specs.Running.{standing_at}
use Rattle.fits_cli.proofs.RunLemmas.{EndsScript-none, EndsScript-line, EndStops-line}
use Rattle.fits_cli.proofs.FrameLemmas.{some_none}
use Rattle.fits_cli.proofs.script.answer_last_line.Goals as goal

pub returns-then-is_empty-clause-ok : goal.returns-then-is_empty-clause-ok
returns-then-is_empty-clause-ok g c told by = EndsScript-none c.args.line.now _ _ (let empty : length c.args.line.now ≡ 0 = search rules in empty)

pub returns-in_err-answer_line-clause-err : goal.returns-in_err-answer_line-clause-err
returns-in_err-answer_line-clause-err g c told by =
    let some : 0 < length c.args.line.now = search rules in
    at_exit _ _ _ c.from_residual.ensures.1 (EndStops-line c.args.line.now (standing_at told c.args.runner.now) _ _ _ some (c.in_err-answer_line.ensures.err told by))

pub returns-clause-ok : goal.returns-clause-ok
returns-clause-ok g c told by =
    let some : 0 < length c.args.line.now = search rules in
    EndsScript-line c.args.line.now _ _ _ _ some (c.in_ok-answer_line.ensures.ok told by)

pub returns-then-is_empty-clause-said : goal.returns-then-is_empty-clause-said
returns-then-is_empty-clause-said g c = some_none _
