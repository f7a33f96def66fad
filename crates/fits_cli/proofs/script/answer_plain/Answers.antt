use Rattle.fits_tell.proofs.ExitLemmas.{at_exit}
use Rattle.fits_cli.specs.Running.{standing_at}
use Rattle.fits_cli.proofs.RemarkLemmas.{said_line}
use Rattle.fits_cli.proofs.RunLemmas.{PlainStops-reply}
use Rattle.fits_cli.proofs.FrameLemmas.{line_none, line_part}
use Rattle.fits_cli.proofs.script.answer_plain.Goals as goal

pub returns-clause-ok : goal.returns-clause-ok
returns-clause-ok g c told by = record {
  said = record {
    printed = rw (c.line-number.ensures, (c.in_ok-reply.ensures.text told by)) at c.in_ok-print_answer.ensures.ok;
    told = said_line g.E.Sink.state (standing_at told c.args.runner.now) c.args.line.now _ c.is_some-wanted.result c.in_ok-reply.reply c.args.told.now _
        c.line-number.ensures c.is_some-wanted.ensures (c.in_ok-reply.ensures.remark told by) c.say.ensures;
  };
  left = (c.in_ok-reply.ensures.left told by);
}

pub returns-in_err-reply-clause-err : goal.returns-in_err-reply-clause-err
returns-in_err-reply-clause-err g c told by = at_exit _ _ _ c.from_residual.ensures.1 (PlainStops-reply c.args.line.now (standing_at told c.args.runner.now) _ _ (c.in_err-reply.ensures.err told by))

pub returns-clause-said : goal.returns-clause-said
returns-clause-said g c = record { text = _; printed = c.in_ok-print_answer.ensures.ok }

pub returns-in_err-reply-clause-leaves : goal.returns-in_err-reply-clause-leaves
returns-in_err-reply-clause-leaves g c = at_exit _ _ _ c.from_residual.ensures.1 (line_none _ c.in_err-reply.field-0.0 c.in_err-reply.ensures.unanswered)

pub returns-in_err-print_answer-clause-leaves : goal.returns-in_err-print_answer-clause-leaves
returns-in_err-print_answer-clause-leaves g c = at_exit _ _ _ c.from_residual-in_err-print_answer.ensures.1 (line_part _ _ _ c.in_err-print_answer.field-0.0 c.in_err-print_answer.ensures.err)
