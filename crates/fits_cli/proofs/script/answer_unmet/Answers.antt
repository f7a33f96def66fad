use Rattle.std.proofs.Common.{ap, refl}
use Rattle.fits_tell.proofs.ExitLemmas.{at_exit}
use Rattle.fits_cli.specs.Remark.{remark_by}
use Rattle.fits_cli.specs.Running.{standing_at}
use Rattle.fits_cli.proofs.script.answer_unmet.Goals as goal

pub returns-clause-ok : goal.returns-clause-ok
unfolding remark_by
returns-clause-ok g c told = record {
  said = record {
    printed = rw (c.line-number.ensures, c.refuse-reply.ensures.reply) at c.in_ok-print_answer.ensures.ok;
    told = rw (c.line-number.ensures, c.refuse-reply.ensures.reply) at c.say.ensures;
  };
  left = ap (standing_at told) c.refuse-reply.ensures.left;
}

pub returns-in_err-print_answer-clause-err : goal.returns-in_err-print_answer-clause-err
returns-in_err-print_answer-clause-err g c bytes =
    let fails = rw (c.line-number.ensures, c.refuse-reply.ensures.reply) at c.in_err-print_answer.ensures.err in
    at_exit _ _ _ c.from_residual.ensures.1 (rw fails.0 (fails.1, refl))
