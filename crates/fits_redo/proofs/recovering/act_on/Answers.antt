use Rattle.std.proofs.Common.{subst, arith}
use Rattle.fits_redo.specs.Protocol.{IsRedoOf}
use Rattle.fits_redo.proofs.TellsLemmas.{told_short}
use Rattle.fits_redo.proofs.recovering.act_on.Goals as goal

pub returns-in-Ok-resume-clause-ok : goal.returns-in-Ok-resume-clause-ok
returns-in-Ok-resume-clause-ok g c f rests is =
    c.in-Ok-resume.ensures.ok f c.args.bytes.now rests.seen is (subst (λ r. IsRedoOf c.args.bytes.now r) c.in-Open.is c.in_ok-read_redo.ensures)

pub returns-in-Ok-resume-clause-written : goal.returns-in-Ok-resume-clause-written
returns-in-Ok-resume-clause-written g c =
    let it = subst (λ r. IsRedoOf c.args.bytes.now r) c.in-Open.is c.in_ok-read_redo.ensures in
    omega (arith, c.resume.ensures.written, told_short c.args.bytes.now c.in-Open.plan.blocks.items it.1 it.3)

pub returns-in-Open-clause-written : goal.returns-in-Open-clause-written
returns-in-Open-clause-written g c =
    let it = subst (λ r. IsRedoOf c.args.bytes.now r) c.in-Open.is c.in_ok-read_redo.ensures in
    omega (arith, c.resume.ensures.written, told_short c.args.bytes.now c.in-Open.plan.blocks.items it.1 it.3)
