use Rattle.std.proofs.Common.{arith}
use Rattle.std.proofs.lemmas.Result.{IfOk-weaker}
use Rattle.fits_stream.proofs.GaveLemmas.{overruns_after}
use Rattle.fits_stream.proofs.intake.Intake.overruns.Goals as goal

-- as many were gone past as might be taken
pub returns-clause-came : goal.returns-clause-came
returns-clause-came g c = rw (← c.self.view_is) (IfOk-weaker c.has_more.result _ _ (λ more came. overruns_after _ _ _ _ _ more c.in_ok-count.ensures.ok (omega (arith, c.in_ok-count.ensures.within, c.if-count-left.false)) came) c.has_more.ensures.came)
