use Rattle.fits_tell.specs.Stating.{stat_line}
use Rattle.fits_passing.specs.declared.hdu_stats.HduStats.{HduStats}
use Rattle.fits_tell.proofs.NumberedLemmas.{numbered-push}
use Rattle.fits_tell.proofs.stating.text_of.Goals as goal

pub loop-i-preserved : goal.loop-i-preserved
loop-i-preserved c = numbered-push (λ h (it : HduStats). stat_line h it.stats) c.loop-i.text.items _ c.args.stats.now c.loop-i.i _ c.loop-i-test.true c.loop-i.invariant c.in_ok-push_line.ensures
