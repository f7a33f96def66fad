use Rattle.fits_passing.specs.declared.hdu_sums.HduSums.{HduSums}
use Rattle.fits_tell.specs.Untouched.{untouched_lines}
use Rattle.fits_tell.proofs.NumberedLemmas.{numbered-push}
use Rattle.fits_tell.proofs.untouched.untouched_text.Goals as goal

pub loop-i-preserved : goal.loop-i-preserved
loop-i-preserved c = numbered-push (λ h (it : HduSums). untouched_lines h it.verdicts) c.loop-i.text.items _ c.args.sums.now c.loop-i.i _ c.loop-i-test.true c.loop-i.invariant c.in_ok-push_hdu.ensures
