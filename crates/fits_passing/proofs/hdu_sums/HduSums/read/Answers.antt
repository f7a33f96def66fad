use Rattle.fits_passing.specs.Sums.{AreSumsOf}
use Rattle.fits_passing.proofs.PassingLemmas.{summed_header, summed_keeps}
use Rattle.fits_passing.proofs.hdu_sums.HduSums.read.Goals as goal

pub sums_of-requires-clause-whole : goal.sums_of-requires-clause-whole
sums_of-requires-clause-whole g c = summed_header _ _ _ c.in_ok-head.field-0.head.cards.header c.in_ok-head.field-0.head.shape c.in_ok-head.field-0.unit c.in_ok-head.ensures.ok

pub returns-clause-ok : goal.returns-clause-ok
returns-clause-ok g c =
    summed_keeps (AreSumsOf c.sums_of.result.datasum c.sums_of.result.verdicts) _ _ _ c.in_ok-head.field-0.head.cards.header c.in_ok-head.field-0.head.shape c.in_ok-head.field-0.unit c.in_ok-head.ensures.ok c.sums_of.ensures
