use Rattle.fits_passing.proofs.SumLemmas.{verdicts_known}
use Rattle.fits_hdu.proofs.hdu.Hdu.verdicts.Goals as goal

pub returns : goal.returns
returns c =
    rw (← c.self.view_is) (verdicts_known c.verdicts_by.result c.self.inside.sums c.fold.result c.whole_sum-whole.result c.total.result c.total-unit.result _ c.verdicts_by.ensures c.self.invariant.sums c.fold.ensures c.total-unit.ensures c.whole_sum-whole.ensures c.total.ensures.value c.len-whole_words.ensures.whole)
