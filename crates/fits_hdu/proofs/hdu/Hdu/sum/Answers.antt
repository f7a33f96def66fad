use Rattle.std.proofs.Common.{ap, ◌∙◌}
use Rattle.fits_rules.specs.Class.{is_primary}
use Rattle.fits_sum.specs.OnesComplement.{ones_complement}
use Rattle.fits_hdu.specs.State.{parts_of}
use Rattle.fits_hdu.proofs.StampingLemmas.{sum_parts}
use Rattle.fits_hdu.proofs.hdu.Hdu.sum.Goals as goal

pub returns : goal.returns
returns c =
    c.fold.ensures
    ∙ sum_parts (is_primary c.args.self.now.header.shape.class) (parts_of c.args.self.now) c.from.result c.from-2.result c.card_count-whole.ensures.whole
    (c.from.ensures ∙ (c.fold-header.ensures ∙ ap ones_complement (rw (← c.self.view_is) c.total.ensures.value))) (c.from-2.ensures ∙ c.datasum.ensures)
