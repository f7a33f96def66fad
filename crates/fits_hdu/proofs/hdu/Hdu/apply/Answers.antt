use Rattle.std.proofs.Common.{◌∙◌}
use Rattle.fits_hdu.proofs.ChangeLemmas.{kept_value}
use Rattle.fits_passing.proofs.LayoutLemmas.{layout_kept}
use Rattle.fits_hdu.proofs.hdu.Hdu.apply.Goals as goal

pub apply-requires-clause-kept : goal.apply-requires-clause-kept
apply-requires-clause-kept c = rw (kept_value _ _ c.self.inside.header.shape c.self.invariant.described) (rw (← c.self.view_is) at c.requires.kept)

-- the number that BLANK says is not followed yet
pub follow_blank-requires : goal.follow_blank-requires
follow_blank-requires c =
    let shape = c.sum_keywords-self-inside.ensures.work.shape ∙ (c.image_kind-self-inside.ensures.work.shape ∙ (c.mark-self-inside.ensures.work.shape ∙ c.apply.ensures.shape)) in
    rw shape (layout_kept c.self.inside.header.shape c.self.inside.header.header.cards c.sum_keywords-self-inside.new.header.header.cards c.self.inside.unit.plane.layout c.self.invariant.layout)
