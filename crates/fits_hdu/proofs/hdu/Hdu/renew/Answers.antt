use Rattle.std.proofs.Common.{◌∙◌, ap, length, sym}
use Rattle.fits_rules.specs.Size.{data_length}
use Rattle.fits_passing.proofs.LayoutLemmas.{data_within, layout_fits}
use Rattle.fits_hdu.proofs.hdu.Hdu.renew.Goals as goal

pub layout_of-layout-requires : goal.layout_of-layout-requires
layout_of-layout-requires c =
    let shape = c.sum_keywords-self-inside.ensures.work.shape ∙ (c.image_kind-self-inside.ensures.work.shape ∙ (c.mark-self-inside.ensures.work.shape ∙ c.rewrite.ensures.shape)) in
    record { small = rw shape (data_within c.args.plan.shape (length c.args.bytes.items) c.requires.size c.requires.small) }

-- the bytes are as many as the cards describe
pub renew-requires-clause-layout : goal.renew-requires-clause-layout
renew-requires-clause-layout c =
    let after = c.sum_keywords-self-inside.new.header in
    let shape = c.sum_keywords-self-inside.ensures.work.shape ∙ (c.image_kind-self-inside.ensures.work.shape ∙ (c.mark-self-inside.ensures.work.shape ∙ c.rewrite.ensures.shape)) in
    rw c.layout_of-layout.ensures.value (layout_fits after.shape after.header.cards c.args.bytes.items c.layout_of-layout.ensures.described (c.requires.size ∙ ap data_length (sym shape)) c.requires.small)
