use Rattle.std.proofs.Common.{◌∙◌, arith, inl, inr, refl}
use Rattle.fits_plane.proofs.ShortRowLemmas.{part_groups, kept_after}
use Rattle.fits_plane.proofs.short_rows.paint_part.Goals as goal

-- the block is one of the data unit's
pub leaf_at-all-requires-clause-within : goal.leaf_at-all-requires-clause-within
leaf_at-all-requires-clause-within c =
    let r = c.requires in
    let g = part_groups c.args.layout c.args.store.now.bytes c.args.k c.args.start c.args.count _ r.kept.fits r.width r.some r.low r.high r.within refl in
    omega (arith, g.block, r.kept.within)

pub write_leaf-requires-clause-within : goal.write_leaf-requires-clause-within
write_leaf-requires-clause-within c =
    let r = c.requires in
    let g = part_groups c.args.layout c.args.store.now.bytes c.args.k c.args.start c.args.count _ r.kept.fits r.width r.some r.low r.high r.within refl in
    omega (arith, g.block, r.kept.within)

-- the leaf of the block is made anew
pub returns-clause-kept : goal.returns-clause-kept
returns-clause-kept c =
    let r = c.requires in
    let e = c.paint_block-leaf.ensures in
    let g = part_groups c.args.layout c.args.store.now.bytes c.args.k c.args.start c.args.count _ r.kept.fits r.width r.some r.low r.high r.within refl in
    kept_after c.args.layout c.args.k c.args.width c.args.last c.write_leaf.result c.args.store.now.bytes c.paint_block-leaf.new.self.bytes c.args.nodes.now c.write_leaf.new.nodes c.paint_block-leaf.result r.width r.kept e.written.long
    (λ j away. e.written.outside j (elim away [ inl p ↦ inl (omega (arith, p, g.first)) | inr p ↦ inr (omega (arith, p, g.last)) ])) c.write_leaf.ensures.place c.write_leaf.ensures.tree c.write_leaf.ensures.leaves g.block
    (e.leaf (c.leaf_at-all.ensures ∙ r.kept.right c.args.k g.block))
