use Rattle.std.proofs.Common.{◌*◌, ◌+◌, ◌/◌, arith, inl, inr}
use Rattle.fits_plane.specs.Parts.{AreGroupsChanged}
use Rattle.fits_plane.proofs.PlaneLemmas.{layout_stays}
use Rattle.fits_plane.proofs.ShortRowLemmas.{part_groups}
use Rattle.fits_plane.proofs.parts.paint_block.Goals as goal

-- the row's groups lie in the block
pub scan_groups-gone-requires-clause-order : goal.scan_groups-gone-requires-clause-order
scan_groups-gone-requires-clause-order c =
    let r = c.requires in
    let g = part_groups c.args.layout c.args.bytes.now c.args.k c.args.start c.args.count c.div_ceil-to.result r.layout r.width r.some r.low r.high r.within c.div_ceil-to.ensures in
    g.order

pub scan_groups-gone-requires-clause-within : goal.scan_groups-gone-requires-clause-within
scan_groups-gone-requires-clause-within c =
    let r = c.requires in
    let g = part_groups c.args.layout c.args.bytes.now c.args.k c.args.start c.args.count c.div_ceil-to.result r.layout r.width r.some r.low r.high r.within c.div_ceil-to.ensures in
    omega (arith, g.high, g.block, r.layout.whole)

pub scan_groups-gone-requires-clause-short : goal.scan_groups-gone-requires-clause-short
scan_groups-gone-requires-clause-short c =
    let r = c.requires in
    let g = part_groups c.args.layout c.args.bytes.now c.args.k c.args.start c.args.count c.div_ceil-to.result r.layout r.width r.some r.low r.high r.within c.div_ceil-to.ensures in
    omega (arith, g.low, g.high)

pub leaf_after-requires-clause-layout : goal.leaf_after-requires-clause-layout
leaf_after-requires-clause-layout c = layout_stays c.args.layout c.args.bytes.now c.paint_row.new.bytes c.requires.layout c.paint_row.ensures.long

pub leaf_after-requires-clause-block : goal.leaf_after-requires-clause-block
leaf_after-requires-clause-block c =
    let r = c.requires in
    let g = part_groups c.args.layout c.args.bytes.now c.args.k c.args.start c.args.count c.div_ceil-to.result r.layout r.width r.some r.low r.high r.within c.div_ceil-to.ensures in
    omega (arith, g.block, r.layout.whole, c.paint_row.ensures.long)

pub leaf_after-requires-clause-low : goal.leaf_after-requires-clause-low
leaf_after-requires-clause-low c =
    let r = c.requires in
    let g = part_groups c.args.layout c.args.bytes.now c.args.k c.args.start c.args.count c.div_ceil-to.result r.layout r.width r.some r.low r.high r.within c.div_ceil-to.ensures in
    g.low

pub leaf_after-requires-clause-high : goal.leaf_after-requires-clause-high
leaf_after-requires-clause-high c =
    let r = c.requires in
    let g = part_groups c.args.layout c.args.bytes.now c.args.k c.args.start c.args.count c.div_ceil-to.result r.layout r.width r.some r.low r.high r.within c.div_ceil-to.ensures in
    g.high

-- what went of the block was exchanged for what came
pub returns-clause-leaf : goal.returns-clause-leaf
returns-clause-leaf c = λ all.
    let r = c.requires in
    let e = c.paint_row.ensures in
    let g = part_groups c.args.layout c.args.bytes.now c.args.k c.args.start c.args.count c.div_ceil-to.result r.layout r.width r.some r.low r.high r.within c.div_ceil-to.ensures in
    let changed : AreGroupsChanged (c.args.start * c.args.layout.width / 8) c.div_ceil-to.result c.args.bytes.now c.paint_row.new.bytes = record {
      long = e.long;
      outside = λ j away. e.outside j (elim away [ inl p ↦ inl (omega (arith, p, g.front)) | inr p ↦ inr (omega (arith, p, g.back)) ]);
    } in
    c.leaf_after.ensures c.args.bytes.now c.read_bytes.ensures changed all c.scan_groups-gone.ensures
