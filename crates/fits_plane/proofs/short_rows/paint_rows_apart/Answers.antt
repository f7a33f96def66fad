use Rattle.std.proofs.Common.{◌≡◌, ◌<◌, ◌≤◌, ◌+◌, ◌-◌, ◌*◌, ◌/◌, ℕ, List, arith, ap, refl, ◌∙◌}
use Rattle.std.proofs.Math.Nat.{mul-le-mul_right}
use Rattle.fits_pixels.specs.Layout.{block_count, block_pixels}
use Rattle.fits_pixels.proofs.LayoutLemmas.{block_pixels_some, layout_room}
use Rattle.fits_plane.specs.Painting.{number_of}
use Rattle.fits_plane.specs.Rectangle.{row_size, row_count}
use Rattle.fits_plane.specs.Tree.{most_above}
use Rattle.fits_plane.proofs.ApartRowLemmas.{apart_begun, apart_more, row_past}
use Rattle.fits_plane.proofs.BlockLemmas.{walk_work, joins_more}
use Rattle.fits_plane.proofs.PaintLemmas.{can_paint_row}
use Rattle.fits_plane.proofs.PathLemmas.{all_left}
use Rattle.fits_plane.proofs.PowerLemmas.{least_power, most_above_le}
use Rattle.fits_plane.proofs.RectangleLemmas.{written_is}
use Rattle.fits_plane.proofs.ShortRowLemmas.{kept_done}
use Rattle.fits_plane.proofs.WriteLemmas.{rows_begun, rows_more, write_all}
use Rattle.fits_plane.proofs.short_rows.paint_rows_apart.Goals as goal

-- the row's first rank is a number of 64 bits
pub overflow_mul-rank : goal.overflow_mul-rank
overflow_mul-rank c =
    let r = c.requires in
    let row = can_paint_row c.args.layout c.args.store.now.bytes c.args.painting.now c.row_len-side.result c.rows-row-end.result c.loop-row.row r.kept.fits r.suits c.row_len-side.ensures.value c.rows-row-end.ensures c.loop-row-test.true in
    record { fits = omega (arith, row.ranks) }

-- the row's pixels have numbers, and can store them
pub paint_short_row-last-requires-clause-paint : goal.paint_short_row-last-requires-clause-paint
paint_short_row-last-requires-clause-paint c =
    let r = c.requires in
    can_paint_row c.args.layout c.args.store.now.bytes c.args.painting.now c.row_len-side.result c.rows-row-end.result c.loop-row.row r.kept.fits r.suits c.row_len-side.ensures.value c.rows-row-end.ensures c.loop-row-test.true

-- one row more is painted
pub loop-row-preserved : goal.loop-row-preserved
loop-row-preserved c =
    let r = c.requires in
    let axes : List ℕ = c.args.painting.now.axes.now in
    let lo : List ℕ = c.args.painting.now.lo.now in
    let hi : List ℕ = c.args.painting.now.hi.now in
    let per : ℕ = block_pixels c.args.layout.width in
    let blocks : ℕ = block_count c.args.store.now.bytes in
    let row : ℕ = c.loop-row.row in
    let start : ℕ = c.row_start-start.result in
    let v = c.loop-row.invariant in
    let e = c.paint_short_row-last.ensures in
    let at = c.row_start-start.ensures.value in
    let below : row < row_count lo hi = omega (arith, c.loop-row-test.true, c.rows-row-end.ensures) in
    let some : (start + c.row_len-side.result - 1) / per + 1 - start / per ≡ (start + row_size lo hi - 1) / per + 1 - start / per = ap (λ s. (start + s - 1) / per + 1 - start / per) c.row_len-side.ensures.value in
    let more : c.paint_short_row-last.new.store.scans - c.args.store.now.scans ≡ (c.loop-row.store.scans - c.args.store.now.scans) + ((start + row_size lo hi - 1) / per + 1 - start / per) = omega (arith, e.scans, v.more_scans, some) in
    let work : c.paint_short_row-last.new.store.scans - c.args.store.now.scans ≡ (c.loop-row.store.scans - c.args.store.now.scans) + (c.paint_short_row-last.new.store.scans - c.loop-row.store.scans) = omega (arith, e.scans, v.more_scans) in
    let end = ap (λ s. (start + s - 1) / per) c.row_len-side.ensures.value in
    let here : c.loop-row.last ≤ c.args.width + start / per = rw at (v.order below) in
    record {
      kept = e.kept;
      written = rows_more c.args.layout.width axes lo hi c.row_len-side.result c.rows-row-end.result row start _ c.args.store.now.bytes c.loop-row.store.bytes c.paint_short_row-last.new.store.bytes
          r.suits.width r.suits.rectangle c.row_len-side.ensures.value c.rows-row-end.ensures c.loop-row-test.true at v.written e.written.long e.written.inside e.written.outside;
      walk = apart_more axes lo hi per c.args.layout.pixels blocks row start _ _ r.suits.rectangle r.suits.all (block_pixels_some c.args.layout.width r.suits.width) (layout_room c.args.layout c.args.store.now.bytes blocks r.kept.fits (omega (arith, r.kept.fits.whole))) r.apart below at more v.walk;
      order = λ b. let past = row_past axes lo hi per row start r.suits.rectangle (block_pixels_some c.args.layout.width r.suits.width) r.apart b at in omega (arith, past, e.place, end);
      reads = e.reads ∙ v.reads;
      more_scans = omega (arith, e.scans, v.more_scans);
      more = omega (arith, e.more, v.more);
      few = λ d u. joins_more (c.loop-row.store.scans - c.args.store.now.scans) (c.paint_short_row-last.new.store.scans - c.loop-row.store.scans) _ d c.args.joins.now.total
          (c.loop-row.joins.total + most_above d c.loop-row.last) (c.paint_short_row-last.new.joins.total + most_above d c.paint_short_row-last.result) work (v.few d u) (e.few d u);
      most = λ h p. omega (arith, v.most h p, e.left h p here);
    }

-- no row is painted yet
pub loop-row-init : goal.loop-row-init
loop-row-init c = record {
  kept = c.requires.kept;
  written = rows_begun _ _ _ _ _ _ _;
  walk = apart_begun _ _ _ _ _ _ _ _ (omega arith);
  reads = refl;
  more_scans = omega arith;
  order = λ b. omega (arith, c.requires.kept.tree.within);
  more = omega arith;
  few = λ d u. omega arith;
  most = λ h p. omega arith;
}

-- there is a root
pub climb-requires-clause-within : goal.climb-requires-clause-within
climb-requires-clause-within c = omega (arith, c.requires.kept.tree.within)

-- the last leaf's path is joined up to the root
pub returns-clause-kept : goal.returns-clause-kept
returns-clause-kept c = kept_done c.args.layout c.loop-row.store.bytes c.args.width c.loop-row.last c.loop-row.nodes c.climb.new.nodes c.loop-row.invariant.kept c.climb.ensures.tree c.climb.ensures.leaves

-- the rows make up the rectangle; no more blocks were looked at than hold a pixel of it; all nodes that were joined stand left of the last path, or on it
pub returns-clause-painted : goal.returns-clause-painted
returns-clause-painted c =
    let it = c.args.painting.now in
    let r = c.requires in
    let v = c.loop-row.invariant in
    let work = walk_work _ _ _ _ _ _ _ _ _ _ _ v.walk.walk in
    let all = write_all c.args.layout.width it.axes.now it.lo.now it.hi.now c.loop-row.row _ c.args.store.now.bytes c.loop-row.store.bytes r.suits.rectangle v.written (omega (arith, c.loop-row-test.false, c.rows-row-end.ensures)) in
    let left = all_left r.power.depth (c.loop-row.last - c.args.width) (omega (arith, r.power.power, v.kept.tree.within)) in
    record {
      bytes = written_is c.args.layout.width it.axes.now it.lo.now it.hi.now (number_of it) c.args.store.now.bytes c.loop-row.store.bytes r.suits.width c.are_bytes.ensures all;
      layout = refl;
      reads = v.reads;
      more_scans = v.more_scans;
      scans = omega (arith, work, v.more_scans);
      more_joins = omega (arith, c.climb.ensures.more, v.more);
      joins = λ d u.
          let few = least_power r.power.depth c.args.width _ d r.power.power r.power.least u in
          let up = mul-le-mul_right d work in
          omega (arith, up, c.climb.ensures.few d few, v.few d few);
      most = λ d u.
          let few = least_power r.power.depth c.args.width _ d r.power.power r.power.least u in
          omega (arith, few, r.power.power, left, v.most r.power.depth r.power.power, c.climb.ensures.few r.power.depth (omega (arith, r.power.power)), most_above_le r.power.depth c.loop-row.last);
    }
