use Rattle.std.proofs.Common.{arith, ◌<◌, subst, sym}
use Rattle.fits_plane.specs.Painting.{number_of, touches}
use Rattle.fits_plane.specs.Rectangle.{row_count}
use Rattle.fits_plane.proofs.PaintLemmas.{can_paint_row}
use Rattle.fits_plane.proofs.WriteLemmas.{rows_more, write_all}
use Rattle.fits_pieces.specs.Painting.{PassesRun}
use Rattle.fits_pieces.specs.Pieces.{bytes_with}
use Rattle.fits_pieces.proofs.PaintingLemmas.{all_again, row_held_still, row_touches}
use Rattle.fits_pieces.proofs.ReadingLemmas.{row_held}
use Rattle.fits_pieces.proofs.painting.paint_rows.Goals as goal

-- the row's first rank is a number of 64 bits
pub overflow_mul-row : goal.overflow_mul-row
overflow_mul-row c =
    let r = c.requires in
    let row = can_paint_row c.args.layout c.args.gone.now.bytes c.args.painting.now c.row_len-side.result c.rows-row-end.result c.loop-row.row r.cut.fits r.suits c.row_len-side.ensures.value c.rows-row-end.ensures c.loop-row-test.true in
    record { fits = omega (arith, row.ranks) }

-- the row's pixels have numbers, and can store them
pub paint_row-requires-clause-paint : goal.paint_row-requires-clause-paint
paint_row-requires-clause-paint c =
    let r = c.requires in
    can_paint_row c.args.layout c.args.gone.now.bytes c.args.painting.now c.row_len-side.result c.rows-row-end.result c.loop-row.row r.cut.fits r.suits c.row_len-side.ensures.value c.rows-row-end.ensures c.loop-row-test.true

-- its pieces are in memory
pub paint_row-requires-clause-held : goal.paint_row-requires-clause-held
paint_row-requires-clause-held c =
    let r = c.requires in
    let it = c.args.painting.now in
    row_held_still it.axes.now it.lo.now it.hi.now c.args.layout c.args.pieces.now.items c.loop-row.pieces.items c.loop-row.row c.row_start-start.result c.row_len-side.result c.loop-row.invariant.repainted c.row_len-side.ensures.value
    (row_held it.axes.now it.lo.now it.hi.now c.args.layout c.args.pieces.now.items c.loop-row.row c.row_start-start.result r.suits.rectangle r.suits.all r.suits.width (omega (arith, c.loop-row-test.true, c.rows-row-end.ensures)) c.row_start-start.ensures.value r.held)

-- one row more is painted
pub loop-row-preserved : goal.loop-row-preserved
loop-row-preserved c =
    let r = c.requires in
    let it = c.args.painting.now in
    let v = c.loop-row.invariant in
    let e = c.paint_row.ensures in
    let below : c.loop-row.row < row_count it.lo.now it.hi.now = omega (arith, c.loop-row-test.true, c.rows-row-end.ensures) in
    record {
      cut = e.cut;
      written = rows_more c.args.layout.width it.axes.now it.lo.now it.hi.now c.row_len-side.result c.rows-row-end.result c.loop-row.row c.row_start-start.result (number_of it)
          (bytes_with c.args.pieces.now.items c.args.gone.now.bytes) (bytes_with c.loop-row.pieces.items c.args.gone.now.bytes) (bytes_with c.paint_row.new.pieces.items c.args.gone.now.bytes)
          r.suits.width r.suits.rectangle c.row_len-side.ensures.value c.rows-row-end.ensures c.loop-row-test.true c.row_start-start.ensures.value v.written e.written.long e.written.inside e.written.outside;
      repainted = all_again c.args.pieces.now.items c.loop-row.pieces.items c.paint_row.new.pieces.items v.repainted e.repainted;
      stale = e.stale (touches it c.args.layout) v.stale
          (subst (λ n. PassesRun c.args.layout.width c.row_start-start.result n (touches it c.args.layout)) (sym c.row_len-side.ensures.value) (row_touches c.args.layout it c.loop-row.row c.row_start-start.result r.suits below c.row_start-start.ensures.value));
    }

-- the rectangle that all rows make
pub returns-clause-written : goal.returns-clause-written
returns-clause-written c =
    let it = c.args.painting.now in
    write_all c.args.layout.width it.axes.now it.lo.now it.hi.now c.loop-row.row (number_of it) (bytes_with c.args.pieces.now.items c.args.gone.now.bytes) (bytes_with c.loop-row.pieces.items c.args.gone.now.bytes) c.requires.suits.rectangle c.loop-row.invariant.written
    (omega (arith, c.loop-row-test.false, c.rows-row-end.ensures))
