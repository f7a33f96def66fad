use Rattle.std.proofs.Common.{◌∙◌, arith}
use Rattle.fits_plane.proofs.PaintLemmas.{can_paint_row}
use Rattle.fits_plane.proofs.WriteLemmas.{rows_more, write_all}
use Rattle.fits_plane.proofs.pixel_writes.paint_rows.Goals as goal

-- the row's first rank is a number of 64 bits
pub overflow_mul-rank : goal.overflow_mul-rank
overflow_mul-rank c =
    let r = c.requires in
    let row = can_paint_row c.args.layout c.args.bytes.now c.args.painting.now c.row_len-side.result c.rows-row-end.result c.loop-row.row r.layout r.suits c.row_len-side.ensures.value c.rows-row-end.ensures c.loop-row-test.true in
    record { fits = omega (arith, row.ranks) }

-- the row's pixels have numbers, and can store them
pub paint_row-requires-clause-paint : goal.paint_row-requires-clause-paint
paint_row-requires-clause-paint c =
    let r = c.requires in
    can_paint_row c.args.layout c.args.bytes.now c.args.painting.now c.row_len-side.result c.rows-row-end.result c.loop-row.row r.layout r.suits c.row_len-side.ensures.value c.rows-row-end.ensures c.loop-row-test.true

-- one row more is painted
pub loop-row-preserved : goal.loop-row-preserved
loop-row-preserved c =
    let e = c.paint_row.ensures in
    let s = c.requires.suits in
    let it = c.args.painting.now in
    rows_more c.args.layout.width it.axes.now it.lo.now it.hi.now c.row_len-side.result c.rows-row-end.result c.loop-row.row c.row_start-start.result _ c.args.bytes.now c.loop-row.bytes c.paint_row.new.bytes
    s.width s.rectangle c.row_len-side.ensures.value c.rows-row-end.ensures c.loop-row-test.true c.row_start-start.ensures.value c.loop-row.invariant e.long e.inside e.outside

-- the rectangle that all rows make
pub returns : goal.returns
returns c =
    let it = c.args.painting.now in
    write_all c.args.layout.width it.axes.now it.lo.now it.hi.now c.loop-row.row _ c.args.bytes.now c.loop-row.bytes c.requires.suits.rectangle c.loop-row.invariant (omega (arith, c.loop-row-test.false, c.rows-row-end.ensures))
