use Rattle.std.proofs.Common.{arith, ◌≡◌, ◌≤◌, ◌+◌, ◌*◌, ◌++◌, ◌∙◌, ℕ, ℤ, List, ap, map, of_z, subst, to_z}
use Rattle.std.specs.Int.{w128}
use Rattle.std.specs.List.{range_with_len}
use Rattle.std.proofs.Math.Nat.{mul-le-mul_left}
use Rattle.std.proofs.lemmas.Int.{to_z-of_z}
use Rattle.fits_plane.specs.Rectangle.{rectangle_size, rectangle_values, row_count, row_size, value_at}
use Rattle.fits_plane.proofs.PlaneLemmas.{layout_width}
use Rattle.fits_plane.proofs.ReadLemmas.{all_read, rows_read}
use Rattle.fits_plane.proofs.RowLemmas.{rectangle_size-rows}
use Rattle.fits_pieces.specs.Pieces.{bytes_with, ReadsPieces}
use Rattle.fits_pieces.proofs.ReadingLemmas.{bytes_with-read, cut_read, row_held, rows_counted, some-read}
use Rattle.fits_pieces.proofs.reading.read_rows.Goals as goal

-- the unit is cut as before
pub read_row-requires-clause-cut : goal.read_row-requires-clause-cut
read_row-requires-clause-cut c = cut_read c.args.layout c.args.gone.now.bytes c.args.pieces.now.items c.loop-row.pieces.items c.loop-row.invariant.work.same c.requires.cut

-- the row's pieces are in memory
pub read_row-requires-clause-held : goal.read_row-requires-clause-held
read_row-requires-clause-held c = λ i low high.
    let r = c.requires in
    let axes : List ℕ = c.args.axes.now in
    let lo : List ℕ = c.args.lo.now in
    let hi : List ℕ = c.args.hi.now in
    let width = layout_width c.args.layout c.args.gone.now.bytes axes lo hi r.cut.fits r.rectangle r.all in
    some-read c.args.layout c.args.gone.now.bytes c.args.pieces.now.items c.loop-row.pieces.items c.loop-row.invariant.work.same _
    ∙ row_held axes lo hi c.args.layout c.args.pieces.now.items c.loop-row.row c.row_start-start.result r.rectangle r.all width (omega (arith, c.loop-row-test.true, c.rows-row-end.ensures)) c.row_start-start.ensures.value r.held i low (omega (arith, high, c.row_len-side.ensures.value))

-- the row has room
pub read_row-requires-clause-room : goal.read_row-requires-clause-room
read_row-requires-clause-room c =
    let side : ℕ = row_size c.args.lo.now c.args.hi.now in
    let below : c.loop-row.row + 1 ≤ row_count c.args.lo.now c.args.hi.now = omega (arith, c.loop-row-test.true, c.rows-row-end.ensures) in
    let more = mul-le-mul_left side below in
    let all = rectangle_size-rows c.args.lo.now c.args.hi.now in
    let inv = c.loop-row.invariant in
    let fits : (c.loop-row.row + 1) * side ≤ rectangle_size c.args.lo.now c.args.hi.now = omega (arith, more, all) in
    omega (arith, inv.len, inv.room, c.requires.room, fits, c.row_len-side.ensures.value)

-- one row more is read
pub loop-row-preserved : goal.loop-row-preserved
loop-row-preserved c =
    let offset : ℤ = to_z w128 (of_z w128 c.args.offset) in
    let e = c.read_row.ensures in
    let inv = c.loop-row.invariant in
    let w : ℕ = c.args.layout.width in
    let old : List ℕ = bytes_with c.args.pieces.now.items c.args.gone.now.bytes in
    let same = bytes_with-read c.args.layout c.args.gone.now.bytes c.args.pieces.now.items c.loop-row.pieces.items inv.work.same in
    record {
      items = rows_read w old c.args.axes.now c.args.lo.now c.args.hi.now offset c.row_len-side.result c.rows-row-end.result c.loop-row.row c.row_start-start.result
          c.args.values.now.items c.loop-row.values.items _ c.requires.rectangle c.row_len-side.ensures.value c.rows-row-end.ensures c.loop-row-test.true c.row_start-start.ensures.value inv.items
          (e.items ∙ ap (λ ys. c.loop-row.values.items ++ map (value_at w ys offset) (range_with_len c.row_start-start.result c.row_len-side.result)) same);
      len = omega (arith, inv.len, e.len, c.row_len-side.ensures.value);
      room = omega (arith, inv.room, e.room);
      work = rows_counted c.loop-row.row c.row_len-side.result (row_size c.args.lo.now c.args.hi.now) c.args.pieces.now.items c.loop-row.pieces.items c.read_row.new.pieces.items c.row_len-side.ensures.value inv.work e.work;
    }

-- all rows are read
pub returns-clause-items : goal.returns-clause-items
returns-clause-items c =
    let old : List ℕ = bytes_with c.args.pieces.now.items c.args.gone.now.bytes in
    let last : c.loop-row.row ≡ row_count c.args.lo.now c.args.hi.now = omega (arith, c.loop-row-test.false, c.loop-row.auto.row-end, c.rows-row-end.ensures) in
    subst (λ z. c.loop-row.values.items ≡ c.args.values.now.items ++ rectangle_values c.args.layout.width old c.args.axes.now c.args.lo.now c.args.hi.now z) (to_z-of_z w128 c.args.offset c.ranges.offset)
    (all_read c.args.layout.width old c.args.axes.now c.args.lo.now c.args.hi.now _ c.loop-row.row c.args.values.now.items c.loop-row.values.items c.requires.rectangle last c.loop-row.invariant.items)

-- and each of their pixels
pub returns-clause-work : goal.returns-clause-work
returns-clause-work c =
    let last : c.loop-row.row ≡ row_count c.args.lo.now c.args.hi.now = omega (arith, c.loop-row-test.false, c.loop-row.auto.row-end, c.rows-row-end.ensures) in
    let side : ℕ = row_size c.args.lo.now c.args.hi.now in
    let all : c.loop-row.row * side ≡ rectangle_size c.args.lo.now c.args.hi.now = ap (λ m. m * side) last ∙ omega (arith, rectangle_size-rows c.args.lo.now c.args.hi.now) in
    subst (λ n. ReadsPieces n c.args.pieces.now.items c.loop-row.pieces.items) all c.loop-row.invariant.work
