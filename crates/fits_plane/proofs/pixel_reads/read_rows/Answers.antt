use Rattle.std.proofs.Common.{◌≡◌, ◌≤◌, ◌+◌, ◌*◌, ◌++◌, ◌∙◌, ℕ, ℤ, ◌^◌, length, map, to_z, of_z, ap, arith, refl, subst, sym}
use Rattle.std.specs.Prelude.{unsigned_abs}
use Rattle.std.specs.Int.{w128}
use Rattle.std.proofs.Math.Nat.{mul-le-mul_left}
use Rattle.std.proofs.lemmas.Int.{to_z-of_z}
use Rattle.std.specs.List.{range_with_len}
use Rattle.fits_plane.specs.DataBytes.{DataState}
use Rattle.fits_plane.specs.Rectangle.{value_at, row_size, row_count, rectangle_size, rectangle_values}
use Rattle.fits_plane.proofs.ReadLemmas.{rows_read, all_read}
use Rattle.fits_plane.proofs.StoreLemmas.{read_more}
use Rattle.fits_plane.proofs.WriteLemmas.{row_room}
use Rattle.fits_plane.proofs.RowLemmas.{rectangle_size-rows}
use Rattle.fits_plane.proofs.pixel_reads.read_rows.Goals as goal

pub read_row-requires-clause-room : goal.read_row-requires-clause-room
read_row-requires-clause-room c =
    let side : ℕ = row_size c.args.lo.now c.args.hi.now in
    let below : c.loop-row.row + 1 ≤ row_count c.args.lo.now c.args.hi.now = omega (arith, c.loop-row-test.true, c.rows-row-end.ensures) in
    let more = mul-le-mul_left side below in
    let all = rectangle_size-rows c.args.lo.now c.args.hi.now in
    let inv = c.loop-row.invariant in
    let fits : (c.loop-row.row + 1) * side ≤ rectangle_size c.args.lo.now c.args.hi.now = omega (arith, more, all) in
    omega (arith, inv.len, inv.room, c.requires.room, fits, c.row_len-side.ensures.value)

pub loop-row-preserved : goal.loop-row-preserved
loop-row-preserved c =
    let offset : ℤ = to_z w128 (of_z w128 c.args.offset) in
    let e = c.read_row.ensures in
    let inv = c.loop-row.invariant in
    let more : c.loop-row.row * row_size c.args.lo.now c.args.hi.now + c.row_len-side.result ≡ (c.loop-row.row + 1) * row_size c.args.lo.now c.args.hi.now = omega (arith, c.row_len-side.ensures.value) in
    record {
      items = rows_read c.args.width c.args.store.now.bytes c.args.axes.now c.args.lo.now c.args.hi.now offset c.row_len-side.result c.rows-row-end.result c.loop-row.row c.row_start-start.result
          c.args.values.now.items c.loop-row.values.items _ c.requires.rectangle c.row_len-side.ensures.value c.rows-row-end.ensures c.loop-row-test.true c.row_start-start.ensures.value inv.items
          (e.items ∙ ap (λ (s : DataState). c.loop-row.values.items ++ map (value_at c.args.width s.bytes offset) (range_with_len c.row_start-start.result c.row_len-side.result)) inv.work);
      len = omega (arith, inv.len, e.len, c.row_len-side.ensures.value);
      room = omega (arith, inv.room, e.room);
      work = read_more c.args.store.now c.loop-row.store c.read_row.new.store _ _ inv.work e.work ∙ ap (λ n. record c.args.store.now { reads = c.args.store.now.reads + n }) more;
    }

pub returns-clause-items : goal.returns-clause-items
returns-clause-items c =
    let last : c.loop-row.row ≡ row_count c.args.lo.now c.args.hi.now = omega (arith, c.loop-row-test.false, c.loop-row.auto.row-end, c.rows-row-end.ensures) in
    subst (λ z. c.loop-row.values.items ≡ c.args.values.now.items ++ rectangle_values c.args.width c.args.store.now.bytes c.args.axes.now c.args.lo.now c.args.hi.now z) (to_z-of_z w128 c.args.offset c.ranges.offset)
    (all_read c.args.width c.args.store.now.bytes c.args.axes.now c.args.lo.now c.args.hi.now _ c.loop-row.row c.args.values.now.items c.loop-row.values.items c.requires.rectangle last c.loop-row.invariant.items)

pub returns-clause-work : goal.returns-clause-work
returns-clause-work c =
    let last : c.loop-row.row ≡ row_count c.args.lo.now c.args.hi.now = omega (arith, c.loop-row-test.false, c.loop-row.auto.row-end, c.rows-row-end.ensures) in
    let side : ℕ = row_size c.args.lo.now c.args.hi.now in
    let all : c.loop-row.row * side ≡ rectangle_size c.args.lo.now c.args.hi.now = ap (λ m. m * side) last ∙ omega (arith, rectangle_size-rows c.args.lo.now c.args.hi.now) in
    c.loop-row.invariant.work ∙ ap (λ n. record c.args.store.now { reads = c.args.store.now.reads + n }) all

-- the bytes have room for the row
pub read_row-requires-clause-within : goal.read_row-requires-clause-within
read_row-requires-clause-within c =
    rw (ap (λ (s : DataState). s.bytes) c.loop-row.invariant.work) (row_room _ _ _ _ _ c.args.width (length c.args.store.now.bytes) (length c.args.store.now.bytes) refl c.row_len-side.ensures.value c.row_start-start.ensures.within c.requires.within refl)

-- the offset is small
pub read_row-requires-clause-offset : goal.read_row-requires-clause-offset
read_row-requires-clause-offset c = subst (λ z. unsigned_abs z ≤ 2 ^ 64) (sym (to_z-of_z w128 c.args.offset c.ranges.offset)) c.requires.offset
