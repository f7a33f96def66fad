use Rattle.std.proofs.Common.{arith, refl, ◌≤◌, ◌+◌, ◌/◌, ◌%◌, ℕ, ℤ, Option, of_z, subst, sym, to_z}
use Rattle.std.specs.Int.{w128}
use Rattle.std.specs.Prelude.{IsSomeAnd}
use Rattle.fits_pieces.specs.Blocks.{PieceState}
use Rattle.fits_plane.specs.Rectangle.{value_at}
use Rattle.fits_pieces.specs.Pieces.{bytes_with}
use Rattle.fits_pieces.proofs.ReadingLemmas.{part_of_run, part_read, part_small, part_some, values_more}
use Rattle.fits_pieces.proofs.reading.read_row.Goals as goal

-- the next part is of a piece in memory
pub read_part-requires-clause-held : goal.read_part-requires-clause-held
read_part-requires-clause-held c =
    let r = c.requires in
    let v = c.loop-x.invariant in
    let p : ℕ = c.args.start + c.loop-x.x in
    let per : ℕ = c.pixels_per_piece-per.result in
    let here : ℕ = c.min-here.result in
    let w = part_of_run c.args.layout c.args.gone.now.bytes c.args.pieces.now.items c.loop-x.pieces.items c.args.start c.args.count c.loop-x.x per (p / per) (p % per) here
    r.cut r.width r.within r.held c.loop-x-test.true v.work.same c.pixels_per_piece-per.ensures refl refl (omega (arith, c.min-here.ensures)) (omega (arith, c.min-here.ensures)) in
    subst (λ (o : Option PieceState). IsSomeAnd o (λ it. p % per + here ≤ it.layout.pixels)) (sym w.is) w.room

pub read_part-requires-clause-index : goal.read_part-requires-clause-index
read_part-requires-clause-index c =
    let r = c.requires in
    let v = c.loop-x.invariant in
    let p : ℕ = c.args.start + c.loop-x.x in
    let per : ℕ = c.pixels_per_piece-per.result in
    let here : ℕ = c.min-here.result in
    let w = part_of_run c.args.layout c.args.gone.now.bytes c.args.pieces.now.items c.loop-x.pieces.items c.args.start c.args.count c.loop-x.x per (p / per) (p % per) here
    r.cut r.width r.within r.held c.loop-x-test.true v.work.same c.pixels_per_piece-per.ensures refl refl (omega (arith, c.min-here.ensures)) (omega (arith, c.min-here.ensures)) in
    w.index

pub read_part-requires-clause-small : goal.read_part-requires-clause-small
read_part-requires-clause-small c = part_small c.args.layout.width (c.args.start + c.loop-x.x) c.pixels_per_piece-per.result c.min-here.result c.requires.width c.pixels_per_piece-per.ensures (omega (arith, c.min-here.ensures))

-- a part has a pixel
pub loop-x-smaller : goal.loop-x-smaller
loop-x-smaller c =
    let some = part_some c.args.layout.width c.loop-x.x c.args.count (c.args.start + c.loop-x.x) c.pixels_per_piece-per.result c.min-here.result c.requires.width c.loop-x-test.true c.pixels_per_piece-per.ensures c.min-here.ensures in
    omega (arith, some, c.loop-x-test.true)

-- one part more is read
pub loop-x-preserved : goal.loop-x-preserved
loop-x-preserved c =
    let r = c.requires in
    let v = c.loop-x.invariant in
    let p : ℕ = c.args.start + c.loop-x.x in
    let per : ℕ = c.pixels_per_piece-per.result in
    let here : ℕ = c.min-here.result in
    let w = part_of_run c.args.layout c.args.gone.now.bytes c.args.pieces.now.items c.loop-x.pieces.items c.args.start c.args.count c.loop-x.x per (p / per) (p % per) here
    r.cut r.width r.within r.held c.loop-x-test.true v.work.same c.pixels_per_piece-per.ensures refl refl (omega (arith, c.min-here.ensures)) (omega (arith, c.min-here.ensures)) in
    let e = c.read_part.ensures in
    let offset : ℤ = to_z w128 (of_z w128 c.args.offset) in
    let f : ℕ → ℤ = value_at c.args.layout.width (bytes_with c.args.pieces.now.items c.args.gone.now.bytes) offset in
    record {
      items = values_more f c.args.start c.loop-x.x here _ c.args.values.now.items c.loop-x.values.items c.read_part.new.values.items v.items (w.values offset) (e.items w.it w.is);
      len = omega (arith, e.len, v.len);
      room = omega (arith, e.room, v.room);
      within = omega (arith, c.min-here.ensures, v.within);
      work = part_read c.loop-x.x here (p / per) c.args.pieces.now.items c.loop-x.pieces.items c.read_part.new.pieces.items w.it v.work w.is w.index (e.work w.it w.is);
    }
