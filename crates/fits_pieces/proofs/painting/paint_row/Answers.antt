use Rattle.std.proofs.Common.{arith, refl, ◌≡◌, ◌<◌, ◌≤◌, ◌+◌, ◌/◌, ◌%◌, ℕ, Option, ap, subst, sym}
use Rattle.std.specs.Prelude.{IsSomeAnd}
use Rattle.std.proofs.Math.Nat.{mod-lt}
use Rattle.fits_pixels.specs.declared.layout.Layout.{Layout}
use Rattle.fits_pixels.specs.Pixels.{IsWidth}
use Rattle.fits_plane.specs.ShortRows.{CanPaint}
use Rattle.fits_plane.proofs.ShortRowLemmas.{can_paint}
use Rattle.fits_pieces.specs.Blocks.{PieceState}
use Rattle.fits_pieces.specs.Painting.{TakesRun}
use Rattle.fits_pieces.specs.Piece.{piece_pixels}
use Rattle.fits_pieces.proofs.PaintingLemmas.{part_at, part_painted, piece_there, Turned}
use Rattle.fits_pieces.proofs.ReadingLemmas.{part_of_run, part_some, piece_pixels_some}
use Rattle.fits_pieces.proofs.painting.paint_row.Goals as goal

-- the next part can be painted
pub paint_part-requires-clause-takes : goal.paint_part-requires-clause-takes
paint_part-requires-clause-takes c =
    let r = c.requires in
    let v = c.loop-x.invariant in
    let w : ℕ = c.args.layout.width in
    let p : ℕ = c.args.start + c.loop-x.x in
    let per : ℕ = c.pixels_per_piece-per.result in
    let here : ℕ = c.min-here.result in
    let part = part_of_run c.args.layout c.args.gone.now.bytes c.loop-x.pieces.items c.loop-x.pieces.items c.args.start c.args.count c.loop-x.x per (p / per) (p % per) here
    v.cut r.width r.within v.held c.loop-x-test.true refl c.pixels_per_piece-per.ensures refl refl (omega (arith, c.min-here.ensures)) (omega (arith, c.min-here.ensures)) in
    let piece = piece_there c.args.layout c.args.gone.now.bytes (p / per) c.loop-x.pieces.items part.it v.cut part.is in
    let width : part.it.layout.width ≡ w = ap (λ (l : Layout). l.width) piece.layout_is in
    subst (λ (o : Option PieceState). IsSomeAnd o (TakesRun c.args.painting.now (p % per) here (c.args.rank + c.loop-x.x))) (sym part.is) (record {
      width = subst IsWidth (sym width) r.width;
      within = part.room;
      paint = subst (λ n. CanPaint n c.args.painting.now (c.args.rank + c.loop-x.x) here) (sym width) (can_paint w c.args.painting.now c.args.rank c.args.count c.loop-x.x here r.paint (omega (arith, c.min-here.ensures, v.within)));
    })

-- it is
pub loop-x-preserved : goal.loop-x-preserved
loop-x-preserved c =
    let r = c.requires in
    let v = c.loop-x.invariant in
    let w : ℕ = c.args.layout.width in
    let p : ℕ = c.args.start + c.loop-x.x in
    let per : ℕ = c.pixels_per_piece-per.result in
    let here : ℕ = c.min-here.result in
    let part = part_of_run c.args.layout c.args.gone.now.bytes c.loop-x.pieces.items c.loop-x.pieces.items c.args.start c.args.count c.loop-x.x per (p / per) (p % per) here
    v.cut r.width r.within v.held c.loop-x-test.true refl c.pixels_per_piece-per.ensures refl refl (omega (arith, c.min-here.ensures)) (omega (arith, c.min-here.ensures)) in
    let some = part_some w c.loop-x.x c.args.count p per here r.width c.loop-x-test.true c.pixels_per_piece-per.ensures c.min-here.ensures in
    let near : p % per + here ≤ piece_pixels w = omega (arith, c.min-here.ensures, c.pixels_per_piece-per.ensures, mod-lt p (let all : 0 < per = omega (arith, c.pixels_per_piece-per.ensures, piece_pixels_some w r.width) in all)) in
    let e = c.paint_part.ensures part.it part.is in
    let before : Turned c.args.layout c.args.gone.now.bytes c.args.painting.now c.args.start c.args.count c.loop-x.x c.args.rank c.args.pieces.now.items c.loop-x.pieces.items = record { cut = v.cut; held = v.held; written = v.written; repainted = v.repainted; stale = v.stale } in
    let t = part_painted c.args.layout c.args.gone.now.bytes c.args.painting.now c.args.start c.args.count c.loop-x.x here c.args.rank (p / per) (p % per) c.args.pieces.now.items c.loop-x.pieces.items part.it e.0
    r.width some (omega (arith, c.min-here.ensures, v.within)) (part_at w p per c.pixels_per_piece-per.ensures) near part.is e.1 before in
    let now = subst (Turned c.args.layout c.args.gone.now.bytes c.args.painting.now c.args.start c.args.count (c.loop-x.x + here) c.args.rank c.args.pieces.now.items) (sym e.2) t in
    record {
      cut = now.cut;
      held = now.held;
      written = now.written;
      repainted = now.repainted;
      stale = now.stale;
      within = omega (arith, c.min-here.ensures, v.within);
    }
