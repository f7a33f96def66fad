use Rattle.std.proofs.Common.{◌≡◌, ◌+◌, ◌∙◌, ℤ, ap, arith, of_z, rules, to_z}
use Rattle.std.specs.Int.{w128}
use Rattle.std.proofs.lemmas.Int.{to_z-of_z}
use Rattle.fits_pixels.specs.Pixels.{pixel}
use Rattle.fits_pieces.specs.Blocks.{PieceState}
use Rattle.fits_plane.specs.Rectangle.{value_at}
use Rattle.fits_plane.proofs.ReadLemmas.{value-more}
use Rattle.fits_pieces.proofs.ReadingLemmas.{plane_read_more}
use Rattle.fits_pieces.proofs.reading.read_run.Goals as goal

-- one pixel more is read
pub loop-x-preserved : goal.loop-x-preserved
loop-x-preserved c =
    let old = c.args.blocks.now in
    let offset : ℤ = to_z w128 (of_z w128 c.args.offset) in
    let v = c.loop-x.invariant in
    let e = c.put_value.ensures in
    let seen : c.pixel.result ≡ pixel old.layout.width old.bytes (c.args.start + c.loop-x.x) =
    c.pixel.ensures.value ∙ ap (λ (s : PieceState). pixel s.layout.width s.bytes (c.args.start + c.loop-x.x)) v.work in
    let value : c.value_of.result ≡ value_at old.layout.width old.bytes offset (c.args.start + c.loop-x.x) = search rules in
    record {
      items = value-more (value_at old.layout.width old.bytes offset) c.args.start c.loop-x.x _ c.args.values.now.items _ _ v.items (to_z-of_z w128 c.value_of.result (record { sfits = c.value_of.type_inv }) ∙ value) e.items;
      len = omega (arith, e.len, v.len);
      room = omega (arith, e.room, v.room);
      work = plane_read_more old c.loop-x.blocks c.pixel.new.self c.loop-x.x 1 v.work c.pixel.ensures.work;
    }
