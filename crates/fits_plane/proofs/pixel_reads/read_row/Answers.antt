use Rattle.std.proofs.Common.{◌≡◌, ◌+◌, ◌∙◌, ℤ, ap, length, to_z, of_z, arith, rules}
use Rattle.std.specs.Int.{w128}
use Rattle.std.proofs.lemmas.Int.{to_z-of_z}
use Rattle.fits_pixels.specs.Pixels.{pixel}
use Rattle.fits_plane.specs.DataBytes.{DataState}
use Rattle.fits_plane.specs.Rectangle.{value_at}
use Rattle.fits_plane.proofs.ReadLemmas.{value-more}
use Rattle.fits_plane.proofs.StoreLemmas.{read_more}
use Rattle.fits_plane.proofs.WriteLemmas.{pixel_room}
use Rattle.fits_plane.proofs.pixel_reads.read_row.Goals as goal

pub loop-x-preserved : goal.loop-x-preserved
loop-x-preserved c =
    let offset : ℤ = to_z w128 (of_z w128 c.args.offset) in
    let seen : c.pixel.result ≡ pixel c.args.width c.args.store.now.bytes (c.args.start + c.loop-x.x) =
    c.pixel.ensures.value ∙ ap (λ (s : DataState). pixel c.args.width s.bytes (c.args.start + c.loop-x.x)) c.loop-x.invariant.work in
    let value : c.value_of.result ≡ value_at c.args.width c.args.store.now.bytes offset (c.args.start + c.loop-x.x) = search rules in
    let e = c.put_value.ensures in
    record {
      items = value-more (value_at c.args.width c.args.store.now.bytes offset) c.args.start c.loop-x.x _ c.args.values.now.items _ _ c.loop-x.invariant.items (to_z-of_z w128 c.value_of.result (record { sfits = c.value_of.type_inv }) ∙ value) e.items;
      len = omega (arith, e.len, c.loop-x.invariant.len);
      room = omega (arith, e.room, c.loop-x.invariant.room);
      work = read_more c.args.store.now c.loop-x.store c.pixel.new.self c.loop-x.x 1 c.loop-x.invariant.work c.pixel.ensures.work;
    }

-- the pixel is one of the row's
pub pixel-requires-clause-within : goal.pixel-requires-clause-within
pixel-requires-clause-within c =
    pixel_room c.args.start c.loop-x.x c.args.count c.args.width (length c.args.store.now.bytes) (length c.loop-x.store.bytes) c.loop-x-test.true c.requires.within (ap (λ (s : DataState). length s.bytes) c.loop-x.invariant.work)
