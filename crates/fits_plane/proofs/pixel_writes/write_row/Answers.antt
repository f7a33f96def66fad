use Rattle.std.proofs.Common.{rules, FitsSigned, to_z, of_z, ◌∙◌, ℤ, ap, get_or, length, pos, refl, subst, sym}
use Rattle.std.specs.Prelude.{◌-ℤ◌}
use Rattle.std.specs.Int.{w64, w128}
use Rattle.std.proofs.lemmas.Int.{to_z-of_z}
use Rattle.fits_pixels.specs.Pixels.{IsStorable}
use Rattle.fits_pixels.proofs.PixelLemmas.{storable_fits}
use Rattle.fits_plane.proofs.WriteLemmas.{row_begun, row_more, pixel_room}
use Rattle.fits_plane.proofs.pixel_writes.write_row.Goals as goal

pub loop-x-preserved : goal.loop-x-preserved
loop-x-preserved c =
    let e = c.put.ensures in
    let v : ℤ = get_or c.args.values.now c.loop-x.x (pos 0) in
    let f : FitsSigned w128 v = search rules in
    record {
      same = e.same_reference ∙ c.loop-x.invariant.same;
      written = row_more c.args.width c.args.start c.loop-x.x _ _ c.args.pixels.now.bytes.now c.loop-x.pixels.bytes.now c.put.new.self.bytes.now c.loop-x.invariant.written
          (to_z-of_z w64 c.stored_of.result (record { sfits = c.stored_of.type_inv }) ∙ c.stored_of.ensures ∙ ap (λ x. x -ℤ to_z w128 (of_z w128 c.args.offset)) (to_z-of_z w128 v f)) e.long e.here e.other;
    }

-- what is written is a value less the offset
pub put-requires-clause-storable : goal.put-requires-clause-storable
put-requires-clause-storable c =
    let v : ℤ = get_or c.args.values.now c.loop-x.x (pos 0) in
    let f : FitsSigned w128 v = search rules in
    subst (IsStorable c.args.width)
    (ap (λ x. v -ℤ x) (sym (to_z-of_z w128 c.args.offset c.ranges.offset)) ∙ ap (λ x. x -ℤ to_z w128 (of_z w128 c.args.offset)) (sym (to_z-of_z w128 v f)) ∙ sym c.stored_of.ensures ∙ sym (to_z-of_z w64 c.stored_of.result (record { sfits = c.stored_of.type_inv })))
    (c.requires.storable c.loop-x.x c.loop-x-test.true)

-- the bytes have room for the pixel
pub put-requires-clause-within : goal.put-requires-clause-within
put-requires-clause-within c =
    pixel_room c.args.start c.loop-x.x (length c.args.values.now) c.args.width (length c.args.pixels.now.bytes.now) (length c.loop-x.pixels.bytes.now) c.loop-x-test.true c.requires.within c.loop-x.invariant.written.long

-- no pixel is written yet
pub loop-x-init : goal.loop-x-init
loop-x-init c = record { same = refl; written = row_begun _ _ _ _ }

-- a number that a pixel can store is small
pub stored_of-requires : goal.stored_of-requires
stored_of-requires c =
    let v : ℤ = get_or c.args.values.now c.loop-x.x (pos 0) in
    let f : FitsSigned w128 v = search rules in
    subst (FitsSigned w64) (ap (λ x. v -ℤ x) (sym (to_z-of_z w128 c.args.offset c.ranges.offset)) ∙ ap (λ x. x -ℤ to_z w128 (of_z w128 c.args.offset)) (sym (to_z-of_z w128 v f)))
    (storable_fits c.args.width (v -ℤ c.args.offset) c.requires.width (c.requires.storable c.loop-x.x c.loop-x-test.true))
