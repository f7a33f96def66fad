use Rattle.std.proofs.Common.{◌≡◌, ◌<◌, ◌+◌, ◌∙◌, FitsSigned, arith, rules, subst, sym}
use Rattle.std.specs.Int.{w64, w128}
use Rattle.std.proofs.lemmas.Int.{to_z-of_z}
use Rattle.fits_pixels.specs.Pixels.{pixel, IsStorable}
use Rattle.fits_plane.specs.Paint.{painted_number}
use Rattle.fits_plane.specs.Painting.{number_of}
use Rattle.fits_plane.proofs.PaintLemmas.{part_number, written_part}
use Rattle.fits_plane.proofs.pixel_writes.paint_row.Goals as goal

-- the one number is stored
pub fill_row-requires-clause-storable : goal.fill_row-requires-clause-storable
fill_row-requires-clause-storable c =
    let value : FitsSigned w128 c.in-Fill.value = search rules in
    let offset : FitsSigned w128 c.args.painting.now.offset = search rules in
    let stored = subst (λ p. IsStorable c.args.width (painted_number p c.args.painting.now.offset (c.args.rank + 0))) c.in-Fill.is (c.requires.paint.storable 0 c.requires.some) in
    rw (to_z-of_z w64 c.stored_of-stored.result (record { sfits = c.stored_of-stored.type_inv }), c.stored_of-stored.ensures, to_z-of_z w128 c.in-Fill.value value, to_z-of_z w128 c.args.painting.now.offset offset) stored

-- so are the row's values
pub write_row-requires-clause-storable : goal.write_row-requires-clause-storable
write_row-requires-clause-storable c = λ x b.
    let it = c.args.painting.now in
    let offset : FitsSigned w128 c.args.painting.now.offset = search rules in
    let part = written_part it.paint.now c.in-Write.values c.as_slice.result.now c.args.rank c.args.count c.in-Write.is c.as_slice.ensures c.requires.paint.values in
    let near : x < c.args.count = omega (arith, b, part.long) in
    let number = part_number it.paint.now c.in-Write.values c.as_slice.result.now it.offset c.args.rank c.args.count x c.in-Write.is c.as_slice.ensures c.requires.paint.values near in
    rw (to_z-of_z w128 c.args.painting.now.offset offset) (subst (IsStorable c.args.width) (sym number) (c.requires.paint.storable x near))

-- and each pixel has its own
pub returns-in-Write-clause-inside : goal.returns-in-Write-clause-inside
returns-in-Write-clause-inside c = λ x b.
    let it = c.args.painting.now in
    let offset : FitsSigned w128 c.args.painting.now.offset = search rules in
    let part = written_part it.paint.now c.in-Write.values c.as_slice.result.now c.args.rank c.args.count c.in-Write.is c.as_slice.ensures c.requires.paint.values in
    let number = part_number it.paint.now c.in-Write.values c.as_slice.result.now it.offset c.args.rank c.args.count x c.in-Write.is c.as_slice.ensures c.requires.paint.values b in
    let here = c.write_row.ensures.written.inside x (omega (arith, b, part.long)) in
    let whole : pixel c.args.width c.write_row.new.pixels.bytes.now (c.args.start + x) ≡ number_of c.args.painting.now (c.args.rank + x) = rw (to_z-of_z w128 c.args.painting.now.offset offset) at here ∙ number in search rules
