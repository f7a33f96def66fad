use Rattle.std.proofs.Common.{◌≡◌, ◌∙◌, ap, sym, subst, rules, None, true, false}
use Rattle.std.specs.Prelude.{Err, IsTrue}
use Rattle.fits_plane.specs.Paint.{can_store_paint, has_count}
use Rattle.fits_plane.specs.Rectangle.{lies_within, product, rectangle_size}
use Rattle.fits_rules.specs.declared.array_shape.Shape.{Shape}
use Rattle.fits_passing.specs.Hdu.{HduParts}
use Rattle.fits_hdu.specs.Pixels.{painted}
use Rattle.fits_hdu.specs.State.{HduState, parts_of}
use Rattle.fits_hdu.specs.declared.pixel_fault.PixelFault.TheVariants.{NotImage, BadRectangle, WrongCount, OutOfRange}
use Rattle.fits_hdu.proofs.PixelLemmas.{few_places, painted-not_image, painted-bad, painted-count, painted-out, plane_pixels}
use Rattle.fits_passing.proofs.StatsLemmas.{offset_fits}
use Rattle.fits_hdu.proofs.hdu.Hdu.paintable.Goals as goal

pub returns-in_default-clause-err : goal.returns-in_default-clause-err
returns-in_default-clause-err c =
    let t = c.self.inside in
    let hdu : HduParts = record { header = t.header.header; data_unit = t.unit.plane.bytes } in
    let no : t.kind ≡ None = search rules in
    subst (λ (s : HduState). painted s.header.shape c.args.lo.now c.args.hi.now c.args.paint.now (parts_of s) ≡ Err NotImage) c.self.view_is
    (painted-not_image t.header.shape hdu c.args.lo.now c.args.hi.now c.args.paint.now (sym c.self.invariant.kind ∙ no))

pub returns-then-not-is_rectangle-clause-err : goal.returns-then-not-is_rectangle-clause-err
returns-then-not-is_rectangle-clause-err c =
    let t = c.self.inside in
    let hdu : HduParts = record { header = t.header.header; data_unit = t.unit.plane.bytes } in
    let some = c.in-Some.is in
    let bad : lies_within t.header.shape.axes c.args.lo.now c.args.hi.now ≡ false = search rules in
    subst (λ (s : HduState). painted s.header.shape c.args.lo.now c.args.hi.now c.args.paint.now (parts_of s) ≡ Err BadRectangle) c.self.view_is
    (painted-bad t.header.shape hdu c.args.lo.now c.args.hi.now c.args.paint.now c.in-Some.kind (sym c.self.invariant.kind ∙ some) bad)

pub rectangle_len-requires-clause-small : goal.rectangle_len-requires-clause-small
rectangle_len-requires-clause-small c =
    let t = c.self.inside in
    let some = c.in-Some.is in
    let axes = c.as_slice-axes.ensures ∙ ap (λ (shape : Shape). shape.axes) c.shape.ensures.value in
    let is : c.layout-layout.result ≡ t.unit.plane.layout = c.layout-layout.ensures.value in
    few_places c.layout-layout.result t.unit.plane.bytes c.as_slice-axes.result.now c.layout-layout.ensures.fits
    (ap product axes ∙ plane_pixels t.unit.plane.layout t.header.shape t.header.header.cards c.in-Some.kind t.kind c.self.invariant.layout c.self.invariant.kind some ∙ ap (λ l. l.pixels) (sym is))

pub returns-then-not-has_count-clause-err : goal.returns-then-not-has_count-clause-err
returns-then-not-has_count-clause-err c =
    let t = c.self.inside in
    let hdu : HduParts = record { header = t.header.header; data_unit = t.unit.plane.bytes } in
    let some = c.in-Some.is in
    let within : lies_within t.header.shape.axes c.args.lo.now c.args.hi.now ≡ true = search rules in
    let wrong : has_count c.args.paint.now (rectangle_size c.args.lo.now c.args.hi.now) ≡ false = search rules in
    subst (λ (s : HduState). painted s.header.shape c.args.lo.now c.args.hi.now c.args.paint.now (parts_of s) ≡ Err WrongCount) c.self.view_is
    (painted-count t.header.shape hdu c.args.lo.now c.args.hi.now c.args.paint.now c.in-Some.kind (sym c.self.invariant.kind ∙ some) within wrong)

pub returns-then-not-is_storable-clause-err : goal.returns-then-not-is_storable-clause-err
returns-then-not-is_storable-clause-err c =
    let t = c.self.inside in
    let hdu : HduParts = record { header = t.header.header; data_unit = t.unit.plane.bytes } in
    let some = c.in-Some.is in
    let within : lies_within t.header.shape.axes c.args.lo.now c.args.hi.now ≡ true = search rules in
    let count : has_count c.args.paint.now (rectangle_size c.args.lo.now c.args.hi.now) ≡ true = search rules in
    let test : can_store_paint c.width.result c.offset-offset.result c.args.paint.now ≡ false = search rules in
    let offset = offset_fits c.in-Some.kind c.offset-offset.result c.offset-offset.ensures in
    subst (λ (s : HduState). painted s.header.shape c.args.lo.now c.args.hi.now c.args.paint.now (parts_of s) ≡ Err OutOfRange) c.self.view_is
    (painted-out t.header.shape hdu c.args.lo.now c.args.hi.now c.args.paint.now c.in-Some.kind (sym c.self.invariant.kind ∙ some) within count
    (rw (← c.width.ensures.value, ← c.offset-offset.ensures) test))

pub returns-clause-numbers : goal.returns-clause-numbers
returns-clause-numbers c =
    let can : IsTrue c.is_storable.result = search rules in
    let count : has_count c.args.paint.now (rectangle_size c.args.lo.now c.args.hi.now) ≡ true = search rules in
    let offset = offset_fits c.in-Some.kind c.offset-offset.result c.offset-offset.ensures ∙ c.offset-offset.ensures in
    rw (← c.width.ensures.value, ← offset) (c.is_storable.ensures.numbers can (rectangle_size c.args.lo.now c.args.hi.now) count)
