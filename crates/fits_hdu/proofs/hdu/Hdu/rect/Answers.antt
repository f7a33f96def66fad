use Rattle.std.proofs.Common.{◌≡◌, ◌∙◌, ap, sym, subst, rules, refl, ℤ, List, None, true, false}
use Rattle.std.specs.Prelude.{Result, Err, Ok, IsOk}
use Rattle.fits_plane.specs.Rectangle.{lies_within, product, rectangle_values, IsRectangle}
use Rattle.fits_rules.specs.declared.array_shape.Shape.{Shape}
use Rattle.fits_passing.specs.Hdu.{HduParts}
use Rattle.fits_image.specs.Kind.{offset_of, width_of}
use Rattle.fits_hdu.specs.Pixels.{rect_of}
use Rattle.fits_hdu.specs.State.{HduState, parts_of, HasPixels}
use Rattle.fits_hdu.specs.declared.pixel_fault.PixelFault.{PixelFault}
use Rattle.fits_hdu.specs.declared.pixel_fault.PixelFault.TheVariants.{NotImage, BadRectangle}
use Rattle.fits_passing.proofs.StatsLemmas.{offset_fits}
use Rattle.fits_hdu.proofs.PixelLemmas.{plane_pixels, plane_width, rect_of-bad, rect_of-not_image, rect_of-values}
use Rattle.fits_hdu.proofs.hdu.Hdu.rect.Goals as goal

pub returns-in_default-clause-err : goal.returns-in_default-clause-err
returns-in_default-clause-err c =
    let t = c.self.inside in
    let hdu : HduParts = record { header = t.header.header; data_unit = t.unit.plane.bytes } in
    let no : t.kind ≡ None = search rules in
    subst (λ (s : HduState). rect_of s.header.shape c.args.lo.now c.args.hi.now (parts_of s) ≡ Err NotImage) c.self.view_is
    (rect_of-not_image t.header.shape hdu c.args.lo.now c.args.hi.now (sym c.self.invariant.kind ∙ no))

pub returns-then-not-is_rectangle-clause-err : goal.returns-then-not-is_rectangle-clause-err
returns-then-not-is_rectangle-clause-err c =
    let t = c.self.inside in
    let hdu : HduParts = record { header = t.header.header; data_unit = t.unit.plane.bytes } in
    let some = c.in-Some.is in
    let bad : lies_within t.header.shape.axes c.args.lo.now c.args.hi.now ≡ false = search rules in
    subst (λ (s : HduState). rect_of s.header.shape c.args.lo.now c.args.hi.now (parts_of s) ≡ Err BadRectangle) c.self.view_is
    (rect_of-bad t.header.shape hdu c.args.lo.now c.args.hi.now c.in-Some.kind (sym c.self.invariant.kind ∙ some) bad)

pub returns-in_default-rect-clause-err : goal.returns-in_default-rect-clause-err
returns-in_default-rect-clause-err c =
    let t = c.self.inside in
    let hdu : HduParts = record { header = t.header.header; data_unit = t.unit.plane.bytes } in
    let some = c.in-Some.is in
    let within : lies_within t.header.shape.axes c.args.lo.now c.args.hi.now ≡ true = search rules in
    subst (λ (s : HduState). IsOk (rect_of s.header.shape c.args.lo.now c.args.hi.now (parts_of s))) c.self.view_is
    (subst (λ (r : Result (List ℤ) PixelFault). IsOk r) (sym (rect_of-values t.header.shape hdu c.args.lo.now c.args.hi.now c.in-Some.kind (sym c.self.invariant.kind ∙ some) within)) refl)

pub returns-clause-ok : goal.returns-clause-ok
returns-clause-ok c =
    let t = c.self.inside in
    let hdu : HduParts = record { header = t.header.header; data_unit = t.unit.plane.bytes } in
    let some = c.in-Some.is in
    let within : lies_within t.header.shape.axes c.args.lo.now c.args.hi.now ≡ true = search rules in
    let axes = c.as_slice-axes.ensures ∙ ap (λ (shape : Shape). shape.axes) c.shape.ensures.value in
    let width = plane_width t.unit.plane.layout t.header.shape t.header.header.cards c.in-Some.kind t.kind (width_of c.in-Some.kind) c.self.invariant.layout c.self.invariant.described c.self.invariant.kind some refl in
    let values : c.in-Ok.values.items ≡ rectangle_values (width_of c.in-Some.kind) t.unit.plane.bytes t.header.shape.axes c.args.lo.now c.args.hi.now (offset_of c.in-Some.kind) =
    c.in-Ok.ensures.value
    ∙ ap (λ o. rectangle_values t.unit.plane.layout.width t.unit.plane.bytes c.as_slice-axes.result.now c.args.lo.now c.args.hi.now o) (offset_fits c.in-Some.kind c.offset.result c.offset.ensures ∙ c.offset.ensures)
    ∙ ap (λ xs. rectangle_values t.unit.plane.layout.width t.unit.plane.bytes xs c.args.lo.now c.args.hi.now (offset_of c.in-Some.kind)) axes
    ∙ ap (λ w. rectangle_values w t.unit.plane.bytes t.header.shape.axes c.args.lo.now c.args.hi.now (offset_of c.in-Some.kind)) width in
    subst (λ (s : HduState). rect_of s.header.shape c.args.lo.now c.args.hi.now (parts_of s) ≡ Ok c.in-Ok.values.items) c.self.view_is
    (rect_of-values t.header.shape hdu c.args.lo.now c.args.hi.now c.in-Some.kind (sym c.self.invariant.kind ∙ some) within ∙ ap Ok (sym values))

pub rect-requires-clause-all : goal.rect-requires-clause-all
rect-requires-clause-all c =
    let t = c.self.inside in
    let some = c.in-Some.is in
    let axes = c.as_slice-axes.ensures ∙ ap (λ (shape : Shape). shape.axes) c.shape.ensures.value in
    ap product axes ∙ plane_pixels t.unit.plane.layout t.header.shape t.header.header.cards c.in-Some.kind t.kind c.self.invariant.layout c.self.invariant.kind some

-- the rectangle is one of the image, so its pixels are in memory
pub rect-requires-clause-held : goal.rect-requires-clause-held
rect-requires-clause-held c =
    let has = subst (HasPixels c.args.lo.now c.args.hi.now) (sym c.self.view_is) c.requires c.in-Some.kind (sym c.self.invariant.kind ∙ c.in-Some.is) in
    let axes = c.as_slice-axes.ensures ∙ ap (λ (shape : Shape). shape.axes) c.shape.ensures.value in
    let rectangle : IsRectangle c.as_slice-axes.result.now c.args.lo.now c.args.hi.now = search rules in
    rw axes (has.pixels (rw axes at rectangle))
