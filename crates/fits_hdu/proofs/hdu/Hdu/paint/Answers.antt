use Rattle.std.proofs.Common.{◌≡◌, ◌∙◌, Some, ap, sym, subst, length, true}
use Rattle.std.specs.Prelude.{Ok}
use Rattle.fits_pixels.specs.declared.layout.Layout.{Layout}
use Rattle.fits_plane.specs.Paint.{painted_number}
use Rattle.fits_plane.specs.Rectangle.{lies_within, product, rectangle_written, IsRectangle}
use Rattle.fits_rules.specs.declared.array_shape.Shape.{Shape}
use Rattle.fits_image.specs.Kind.{kind_in, offset_of}
use Rattle.fits_hdu.specs.Pixels.{painted}
use Rattle.fits_hdu.specs.State.{HduState, parts_of, HasPixels}
use Rattle.fits_hdu.specs.Work.{IsPatchedIn}
use Rattle.fits_plane.proofs.RectangleLemmas.{length-rectangle_written}
use Rattle.fits_hdu.proofs.PixelLemmas.{kind_width, layout_pixels, layout_width, painted-done, patched}
use Rattle.fits_passing.proofs.StatsLemmas.{offset_fits}
use Rattle.fits_hdu.proofs.hdu.Hdu.paint.Goals as goal

-- the rectangle is one of the image, and its pixels can store the values
pub paint_rect-requires-clause-suits : goal.paint_rect-requires-clause-suits
paint_rect-requires-clause-suits c =
    let t = c.self.inside in
    let kind = c.in_ok-kind.kind in
    let e = c.in_ok-kind.ensures in
    let some = subst (λ (s : HduState). kind_in s.header.shape s.header.header.cards ≡ Some kind) (sym c.self.view_is) e.kind in
    let within = subst (λ (s : HduState). IsRectangle s.header.shape.axes c.args.lo.now c.args.hi.now) (sym c.self.view_is) e.rectangle in
    let width = ap (λ (l : Layout). l.width) c.self.invariant.layout ∙ layout_width t.header.shape t.header.header.cards kind c.self.invariant.described some in
    let axes = c.as_slice-axes.ensures ∙ ap (λ (shape : Shape). shape.axes) c.shape.ensures.value in
    let offset = offset_fits kind c.offset-offset.result c.offset-offset.ensures ∙ c.offset-offset.ensures in
    record {
      width = rw width (kind_width kind);
      rectangle = rw axes within;
      all = ap product axes ∙ layout_pixels t.header.shape t.header.header.cards kind some ∙ ap (λ (l : Layout). l.pixels) (sym c.self.invariant.layout);
      count = e.count;
      storable = rw (width, offset) e.numbers;
    }

pub returns-clause-ok : goal.returns-clause-ok
returns-clause-ok c =
    let t = c.self.inside in
    let kind = c.in_ok-kind.kind in
    let e = c.in_ok-kind.ensures in
    let some = subst (λ (s : HduState). kind_in s.header.shape s.header.header.cards ≡ Some kind) (sym c.self.view_is) e.kind in
    let within = subst (λ (s : HduState). lies_within s.header.shape.axes c.args.lo.now c.args.hi.now ≡ true) (sym c.self.view_is) e.within in
    let width = ap (λ (l : Layout). l.width) c.self.invariant.layout ∙ layout_width t.header.shape t.header.header.cards kind c.self.invariant.described some in
    let axes = c.as_slice-axes.ensures ∙ ap (λ (shape : Shape). shape.axes) c.shape.ensures.value in
    let offset = offset_fits kind c.offset-offset.result c.offset-offset.ensures ∙ c.offset-offset.ensures in
    let put : c.paint_rect.new.self.plane.bytes ≡ rectangle_written t.unit.plane.layout.width t.header.shape.axes c.args.lo.now c.args.hi.now (painted_number c.args.paint.now (offset_of kind)) t.unit.plane.bytes =
    c.paint_rect.ensures.painted.bytes
    ∙ ap (λ o. rectangle_written t.unit.plane.layout.width c.as_slice-axes.result.now c.args.lo.now c.args.hi.now (painted_number c.args.paint.now o) t.unit.plane.bytes) offset
    ∙ ap (λ xs. rectangle_written t.unit.plane.layout.width xs c.args.lo.now c.args.hi.now (painted_number c.args.paint.now (offset_of kind)) t.unit.plane.bytes) axes in
    subst (λ (s : HduState). painted s.header.shape c.args.lo.now c.args.hi.now c.args.paint.now (parts_of s) ≡ Ok (record { header = t.header.header; data_unit = c.paint_rect.new.self.plane.bytes })) c.self.view_is
    (painted-done t.header.shape t.header.header t.unit.plane.bytes c.paint_rect.new.self.plane.bytes c.args.lo.now c.args.hi.now c.args.paint.now kind t.unit.plane.layout.width
    some within width e.count e.can put)

pub returns-clause-work : goal.returns-clause-work
returns-clause-work c =
    let t = c.self.inside in
    let e = c.paint_rect.ensures.painted in
    let axes = c.as_slice-axes.ensures ∙ ap (λ (shape : Shape). shape.axes) c.shape.ensures.value in
    subst (λ (s : HduState). IsPatchedIn c.args.lo.now c.args.hi.now s (record s { plane = c.paint_rect.new.self.plane })) c.self.view_is
    (patched t.unit.plane.layout t.header.shape t.header.header.cards t.unit.plane.bytes c.as_slice-axes.result.now c.args.lo.now c.args.hi.now _ _ c.self.invariant.layout axes
    e.reads e.more_scans e.scans e.more_joins e.joins)

-- the bytes of pixels alone change, and they stay as many
pub invariant_of-self : goal.invariant_of-self
invariant_of-self c =
    let kept = c.self.invariant in
    record {
      described = kept.described;
      size = ap length c.paint_rect.ensures.painted.bytes ∙ (length-rectangle_written _ _ _ _ _ _ ∙ kept.size);
      layout = c.paint_rect.ensures.painted.layout ∙ kept.layout;
      mark = kept.mark;
      kind = kept.kind;
      sums = kept.sums;
    }

-- so its pixels are in memory
pub paint_rect-requires-clause-held : goal.paint_rect-requires-clause-held
paint_rect-requires-clause-held c =
    let kind = c.in_ok-kind.kind in
    let e = c.in_ok-kind.ensures in
    let some = subst (λ (s : HduState). kind_in s.header.shape s.header.header.cards ≡ Some kind) (sym c.self.view_is) e.kind in
    let within = subst (λ (s : HduState). IsRectangle s.header.shape.axes c.args.lo.now c.args.hi.now) (sym c.self.view_is) e.rectangle in
    let axes = c.as_slice-axes.ensures ∙ ap (λ (shape : Shape). shape.axes) c.shape.ensures.value in
    let has = subst (HasPixels c.args.lo.now c.args.hi.now) (sym c.self.view_is) c.requires kind some in
    rw axes (has.pixels within)
