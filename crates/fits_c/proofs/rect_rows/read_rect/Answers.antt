use Rattle.std.proofs.Common.{◌∙◌, length, ap, sym, subst}
use Rattle.std.proofs.lemmas.Bool.{false≢true}
use Rattle.fits_plane.specs.Rectangle.{lies_within, IsRectangle}
use Rattle.fits_session.specs.Session.{file_of}
use Rattle.fits_tell.proofs.ExitLemmas.{at_exit}
use Rattle.fits_c.proofs.AxisLemmas.{corners_of}
use Rattle.fits_c.proofs.RectLemmas.{corners_stop, count_stops, image_of, kind_stops, shape_stays}
use Rattle.fits_c.proofs.rect_rows.read_rect.Goals as goal

pub returns-in_err-kind-clause-err : goal.returns-in_err-kind-clause-err
returns-in_err-kind-clause-err g c = at_exit c.from_residual.result _ _ c.from_residual.ensures.1 (kind_stops g.N.Number.Fits (file_of c.args.session.now) c.args.h (length c.args.room.now) c.args.lo.now c.args.hi.now _ (sym c.kind.ensures ∙ c.in_err-kind.was))

pub returns-in_err-shape-clause-err : goal.returns-in_err-shape-clause-err
returns-in_err-shape-clause-err g c = absurd (shape_stays (file_of c.args.session.now) c.args.h _ _ (sym c.kind.ensures ∙ c.in_ok-kind.was) c.in_err-shape.ensures.err)

pub returns-then-not-is_rectangle-clause-err : goal.returns-then-not-is_rectangle-clause-err
returns-then-not-is_rectangle-clause-err g c =
    corners_stop g.N.Number.Fits (file_of c.args.session.now) c.args.h (length c.args.room.now) _ c.args.lo.now c.args.hi.now (image_of _ _ _ c.in_ok-shape.shape.now (sym c.kind.ensures ∙ c.in_ok-kind.was) c.in_ok-shape.ensures.ok)
    (ap (λ xs. lies_within xs c.args.lo.now c.args.hi.now) (sym c.as_slice.ensures) ∙ sym c.is_rectangle.ensures.value ∙ c.if-not-is_rectangle.true)

pub has_size-requires : goal.has_size-requires
has_size-requires g c = corners_of _ _ _ (c.is_rectangle.ensures.means.0 c.if-not-is_rectangle.false)

pub returns-then-not-has_size-clause-err : goal.returns-then-not-has_size-clause-err
returns-then-not-has_size-clause-err g c =
    count_stops g.N.Number.Fits (file_of c.args.session.now) c.args.h (length c.args.room.now) _ c.args.lo.now c.args.hi.now (image_of _ _ _ c.in_ok-shape.shape.now (sym c.kind.ensures ∙ c.in_ok-kind.was) c.in_ok-shape.ensures.ok)
    (subst (λ xs. IsRectangle xs c.args.lo.now c.args.hi.now) c.as_slice.ensures (c.is_rectangle.ensures.means.0 c.if-not-is_rectangle.false))
    (λ e. false≢true (sym c.if-not-has_size.true ∙ c.has_size.ensures.1 e))

pub read_rows-requires-clause-lies : goal.read_rows-requires-clause-lies
read_rows-requires-clause-lies g c = record {
  axes = c.in_ok-shape.shape.now.axes;
  image = image_of _ _ _ c.in_ok-shape.shape.now (sym c.kind.ensures ∙ c.in_ok-kind.was) c.in_ok-shape.ensures.ok;
  lies = subst (λ xs. IsRectangle xs c.args.lo.now c.args.hi.now) c.as_slice.ensures (c.is_rectangle.ensures.means.0 c.if-not-is_rectangle.false);
}
