use Rattle.std.proofs.Common.{◌≡◌, ◌∙◌, ℕ, List, Bool, ap, arith, length, subst, sym}
use Rattle.fits_pixels.specs.Layout.{IsLayout}
use Rattle.fits_pixels.specs.declared.layout.Layout.{Layout}
use Rattle.fits_pieces.specs.Piece.{pieces_in}
use Rattle.fits_pieces.specs.Pieces.{missing_pieces, HoldsRectangle}
use Rattle.fits_pieces.proofs.LoadingLemmas.{held_once_loaded}
use Rattle.fits_tests_away.proofs.pieces.paint_unit.Goals as goal

-- a rectangle for which none of the pieces is missing is in memory
holds_all : (axes lo hi : List ℕ) (layout : Layout) (bytes : List ℕ) (held : List Bool) (missing : List ℕ) → IsLayout layout bytes → length held ≡ pieces_in (length bytes)
    → missing ≡ missing_pieces axes lo hi layout held → length missing ≡ 0 → HoldsRectangle axes lo hi layout held
holds_all axes lo hi layout bytes held missing fits count is none =
    held_once_loaded axes lo hi layout bytes held held fits count (λ j here. here) (λ n within. absurd (omega (arith, within, none, ap length is)))

pub paint_rect-requires-clause-held : goal.paint_rect-requires-clause-held
paint_rect-requires-clause-held g c =
    let unit = c.args.unit.now in
    let painting = c.args.painting.now in
    let fits : IsLayout unit.plane.layout unit.plane.bytes = subst (λ (l : Layout). IsLayout l unit.plane.bytes) c.layout-layout.ensures.value c.layout-layout.ensures.fits in
    holds_all painting.axes.now painting.lo.now painting.hi.now unit.plane.layout unit.plane.bytes unit.held c.in_ok-missing.missing.items fits (sym c.piece_count-count.ensures.held ∙ c.piece_count-count.ensures.count)
    c.in_ok-missing.ensures.value (grind (arith, c.is_empty.ensures, c.holds.ensures))

-- a painting lets none go
pub rect-requires-clause-held : goal.rect-requires-clause-held
rect-requires-clause-held g c =
    let unit = c.args.unit.now in
    let painting = c.args.painting.now in
    let fits : IsLayout unit.plane.layout unit.plane.bytes = subst (λ (l : Layout). IsLayout l unit.plane.bytes) c.layout-layout.ensures.value c.layout-layout.ensures.fits in
    let before : HoldsRectangle painting.axes.now painting.lo.now painting.hi.now unit.plane.layout unit.held =
    holds_all painting.axes.now painting.lo.now painting.hi.now unit.plane.layout unit.plane.bytes unit.held c.in_ok-missing.missing.items fits (sym c.piece_count-count.ensures.held ∙ c.piece_count-count.ensures.count)
    c.in_ok-missing.ensures.value (grind (arith, c.is_empty.ensures, c.holds.ensures)) in
    let held : HoldsRectangle painting.axes.now painting.lo.now painting.hi.now unit.plane.layout c.paint_rect.new.self.held = subst (λ (h : List Bool). HoldsRectangle painting.axes.now painting.lo.now painting.hi.now unit.plane.layout h) (sym c.paint_rect.ensures.held) before in
    subst (λ (l : Layout). HoldsRectangle painting.axes.now painting.lo.now painting.hi.now l c.paint_rect.new.self.held) (sym c.paint_rect.ensures.painted.layout) held
