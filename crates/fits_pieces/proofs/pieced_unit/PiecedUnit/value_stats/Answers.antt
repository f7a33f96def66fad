use Rattle.std.proofs.Common.{◌≤◌, ◌^◌, ◌∙◌, ap, subst, sym}
use Rattle.std.specs.Prelude.{unsigned_abs}
use Rattle.std.specs.Int.{w128}
use Rattle.std.proofs.lemmas.Int.{to_z-of_z}
use Rattle.fits_pixels.specs.declared.pixel_summary.PixelSummary.{PixelSummary}
use Rattle.fits_pixels.specs.Pixels.{pixels}
use Rattle.fits_pixels.specs.Statistics.{summary_with, value_statistics}
use Rattle.fits_pixels.proofs.ValueLemmas.{offset_is_exact}
use Rattle.fits_pieces.specs.Pieces.{bytes_with, PiecedState}
use Rattle.fits_pieces.proofs.PiecesLemmas.{root_statistics, stored_small}
use Rattle.fits_pieces.proofs.pieced_unit.PiecedUnit.value_stats.Goals as goal

pub with_offset-requires-clause-few : goal.with_offset-requires-clause-few
with_offset-requires-clause-few c =
    let it = c.self.inside in
    let v = c.self.invariant.are in
    let stored = ap (λ z. z.first) c.root.ensures ∙ root_statistics it.layout it.gone.bytes it.len it.pieces.items it.tree.leaves v in
    subst (λ (s : PixelSummary). s.defined ≤ 2 ^ 62) (sym stored) (stored_small it.layout it.gone.bytes it.len it.pieces.items it.tree.leaves v).few

pub with_offset-requires-clause-sum : goal.with_offset-requires-clause-sum
with_offset-requires-clause-sum c =
    let it = c.self.inside in
    let v = c.self.invariant.are in
    let stored = ap (λ z. z.first) c.root.ensures ∙ root_statistics it.layout it.gone.bytes it.len it.pieces.items it.tree.leaves v in
    subst (λ (s : PixelSummary). unsigned_abs s.sum ≤ 2 ^ 125) (sym stored) (stored_small it.layout it.gone.bytes it.len it.pieces.items it.tree.leaves v).sum

-- they give those of the values
pub returns : goal.returns
returns c =
    let it = c.self.inside in
    let v = c.self.invariant.are in
    c.with_offset.ensures ∙ ap (λ o. summary_with o c.root.result.first) (to_z-of_z w128 c.args.offset c.ranges.offset)
    ∙ ap (summary_with c.args.offset) (ap (λ z. z.first) c.root.ensures ∙ root_statistics it.layout it.gone.bytes it.len it.pieces.items it.tree.leaves v)
    ∙ offset_is_exact c.args.offset it.layout.blank (pixels it.layout.width (bytes_with it.pieces.items it.gone.bytes) 0 it.layout.pixels)
    ∙ ap (λ (s : PiecedState). value_statistics c.args.offset s.plane.layout.blank (pixels s.plane.layout.width s.plane.bytes 0 s.plane.layout.pixels)) c.self.view_is
