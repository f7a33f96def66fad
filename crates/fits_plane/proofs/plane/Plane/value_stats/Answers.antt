use Rattle.std.proofs.Common.{◌≤◌, ◌^◌, ◌∙◌, length, ap, arith, sym, subst}
use Rattle.std.specs.Prelude.{unsigned_abs}
use Rattle.std.specs.Int.{w128}
use Rattle.std.proofs.lemmas.Int.{to_z-of_z}
use Rattle.fits_pixels.specs.Pixels.{pixels}
use Rattle.fits_pixels.specs.Statistics.{summary_with}
use Rattle.fits_pixels.proofs.LayoutLemmas.{layout_small}
use Rattle.fits_pixels.proofs.StatisticsLemmas.{pixels_fit}
use Rattle.fits_pixels.proofs.PixelLemmas.{length-pixels}
use Rattle.fits_pixels.proofs.ValueLemmas.{Small, statistics_small, offset_is_exact}
use Rattle.fits_plane.proofs.plane.Plane.value_stats.Goals as goal

-- the statistics are small enough
small : (c : goal.After-stats) → Small c.args.self.now.layout.blank (pixels c.args.self.now.layout.width c.args.self.now.bytes 0 c.args.self.now.layout.pixels)
small c =
    let t = c.self.inside in
    let h = c.self.invariant.layout in
    let bytes = c.are_bytes.ensures in
    let fit = pixels_fit t.layout.width t.store.bytes 0 t.layout.pixels h.width h.no_pixels bytes in
    let few : length (pixels t.layout.width t.store.bytes 0 t.layout.pixels) ≤ 2 ^ 62 = omega (arith, length-pixels t.layout.width 0 t.layout.pixels t.store.bytes, layout_small t.layout t.store.bytes h, h.limit) in
    subst (λ p. Small p.layout.blank (pixels p.layout.width p.bytes 0 p.layout.pixels)) c.self.view_is
    (statistics_small t.layout.blank (pixels t.layout.width t.store.bytes 0 t.layout.pixels) fit few)

pub with_offset-requires-clause-few : goal.with_offset-requires-clause-few
with_offset-requires-clause-few c = subst (λ s. s.defined ≤ 2 ^ 62) (sym c.stats.ensures) (small c).few

pub with_offset-requires-clause-sum : goal.with_offset-requires-clause-sum
with_offset-requires-clause-sum c = subst (λ s. unsigned_abs s.sum ≤ 2 ^ 125) (sym c.stats.ensures) (small c).sum

pub returns : goal.returns
returns c =
    let s = c.args.self.now in
    c.with_offset.ensures ∙ ap (λ o. summary_with o c.stats.result) (to_z-of_z w128 c.args.offset c.ranges.offset) ∙ ap (summary_with c.args.offset) c.stats.ensures
    ∙ offset_is_exact c.args.offset s.layout.blank (pixels s.layout.width s.bytes 0 s.layout.pixels)
