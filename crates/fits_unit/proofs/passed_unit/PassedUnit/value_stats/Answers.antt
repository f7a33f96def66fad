use Rattle.std.proofs.Common.{◌≤◌, ◌^◌, ◌∙◌, ap, sym, subst}
use Rattle.std.specs.Prelude.{unsigned_abs}
use Rattle.std.specs.Int.{w128}
use Rattle.std.proofs.lemmas.Int.{to_z-of_z}
use Rattle.fits_pixels.specs.Pixels.{pixels}
use Rattle.fits_pixels.specs.Statistics.{summary_with, value_statistics}
use Rattle.fits_pixels.proofs.ValueLemmas.{offset_is_exact}
use Rattle.fits_unit.specs.Passing.{PassedState}
use Rattle.fits_unit.proofs.PassedLemmas.{passed_small}
use Rattle.fits_unit.proofs.passed_unit.PassedUnit.value_stats.Goals as goal

pub with_offset-requires-clause-few : goal.with_offset-requires-clause-few
with_offset-requires-clause-few c =
    let it = c.self.inside in
    let inv = c.self.invariant in
    subst (λ s. s.defined ≤ 2 ^ 62) (sym inv.stored_are) (passed_small it.layout it.blank it.gone.bytes inv.fits inv.small).few

pub with_offset-requires-clause-sum : goal.with_offset-requires-clause-sum
with_offset-requires-clause-sum c =
    let it = c.self.inside in
    let inv = c.self.invariant in
    subst (λ s. unsigned_abs s.sum ≤ 2 ^ 125) (sym inv.stored_are) (passed_small it.layout it.blank it.gone.bytes inv.fits inv.small).sum

pub returns : goal.returns
returns c =
    let it = c.self.inside in
    let inv = c.self.invariant in
    let now = c.args.self.now in
    c.with_offset.ensures ∙ ap (λ o. summary_with o it.stored) (to_z-of_z w128 c.args.offset c.ranges.offset)
    ∙ ap (summary_with c.args.offset) inv.stored_are
    ∙ offset_is_exact c.args.offset it.blank (pixels it.layout.width it.gone.bytes 0 it.layout.pixels)
    ∙ ap (λ (p : PassedState). value_statistics c.args.offset p.blank (pixels p.layout.width p.bytes 0 p.layout.pixels)) c.self.view_is
    ∙ ap (λ b. value_statistics c.args.offset b (pixels now.layout.width now.bytes 0 now.layout.pixels)) (sym c.requires.counted)
