use Rattle.std.proofs.Common.{◌≡◌, ◌∙◌, ap, sym, subst, rules, None, Some}
use Rattle.fits_pixels.specs.Pixels.{pixels}
use Rattle.fits_pixels.specs.Statistics.{value_statistics}
use Rattle.fits_pixels.specs.declared.value_summary.ValueSummary.{ValueSummary}
use Rattle.fits_passing.specs.Hdu.{HduParts}
use Rattle.fits_image.specs.Kind.{offset_of}
use Rattle.fits_passing.specs.Stats.{stats_of}
use Rattle.fits_hdu.specs.State.{HduState, parts_of, HasStats}
use Rattle.fits_passing.proofs.StatsLemmas.{offset_fits}
use Rattle.fits_hdu.proofs.PixelLemmas.{stats_of-image, stats_of-none}
use Rattle.fits_hdu.proofs.hdu.Hdu.stats.Goals as goal

pub returns-in_err-kind : goal.returns-in_err-kind
returns-in_err-kind c =
    let t = c.self.inside in
    let hdu : HduParts = record { header = t.header.header; data_unit = t.unit.plane.bytes } in
    let no : t.kind ≡ None = search rules in
    let result : c.from_residual.result ≡ None = search rules in
    result ∙ subst (λ (s : HduState). None ≡ stats_of s.header.shape (parts_of s)) c.self.view_is (stats_of-none t.header.shape hdu (sym c.self.invariant.kind ∙ no))

pub returns : goal.returns
returns c =
    let t = c.self.inside in
    let hdu : HduParts = record { header = t.header.header; data_unit = t.unit.plane.bytes } in
    let values : ValueSummary = c.value_stats.result in
    let some : t.kind ≡ Some c.in_ok-kind.kind = search rules in
    let found : values ≡ value_statistics (offset_of c.in_ok-kind.kind) t.unit.plane.layout.blank (pixels t.unit.plane.layout.width t.unit.plane.bytes 0 t.unit.plane.layout.pixels) =
    c.value_stats.ensures
    ∙ ap (λ o. value_statistics o t.unit.plane.layout.blank (pixels t.unit.plane.layout.width t.unit.plane.bytes 0 t.unit.plane.layout.pixels)) (offset_fits c.in_ok-kind.kind c.offset.result c.offset.ensures ∙ c.offset.ensures) in
    subst (λ (s : HduState). Some values ≡ stats_of s.header.shape (parts_of s)) c.self.view_is
    (stats_of-image t.header.shape hdu c.in_ok-kind.kind t.unit.plane.layout values (sym c.self.invariant.kind ∙ some) c.self.invariant.layout found)

pub value_stats-requires-clause-counted : goal.value_stats-requires-clause-counted
value_stats-requires-clause-counted c =
    let some : c.self.inside.kind ≡ Some c.in_ok-kind.kind = search rules in
    subst HasStats (sym c.self.view_is) c.requires c.in_ok-kind.kind (sym c.self.invariant.kind ∙ some)
