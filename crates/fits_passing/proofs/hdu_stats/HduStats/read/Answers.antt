use Rattle.std.proofs.Common.{◌≡◌, ◌≤◌, ◌^◌, ◌∙◌, length, None, Some, refl, ap, arith, sym}
use Rattle.std.proofs.lemmas.Result.{err_from_is_err_and}
use Rattle.fits_stream.proofs.SightLemmas.{takes_fewer}
use Rattle.fits_pixels.specs.Pixels.{pixels}
use Rattle.fits_pixels.specs.Statistics.{value_statistics}
use Rattle.fits_pixels.specs.declared.layout.Layout.{Layout}
use Rattle.fits_image.specs.Kind.{offset_of}
use Rattle.fits_passing.specs.PassingStats.{values_of}
use Rattle.fits_passing.specs.Stats.{AreStatsOf}
use Rattle.fits_passing.proofs.LayoutLemmas.{data_within}
use Rattle.fits_passing.proofs.StatsLemmas.{offset_fits, found_fits, stats_told}
use Rattle.fits_passing.proofs.ReadingLemmas.{described_so, hdu_comes, stops_in_unit}
use Rattle.fits_passing.proofs.hdu_stats.HduStats.read.Goals as goal

pub image_pixels-requires-clause-described : goal.image_pixels-requires-clause-described
image_pixels-requires-clause-described g c = described_so _ c.in_ok-head.head.cards.header.cards c.in_ok-head.head.shape c.in_ok-head.ensures.described

pub image_pixels-requires-clause-small : goal.image_pixels-requires-clause-small
image_pixels-requires-clause-small g c =
    let head = c.in_ok-head.ensures in
    data_within c.in_ok-head.head.shape c.in_ok-head.head.unit_len head.len (omega (arith, head.room, takes_fewer _ _ _ head.taken, c.requires))

pub pass_unit-requires : goal.pass_unit-requires
pass_unit-requires g c = λ unit size.
    let head = c.in_ok-head.ensures in
    let shape = c.in_ok-head.head.shape in
    let cards = c.in_ok-head.head.cards.header.cards in
    let small : length unit ≤ 2 ^ 34 = omega (arith, size, head.room, takes_fewer _ _ _ head.taken, c.requires) in
    found_fits shape cards c.in-Some.image (described_so _ cards shape head.described) (sym c.in-Some.is ∙ c.in-Ok.ensures) unit (size ∙ head.len) small

pub returns-in_ok-unit-in-Some-clause-ok : goal.returns-in_ok-unit-in-Some-clause-ok
returns-in_ok-unit-in-Some-clause-ok g c =
    let head = c.in_ok-head.ensures in
    let header = c.in_ok-head.head.cards.header in
    let shape = c.in_ok-head.head.shape in
    let image = c.in-Some.image in
    let unit = c.in_ok-unit-in-Some.unit in
    let values : c.value_stats.result ≡ values_of unit.bytes image =
    c.value_stats.ensures ∙ ap (λ o. value_statistics o unit.layout.blank (pixels unit.layout.width unit.bytes 0 unit.layout.pixels)) (offset_fits image.kind c.offset.result c.offset.ensures ∙ c.offset.ensures)
    ∙ ap (λ (l : Layout). value_statistics (offset_of image.kind) l.blank (pixels l.width unit.bytes 0 l.pixels)) c.in_ok-unit-in-Some.ensures.layout in
    hdu_comes (AreStatsOf (Some c.value_stats.result)) _ _ _ _ c.in_ok-head.head.unit_len header shape unit.bytes head.taken head.whole head.described head.len c.in_ok-unit-in-Some.ensures.ok c.in_ok-unit-in-Some.ensures.size
    (stats_told _ shape header unit.bytes (Some image) (Some c.value_stats.result) head.described (sym c.in-Some.is ∙ c.in-Ok.ensures) (ap Some values))

-- it is no image
pub returns-in_ok-skip_unit-in-None-clause-ok : goal.returns-in_ok-skip_unit-in-None-clause-ok
returns-in_ok-skip_unit-in-None-clause-ok g c =
    let head = c.in_ok-head.ensures in
    let header = c.in_ok-head.head.cards.header in
    let shape = c.in_ok-head.head.shape in
    let unit = c.in_ok-skip_unit-in-None.ensures.ok in
    hdu_comes (AreStatsOf None) _ _ _ _ c.in_ok-head.head.unit_len header shape unit.bytes head.taken head.whole head.described head.len unit.taken unit.size
    (stats_told _ shape header unit.bytes None None head.described (sym c.in-None.is ∙ c.in-Ok.ensures) refl)

-- the data unit didn't come
pub returns-in_err-unit-in-Some-clause-err : goal.returns-in_err-unit-in-Some-clause-err
returns-in_err-unit-in-Some-clause-err g c =
    let head = c.in_ok-head.ensures in
    let failed = err_from_is_err_and c.from_residual-in_err-unit-in-Some.result c.from_residual-in_err-unit-in-Some.ensures.1 in
    rw (failed.1, failed.2) (stops_in_unit _ _ _ _ c.in_ok-head.head.unit_len c.in_ok-head.head.cards.header c.in_ok-head.head.shape _ head.taken head.whole head.described head.len c.in_err-unit-in-Some.ensures.err)

pub returns-in_err-skip_unit-in-None-clause-err : goal.returns-in_err-skip_unit-in-None-clause-err
returns-in_err-skip_unit-in-None-clause-err g c =
    let head = c.in_ok-head.ensures in
    let failed = err_from_is_err_and c.from_residual-in_err-skip_unit-in-None.result c.from_residual-in_err-skip_unit-in-None.ensures.1 in
    rw (failed.1, failed.2) (stops_in_unit _ _ _ _ c.in_ok-head.head.unit_len c.in_ok-head.head.cards.header c.in_ok-head.head.shape _ head.taken head.whole head.described head.len c.in_err-skip_unit-in-None.ensures.err)
