use Rattle.std.proofs.Common.{◌≤◌, ◌^◌, ◌∙◌, length, refl, arith, sym, subst}
use Rattle.std.proofs.lemmas.Result.{err_from_is_err_and}
use Rattle.fits_stream.proofs.SightLemmas.{takes_fewer}
use Rattle.fits_pixels.specs.Layout.{IsLayout}
use Rattle.fits_passing.specs.Passing.{IsSummed}
use Rattle.fits_passing.proofs.LayoutLemmas.{bytes_fit, data_within}
use Rattle.fits_passing.proofs.ReadingLemmas.{described_so, hdu_comes, stops_in_unit}
use Rattle.fits_passing.proofs.summed.read_summed.Goals as goal

pub layout_of_bytes-layout-requires : goal.layout_of_bytes-layout-requires
layout_of_bytes-layout-requires g c =
    let head = c.in_ok-head.ensures in
    data_within c.in_ok-head.head.shape c.in_ok-head.head.unit_len head.len (omega (arith, head.room, takes_fewer _ _ _ head.taken, c.requires))

pub pass_unit-requires : goal.pass_unit-requires
pass_unit-requires g c = λ unit size.
    let head = c.in_ok-head.ensures in
    let small : length unit ≤ 2 ^ 34 = omega (arith, size, head.room, takes_fewer _ _ _ head.taken, c.requires) in
    subst (λ l. IsLayout l unit) (sym c.layout_of_bytes-layout.ensures) (bytes_fit c.in_ok-head.head.shape unit (size ∙ head.len) small)

pub returns-in-Ok-clause-ok : goal.returns-in-Ok-clause-ok
returns-in-Ok-clause-ok g c =
    let head = c.in_ok-head.ensures in
    let header = c.in_ok-head.head.cards.header in
    let shape = c.in_ok-head.head.shape in
    let unit = c.in-Ok.unit in
    hdu_comes (IsSummed header shape unit) _ _ _ _ c.in_ok-head.head.unit_len header shape unit.bytes head.taken head.whole head.described head.len c.in-Ok.ensures.ok c.in-Ok.ensures.size
    (record { parts = refl; described = described_so _ header.cards shape head.described; layout = c.in-Ok.ensures.layout ∙ c.layout_of_bytes-layout.ensures })

pub returns-in-Ok-clause-small : goal.returns-in-Ok-clause-small
returns-in-Ok-clause-small g c = omega (arith, takes_fewer _ _ _ c.in_ok-head.ensures.taken, c.requires)

pub returns-in_err-head-clause-err : goal.returns-in_err-head-clause-err
returns-in_err-head-clause-err g c =
    let failed = err_from_is_err_and c.from_residual.result c.from_residual.ensures.1 in
    rw (failed.1, failed.2) c.in_err-head.ensures.err

-- the data unit didn't come
pub returns-in-Err-clause-err : goal.returns-in-Err-clause-err
returns-in-Err-clause-err g c =
    let head = c.in_ok-head.ensures in
    stops_in_unit _ _ _ _ c.in_ok-head.head.unit_len c.in_ok-head.head.cards.header c.in_ok-head.head.shape c.in-Err.fault head.taken head.whole head.described head.len c.in-Err.ensures.err
