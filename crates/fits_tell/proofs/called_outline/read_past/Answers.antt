use Rattle.std.proofs.Common.{refl, sym, arith}
use Rattle.fits_stream.proofs.SightLemmas.{takes_fewer}
use Rattle.fits_passing.specs.HduReading.{IsPassed}
use Rattle.fits_passing.proofs.ReadingLemmas.{described_so, hdu_comes, stops_in_unit}
use Rattle.fits_tell.proofs.called_outline.read_past.Goals as goal

pub returns-in-Ok-clause-ok : goal.returns-in-Ok-clause-ok
returns-in-Ok-clause-ok g c =
    let head = c.in_ok-head.ensures in
    let header = c.in_ok-head.head.cards.header in
    let shape = c.in_ok-head.head.shape in
    let unit = c.in-Ok.ensures.ok in
    hdu_comes (λ hdu. IsPassed hdu header shape c.in_ok-head.head.unit_len) _ _ _ _ c.in_ok-head.head.unit_len header shape unit.bytes head.taken head.whole head.described head.len unit.taken unit.size
    (record { same = refl; described = described_so _ header.cards shape head.described; unit = sym unit.size })

pub returns-in-Ok-clause-described : goal.returns-in-Ok-clause-described
returns-in-Ok-clause-described g c = described_so _ c.in_ok-head.head.cards.header.cards c.in_ok-head.head.shape c.in_ok-head.ensures.described

pub returns-in-Ok-clause-small : goal.returns-in-Ok-clause-small
returns-in-Ok-clause-small g c = omega (arith, takes_fewer _ _ _ c.in_ok-head.ensures.taken, c.requires)

-- the data unit didn't come
pub returns-in-Err-clause-err : goal.returns-in-Err-clause-err
returns-in-Err-clause-err g c =
    let head = c.in_ok-head.ensures in
    stops_in_unit _ _ _ _ c.in_ok-head.head.unit_len c.in_ok-head.head.cards.header c.in_ok-head.head.shape c.in-Err.fault head.taken head.whole head.described head.len c.in-Err.ensures.err
