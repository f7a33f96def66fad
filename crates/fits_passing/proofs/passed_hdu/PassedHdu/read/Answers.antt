use Rattle.std.proofs.Common.{◌≡◌, ◌≤◌, ◌∙◌, length, ap, arith, subst, sym}
use Rattle.fits_stream.proofs.SightLemmas.{takes_fewer}
use Rattle.fits_rules.proofs.LawLemmas.{shape_primary}
use Rattle.fits_pixels.specs.Layout.{IsLayout}
use Rattle.fits_pixels.specs.declared.layout.Layout.{Layout}
use Rattle.fits_passing.specs.Layout.{layout_of}
use Rattle.fits_passing.proofs.LayoutLemmas.{data_within, layout_fits}
use Rattle.fits_passing.proofs.PassedLemmas.{hdu_met}
use Rattle.fits_passing.proofs.ReadingLemmas.{stops_in_unit}
use Rattle.fits_passing.proofs.passed_hdu.PassedHdu.read.Goals as goal

pub open-requires : goal.open-requires
open-requires g c =
    let head = c.in_ok-cards.ensures in
    record { described = rw (shape_primary _ _ c.in_ok-cards.field-0.shape head.described) head.described }

pub layout_of-layout-requires : goal.layout_of-layout-requires
layout_of-layout-requires g c =
    let head = c.in_ok-cards.ensures in
    record { small = rw c.in-Ok.ensures.shape (data_within c.in_ok-cards.field-0.shape c.in_ok-cards.field-0.unit_len head.len (omega (arith, head.room, takes_fewer _ _ _ head.taken, c.requires))) }

-- its layout is that of the cards, which fits as many bytes as they describe
pub meet_unit-requires : goal.meet_unit-requires
meet_unit-requires g c = λ unit size.
    let head = c.in_ok-cards.ensures in
    let shape = c.in_ok-cards.field-0.shape in
    let cards = c.in_ok-cards.field-0.cards.header.cards in
    let small : length unit ≤ 17179869184 = omega (arith, size, head.room, takes_fewer _ _ _ head.taken, c.requires) in
    let layout : c.layout_of-layout.result ≡ layout_of shape cards = rw (c.in-Ok.ensures.shape, c.in-Ok.ensures.header) at c.layout_of-layout.ensures.value in
    subst (λ l. IsLayout l unit) (sym layout) (layout_fits shape cards unit (rw (shape_primary _ _ shape head.described) head.described) (size ∙ head.len) small)

pub returns-in-Ok-meet_unit-clause-ok : goal.returns-in-Ok-meet_unit-clause-ok
returns-in-Ok-meet_unit-clause-ok g c =
    let head = c.in_ok-cards.ensures in
    let shape = c.in_ok-cards.field-0.shape in
    let before = c.in_ok-cards.field-0.cards.header in
    let read = c.layout_of-layout.ensures.work in
    let unit = c.in-Ok-meet_unit.ensures in
    let same = read.header ∙ c.in-Ok.ensures.header in
    let layout : c.layout_of-layout.result ≡ layout_of shape before.cards = rw (c.in-Ok.ensures.shape, c.in-Ok.ensures.header) at c.layout_of-layout.ensures.value in
    hdu_met _ _ _ _ c.in_ok-cards.field-0.unit_len before shape c.layout_of-layout.new.header c.in-Ok-meet_unit.unit head.taken head.whole head.described head.len same (read.shape ∙ c.in-Ok.ensures.shape) unit.ok unit.size
    (unit.layout ∙ layout) (λ passed. unit.blank passed ∙ ap (λ (l : Layout). l.blank) (sym unit.layout)) (omega (arith, read.most, c.in-Ok.ensures.work, head.work))

-- the data unit didn't come
pub returns-in-Err-clause-err : goal.returns-in-Err-clause-err
returns-in-Err-clause-err g c =
    let head = c.in_ok-cards.ensures in
    stops_in_unit _ _ _ _ c.in_ok-cards.field-0.unit_len c.in_ok-cards.field-0.cards.header c.in_ok-cards.field-0.shape c.in-Err.fault head.taken head.whole head.described head.len c.in-Err.ensures.err
