use Rattle.std.proofs.Common.{length, ap, sym, ◌∙◌, arith}
use Rattle.fits_passing.specs.Hdu.{HduParts}
use Rattle.fits_hdu.specs.Keyword.{keyword_cards, own_count}
use Rattle.fits_hdu.specs.Work.{plane_work}
use Rattle.fits_card.specs.Header.{Header}
use Rattle.fits_hdu.proofs.StampingLemmas.{set_left, set_not_end, set_room, set_scans}
use Rattle.fits_hdu.proofs.hdu.Hdu.set_card.Goals as goal

pub apply-requires-clause-not_end : goal.apply-requires-clause-not_end
apply-requires-clause-not_end c = set_not_end c.args.name.now c.args.new c.replacement-change.result c.requires.keyword c.requires.one c.replacement-change.ensures.cards

pub apply-requires-clause-room : goal.apply-requires-clause-room
apply-requires-clause-room c =
    let read = c.keyword_cards-old.ensures.work in
    let old = c.keyword_cards-old.new.self in
    let same = ap (λ (header : Header). header.cards) read.header.header in
    set_room old.header.header.cards c.args.name.now c.args.new c.keyword_cards-old.result c.replacement-change.result c.card_count-count.result old.header.room
    (c.card_count-count.ensures.value ∙ sym (ap length same)) (c.keyword_cards-old.ensures.value ∙ sym (ap (λ cards. keyword_cards cards c.args.name.now) same)) c.replacement-change.ensures.value c.requires.one
    (omega (arith, c.requires.room, read.header.room, ap (λ cards. own_count cards c.args.name.now) same))

pub returns-clause-room : goal.returns-clause-room
returns-clause-room c =
    let read = c.keyword_cards-old.ensures.work in
    let old = c.keyword_cards-old.new.self in
    let new = c.apply.new.self in
    let same = ap (λ (header : Header). header.cards) read.header.header in
    let left = set_left old.header.header.cards c.args.name.now c.args.new c.keyword_cards-old.result c.replacement-change.result c.card_count-count.result old.header.room new.header.room new.header.header.cards
    (c.card_count-count.ensures.value ∙ sym (ap length same)) (c.keyword_cards-old.ensures.value ∙ sym (ap (λ cards. keyword_cards cards c.args.name.now) same)) c.replacement-change.ensures.value c.requires.one
    (ap (λ (hdu : HduParts). hdu.header.cards) c.apply.ensures.hdu) c.apply.ensures.room in
    omega (arith, left, read.header.room, ap (λ cards. own_count cards c.args.name.now) same)

pub returns-clause-pixel_work : goal.returns-clause-pixel_work
returns-clause-pixel_work c =
    let read = c.keyword_cards-old.ensures.work in
    let old = c.keyword_cards-old.new.self in
    let new = c.apply.new.self in
    let same = ap (λ (header : Header). header.cards) read.header.header in
    set_scans old.header.header.cards c.args.name.now c.args.new c.keyword_cards-old.result c.replacement-change.result c.card_count-count.result _ old.header.shape new.header.shape new.header.header.cards (plane_work old.plane) (plane_work new.plane)
    (c.card_count-count.ensures.value ∙ sym (ap length same)) (c.keyword_cards-old.ensures.value ∙ sym (ap (λ cards. keyword_cards cards c.args.name.now) same)) c.replacement-change.ensures.value
    c.requires.keyword c.requires.one c.apply.ensures.shape (ap (λ (hdu : HduParts). hdu.header.cards) c.apply.ensures.hdu) c.apply.ensures.scans
    ∙ ap plane_work read.plane
