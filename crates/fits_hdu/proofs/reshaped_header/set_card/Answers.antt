use Rattle.std.proofs.Common.{◌∙◌, ap, arith, length, sym}
use Rattle.fits_card.specs.Header.{Header}
use Rattle.fits_hdu.specs.Keyword.{keyword_cards}
use Rattle.fits_hdu.proofs.ScalingLemmas.{scale_kept, scale_not_end}
use Rattle.fits_hdu.proofs.StampingLemmas.{set_left, set_room}
use Rattle.fits_hdu.proofs.reshaped_header.set_card.Goals as goal

pub apply-requires-clause-not_end : goal.apply-requires-clause-not_end
apply-requires-clause-not_end c = scale_not_end c.args.name.now c.args.new c.replacement-change.result c.requires.keyword c.requires.one c.replacement-change.ensures.cards

pub apply-requires-clause-room : goal.apply-requires-clause-room
apply-requires-clause-room c =
    let read = c.keyword_cards-old.ensures.work in
    let old = c.keyword_cards-old.new.header in
    let same = ap (λ (header : Header). header.cards) read.header in
    set_room old.header.cards c.args.name.now c.args.new c.keyword_cards-old.result c.replacement-change.result c.len-count.result old.room
    (c.len-count.ensures.value ∙ sym (ap length same)) (c.keyword_cards-old.ensures.value ∙ sym (ap (λ cards. keyword_cards cards c.args.name.now) same)) c.replacement-change.ensures.value c.requires.one
    (omega (arith, c.requires.room, read.room))

-- the shape stays
pub apply-requires-clause-kept : goal.apply-requires-clause-kept
apply-requires-clause-kept c =
    let read = c.keyword_cards-old.ensures.work in
    let h = c.args.header.now in
    let old = c.keyword_cards-old.new.header in
    let same = ap (λ (header : Header). header.cards) read.header in
    scale_kept old.shape old.header.cards c.args.name.now c.args.new c.keyword_cards-old.result c.replacement-change.result c.len-count.result
    (rw (read.shape, read.header) c.shape-described.ensures.described)
    (c.len-count.ensures.value ∙ sym (ap length same)) (c.keyword_cards-old.ensures.value ∙ sym (ap (λ cards. keyword_cards cards c.args.name.now) same)) c.replacement-change.ensures.value c.requires.keyword c.requires.one

-- a card comes, and those of the keyword go
pub returns-clause-room : goal.returns-clause-room
returns-clause-room c =
    let read = c.keyword_cards-old.ensures.work in
    let old = c.keyword_cards-old.new.header in
    let new = c.apply.new.self in
    let same = ap (λ (header : Header). header.cards) read.header in
    let left = set_left old.header.cards c.args.name.now c.args.new c.keyword_cards-old.result c.replacement-change.result c.len-count.result old.room new.room new.header.cards
    (c.len-count.ensures.value ∙ sym (ap length same)) (c.keyword_cards-old.ensures.value ∙ sym (ap (λ cards. keyword_cards cards c.args.name.now) same)) c.replacement-change.ensures.value c.requires.one
    (ap (λ (header : Header). header.cards) c.apply.ensures.header) c.apply.ensures.room in
    omega (arith, left, read.room)
