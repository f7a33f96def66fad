use Rattle.std.proofs.Common.{ap, ◌∙◌, length, codes}
use Rattle.std.specs.Option.{option_map_or}
use Rattle.fits_hdu.specs.declared.keyword_cards.KeywordCards.{KeywordCards}
use Rattle.fits_hdu.specs.Keyword.{own_count}
use Rattle.fits_hdu.specs.State.{parts_of}
use Rattle.fits_card.specs.Header.{Header}
use Rattle.fits_hdu.proofs.StampingLemmas.{count_reads, stamp_counted}
use Rattle.fits_hdu.proofs.hdu.Hdu.count_stamped.Goals as goal

pub overflow_sub-result : goal.overflow_sub-result
overflow_sub-result c =
    let first = c.count_of-checksum.ensures ∙ ap (λ at. option_map_or (λ (cards : KeywordCards). cards.count) at 0) c.keyword_cards.ensures.value in
    let second = c.count_of-datasum.ensures ∙ (ap (λ at. option_map_or (λ (cards : KeywordCards). cards.count) at 0) c.keyword_cards-2.ensures.value ∙ ap (λ (header : Header). own_count header.cards (codes "DATASUM ")) c.keyword_cards.ensures.work.header.header) in
    let count = c.card_count.ensures.value ∙ ap (λ (header : Header). length header.cards) (c.keyword_cards-2.ensures.work.header.header ∙ c.keyword_cards.ensures.work.header.header) in
    (stamp_counted (parts_of c.args.self.now) c.count_of-checksum.result c.count_of-datasum.result c.card_count.result first second count).0

pub overflow_sub-result-2 : goal.overflow_sub-result-2
overflow_sub-result-2 c =
    let first = c.count_of-checksum.ensures ∙ ap (λ at. option_map_or (λ (cards : KeywordCards). cards.count) at 0) c.keyword_cards.ensures.value in
    let second = c.count_of-datasum.ensures ∙ (ap (λ at. option_map_or (λ (cards : KeywordCards). cards.count) at 0) c.keyword_cards-2.ensures.value ∙ ap (λ (header : Header). own_count header.cards (codes "DATASUM ")) c.keyword_cards.ensures.work.header.header) in
    let count = c.card_count.ensures.value ∙ ap (λ (header : Header). length header.cards) (c.keyword_cards-2.ensures.work.header.header ∙ c.keyword_cards.ensures.work.header.header) in
    (stamp_counted (parts_of c.args.self.now) c.count_of-checksum.result c.count_of-datasum.result c.card_count.result first second count).1

pub returns-clause-value : goal.returns-clause-value
returns-clause-value c =
    let first = c.count_of-checksum.ensures ∙ ap (λ at. option_map_or (λ (cards : KeywordCards). cards.count) at 0) c.keyword_cards.ensures.value in
    let second = c.count_of-datasum.ensures ∙ (ap (λ at. option_map_or (λ (cards : KeywordCards). cards.count) at 0) c.keyword_cards-2.ensures.value ∙ ap (λ (header : Header). own_count header.cards (codes "DATASUM ")) c.keyword_cards.ensures.work.header.header) in
    let count = c.card_count.ensures.value ∙ ap (λ (header : Header). length header.cards) (c.keyword_cards-2.ensures.work.header.header ∙ c.keyword_cards.ensures.work.header.header) in
    (stamp_counted (parts_of c.args.self.now) c.count_of-checksum.result c.count_of-datasum.result c.card_count.result first second count).2

pub returns-clause-work : goal.returns-clause-work
returns-clause-work c = count_reads c.args.self.now c.keyword_cards.new.self c.keyword_cards-2.new.self c.keyword_cards.ensures.work c.keyword_cards-2.ensures.work
