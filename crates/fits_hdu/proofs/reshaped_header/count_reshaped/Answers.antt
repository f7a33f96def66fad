use Rattle.std.proofs.Common.{◌∙◌, ap, arith, codes, sym}
use Rattle.std.specs.Option.{option_map_or}
use Rattle.fits_card.specs.Header.{Header}
use Rattle.fits_rules.specs.Class.{is_primary}
use Rattle.fits_image.specs.ImageCards.{shape_cards}
use Rattle.fits_hdu.specs.Keyword.{own_count}
use Rattle.fits_hdu.specs.declared.keyword_cards.KeywordCards.{KeywordCards}
use Rattle.fits_hdu.proofs.PlanLemmas.{splice_in_range}
use Rattle.fits_hdu.proofs.ReshapeLemmas.{can_parts}
use Rattle.fits_hdu.proofs.ReshapedCountLemmas.{count_same, scaled_counted, scaling_told, written_counted, written_few}
use Rattle.fits_hdu.proofs.reshaped_header.count_reshaped.Goals as goal

-- the cards that go are there
pub count_after-written-requires : goal.count_after-written-requires
count_after-written-requires c =
    let h = c.args.header.now in
    let p = c.args.plan.now in
    splice_in_range (is_primary h.shape.class) h.header.cards (shape_cards p.kind p.shape.axes) h.shape p.change c.shape-described.ensures.described c.requires.planned.change

-- no other card comes or goes
pub returns-then-is_none-clause-value : goal.returns-then-is_none-clause-value
returns-then-is_none-clause-value c =
    let h = c.args.header.now in
    let p = c.args.plan.now in
    let can = can_parts p.old p.kind p.shape.axes h.shape h.header.cards c.requires.can in
    written_counted (is_primary h.shape.class) p.kind p.shape.axes h.shape h.header.cards p.change c.count_after-written.result c.shape-described.ensures.described can.axes_may c.requires.planned.change c.count_after-written.ensures
    ∙ sym (count_same (is_primary h.shape.class) p.kind p.shape.axes h.shape h.header.cards c.shape-described.ensures.described can.axes_may p.old (scaling_told p.old p.kind p.scaling c.is_none.result c.requires.planned.scaling c.is_none.ensures ∙ c.if-is_none.true))

-- there are few
pub overflow_add-result : goal.overflow_add-result
overflow_add-result c =
    let h = c.args.header.now in
    let p = c.args.plan.now in
    let can = can_parts p.old p.kind p.shape.axes h.shape h.header.cards c.requires.can in
    omega (arith, written_few (is_primary h.shape.class) p.kind p.shape.axes h.shape h.header.cards p.change c.count_after-written.result c.shape-described.ensures.described can.axes_may c.requires.planned.change c.count_after-written.ensures (omega (arith, c.len-few.ensures.value, c.len-few.ensures.few)))

-- what goes was there
pub overflow_sub-result : goal.overflow_sub-result
overflow_sub-result c =
    let h = c.args.header.now in
    let p = c.args.plan.now in
    let can = can_parts p.old p.kind p.shape.axes h.shape h.header.cards c.requires.can in
    let first = c.count_of-scale.ensures ∙ ap (λ at. option_map_or (λ (cards : KeywordCards). cards.count) at 0) c.keyword_cards.ensures.value in
    let second = c.count_of-zero.ensures ∙ (ap (λ at. option_map_or (λ (cards : KeywordCards). cards.count) at 0) c.keyword_cards-2.ensures.value ∙ ap (λ (header : Header). own_count header.cards (codes "BZERO   ")) c.keyword_cards.ensures.work.header) in
    (scaled_counted (is_primary h.shape.class) p.kind p.shape.axes h.shape h.header.cards p.change c.count_after-written.result c.shape-described.ensures.described can.axes_may c.requires.planned.change c.count_after-written.ensures p.old c.count_of-scale.result c.count_of-zero.result (scaling_told p.old p.kind p.scaling c.is_none.result c.requires.planned.scaling c.is_none.ensures ∙ c.if-is_none.false) first second).0

pub overflow_sub-result-2 : goal.overflow_sub-result-2
overflow_sub-result-2 c =
    let h = c.args.header.now in
    let p = c.args.plan.now in
    let can = can_parts p.old p.kind p.shape.axes h.shape h.header.cards c.requires.can in
    let first = c.count_of-scale.ensures ∙ ap (λ at. option_map_or (λ (cards : KeywordCards). cards.count) at 0) c.keyword_cards.ensures.value in
    let second = c.count_of-zero.ensures ∙ (ap (λ at. option_map_or (λ (cards : KeywordCards). cards.count) at 0) c.keyword_cards-2.ensures.value ∙ ap (λ (header : Header). own_count header.cards (codes "BZERO   ")) c.keyword_cards.ensures.work.header) in
    (scaled_counted (is_primary h.shape.class) p.kind p.shape.axes h.shape h.header.cards p.change c.count_after-written.result c.shape-described.ensures.described can.axes_may c.requires.planned.change c.count_after-written.ensures p.old c.count_of-scale.result c.count_of-zero.result (scaling_told p.old p.kind p.scaling c.is_none.result c.requires.planned.scaling c.is_none.ensures ∙ c.if-is_none.false) first second).1

pub returns-clause-value : goal.returns-clause-value
returns-clause-value c =
    let h = c.args.header.now in
    let p = c.args.plan.now in
    let can = can_parts p.old p.kind p.shape.axes h.shape h.header.cards c.requires.can in
    let first = c.count_of-scale.ensures ∙ ap (λ at. option_map_or (λ (cards : KeywordCards). cards.count) at 0) c.keyword_cards.ensures.value in
    let second = c.count_of-zero.ensures ∙ (ap (λ at. option_map_or (λ (cards : KeywordCards). cards.count) at 0) c.keyword_cards-2.ensures.value ∙ ap (λ (header : Header). own_count header.cards (codes "BZERO   ")) c.keyword_cards.ensures.work.header) in
    (scaled_counted (is_primary h.shape.class) p.kind p.shape.axes h.shape h.header.cards p.change c.count_after-written.result c.shape-described.ensures.described can.axes_may c.requires.planned.change c.count_after-written.ensures p.old c.count_of-scale.result c.count_of-zero.result (scaling_told p.old p.kind p.scaling c.is_none.result c.requires.planned.scaling c.is_none.ensures ∙ c.if-is_none.false) first second).2
