use Rattle.std.proofs.Common.{rules, ap, ◌∙◌, ◌≡◌, false, drop}
use Rattle.fits_card.specs.Card.{IsText, is_text}
use Rattle.fits_value.proofs.CardLemmas.{card_found, card_placed, card_only, card_none}
use Rattle.fits_value.proofs.CardLemmas.{field_is_text}
use Rattle.fits_value.proofs.SaysLemmas.{card_says-other, card_silent, card_reads}
use Rattle.fits_value.proofs.scan.scan_card.Goals as goal

pub scan_field-requires : goal.scan_field-requires
scan_field-requires c =
    let is_text : IsText c.args.card.now = search rules in
    rw (c.split_at.ensures.back, c.bytes.ensures.value) (field_is_text c.args.card.now is_text)

pub returns-in_default-clause-only : goal.returns-in_default-clause-only
returns-in_default-clause-only c =
    card_none c.args.card.now _ (c.split_at.ensures.back ∙ ap (λ x. drop 10 x) c.bytes.ensures.value) c.in_default.ensures.only

pub returns-clause-found : goal.returns-clause-found
returns-clause-found c =
    let is_text : IsText c.args.card.now = search rules in
    card_found c.args.card.now _ c.in-Some.reading c.moved.result is_text (c.split_at.ensures.back ∙ ap (λ x. drop 10 x) c.bytes.ensures.value) c.moved.ensures c.in-Some.ensures.found

pub returns-clause-only : goal.returns-clause-only
returns-clause-only c =
    card_only c.args.card.now _ c.in-Some.reading c.moved.result (c.split_at.ensures.back ∙ ap (λ x. drop 10 x) c.bytes.ensures.value) c.moved.ensures c.in-Some.ensures.only

pub returns-clause-placed : goal.returns-clause-placed
returns-clause-placed c =
    card_placed c.args.card.now _ c.in-Some.reading c.moved.result c.bytes.ensures.len (c.split_at.ensures.back ∙ ap (λ x. drop 10 x) c.bytes.ensures.value) c.moved.ensures c.in-Some.ensures.placed

pub returns-then-not-is_text-clause-none : goal.returns-then-not-is_text-clause-none
returns-then-not-is_text-clause-none c =
    let other : is_text c.args.card.now ≡ false = search rules in
    card_says-other c.args.card.now other

pub returns-in_default-clause-none : goal.returns-in_default-clause-none
returns-in_default-clause-none c =
    card_silent c.args.card.now (card_none c.args.card.now _ (c.split_at.ensures.back ∙ ap (λ x. drop 10 x) c.bytes.ensures.value) c.in_default.ensures.only)

pub returns-clause-said : goal.returns-clause-said
returns-clause-said c =
    let is_text : IsText c.args.card.now = search rules in
    card_reads c.args.card.now _ _ _
    (card_found c.args.card.now _ c.in-Some.reading c.moved.result is_text (c.split_at.ensures.back ∙ ap (λ x. drop 10 x) c.bytes.ensures.value) c.moved.ensures c.in-Some.ensures.found)
