use Rattle.std.proofs.Common.{rules, ◌≡◌, ◌∙◌, false, sym, ap, subst, drop, Option}
use Rattle.std.specs.Prelude.{IfOk}
use Rattle.fits_card.specs.Card.{is_text, IsText}
use Rattle.fits_value.proofs.CardLemmas.{field_is_text}
use Rattle.fits_value.proofs.ReadLemmas.{Said}
use Rattle.fits_value.proofs.SaysLemmas.{card_says-other, card_field}
use Rattle.fits_value.proofs.read.read_value.Goals as goal

pub returns-then-not-is_text-clause-value : goal.returns-then-not-is_text-clause-value
returns-then-not-is_text-clause-value c =
    let other : is_text c.args.card.now ≡ false = search rules in
    sym (card_says-other c.args.card.now other)

pub read_text-requires : goal.read_text-requires
read_text-requires c =
    let is_text : IsText c.args.card.now = search rules in
    rw (c.split_at.ensures.back, c.bytes.ensures.value) (field_is_text c.args.card.now is_text)

pub returns-clause-value : goal.returns-clause-value
returns-clause-value c =
    let is_text : IsText c.args.card.now = search rules in
    let same = card_field c.args.card.now _ is_text (c.split_at.ensures.back ∙ ap (λ x. drop 10 x) c.bytes.ensures.value) in
    subst (λ (x : Option Said). IfOk c.read_text.result (λ said. said ≡ x)) same c.read_text.ensures.value

pub returns-clause-firm : goal.returns-clause-firm
returns-clause-firm c =
    let is_text : IsText c.args.card.now = search rules in
    let same = card_field c.args.card.now _ is_text (c.split_at.ensures.back ∙ ap (λ x. drop 10 x) c.bytes.ensures.value) in
    λ e. c.read_text.ensures.firm (same ∙ e)
