use Rattle.std.proofs.Common.{arith, ◌≡◌, ◌+◌, ◌-◌, ap, sym, ◌∙◌, List, ℕ, Option, drop}
use Rattle.std.specs.Option.{option_map}
use Rattle.fits_value.specs.Chaining.{next_link}
use Rattle.fits_value.proofs.ChainingLemmas.{Link, next_link-end, next_link-closed, next_link-open, link_string-said}
use Rattle.fits_value.proofs.long_string.next_text.Goals as goal
use Rattle.fits_value.proofs.long_string.next_text.Goals.{then-place-len-via-then-place-len, then-place-len-via-else-place-len+then-not-is_open}

pub returns-then-place-len-clause-value : goal.returns-then-place-len-clause-value
returns-then-place-len-clause-value c =
    let rest = drop c.args.place c.args.cards.now.header.cards in
    sym (ap (λ (o : Option Link). option_map (λ (x : Link). x.0) o) (elim c.then-place-len.branch [
      | then-place-len-via-then-place-len w ↦ next_link-end c.args.text.now c.args.place c.args.cards.now.header.cards (omega (arith, w.if-place-len.true, c.len.ensures.value))
      | then-place-len-via-else-place-len+then-not-is_open w ↦
          ap (λ (x : List ℕ). next_link x rest) (sym w.as_bytes.ensures.value) ∙ next_link-closed w.as_bytes.result.now rest w.is_open.result w.is_open.ensures w.if-not-is_open.true
    ]))

pub returns-clause-value : goal.returns-clause-value
returns-clause-value c =
    let rest = drop c.args.place c.args.cards.now.header.cards in
    let next : c.args.place + 1 - 1 ≡ c.args.place = omega arith in
    let at = ap (λ (n : ℕ). drop n c.args.cards.now.header.cards) (sym next) ∙ c.card_at-card.ensures.at in
    let goes_on = ap (λ (x : List ℕ). next_link x rest) (sym c.as_bytes.ensures.value) ∙ next_link-open c.as_bytes.result.now rest c.card_at-card.result _ c.is_open.result c.is_open.ensures c.if-not-is_open.false at in
    c.link_string.ensures ∙ (link_string-said c.card_at-card.result ∙ sym (ap (λ (o : Option Link). option_map (λ (x : Link). x.0) o) goes_on))
