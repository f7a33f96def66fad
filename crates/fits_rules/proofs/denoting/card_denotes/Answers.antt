use Rattle.std.proofs.Common.{List, ℕ, ap, sym, ◌∙◌, false}
use Rattle.std.specs.Prelude.{◌↔◌, IsTrue}
use Rattle.std.specs.Int.{w128}
use Rattle.std.proofs.lemmas.Int.{to_z-of_z}
use Rattle.fits_value.specs.Field.{part}
use Rattle.fits_rules.specs.Denotes.{CardDenotes}
use Rattle.fits_rules.proofs.DenotesLemmas.{text_test, text_denotes, card_number_said}
use Rattle.fits_rules.proofs.denoting.card_denotes.Goals as goal

pub returns-then-is_numeric : goal.returns-then-is_numeric
returns-then-is_numeric c =
    let exact : IsTrue c.denotes.result ↔ CardDenotes c.args.card.now c.args.number =
    text_test _ _ c.in-Some.reading _ _ _ c.in-Some.ensures.found c.in-Some.ensures.only (sym c.is_numeric.ensures ∙ c.if-is_numeric.true)
    (c.part.ensures ∙ ap (λ (t : List ℕ). part t c.in-Some.reading.value) c.bytes.ensures.value) (to_z-of_z w128 c.args.number c.ranges.number) c.denotes.ensures.exact in
    record { value = card_number_said c.args.card.now c.args.number c.denotes.result exact; exact = exact }

pub returns-else-is_numeric : goal.returns-else-is_numeric
returns-else-is_numeric c =
    let exact : IsTrue c.is_numeric.result ↔ CardDenotes c.args.card.now c.args.number = (λ yes. cc, λ p. c.is_numeric.ensures ∙ (text_denotes _ c.in-Some.reading _ c.in-Some.ensures.only p).0) in
    record { value = card_number_said c.args.card.now c.args.number c.is_numeric.result exact; exact = exact }

pub returns-in-None : goal.returns-in-None
returns-in-None c =
    let exact : IsTrue false ↔ CardDenotes c.args.card.now c.args.number = (λ yes. cc, λ p. absurd (c.in-None.ensures.only p.kind p.text p.comment p.reads)) in
    record { value = card_number_said c.args.card.now c.args.number false exact; exact = exact }
