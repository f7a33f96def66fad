use Rattle.std.proofs.Common.{rules, ◌≡◌, ℕ, List, sym, ap, ◌∙◌}
use Rattle.fits_value.specs.Field.{part}
use Rattle.fits_rules.proofs.ReadLemmas.{no_field, no_reading, value_of_kind, other_kind, spells_value}
use Rattle.fits_rules.proofs.reads.spelling.Goals as goal

pub returns-then-not-has_value-clause-none : goal.returns-then-not-has_value-clause-none
returns-then-not-has_value-clause-none c = no_field c.args.card.now c.args.kind (cc)

pub returns-in_default-clause-none : goal.returns-in_default-clause-none
returns-in_default-clause-none c = no_reading c.args.card.now c.args.kind (cc) c.in_default.ensures.none

pub returns-then-ne-clause-none : goal.returns-then-ne-clause-none
returns-then-ne-clause-none c =
    let other : c.in-Some.reading.kind ≡ c.args.kind → ⊥ = search rules in
    other_kind c.args.card.now c.in-Some.reading c.args.kind (sym c.has_value.ensures ∙ c.if-not-has_value.false) c.in-Some.ensures.said other

pub returns-clause-found : goal.returns-clause-found
returns-clause-found c =
    let same : c.in-Some.reading.kind ≡ c.args.kind = search rules in
    let spelled = c.part.ensures ∙ ap (λ (x : List ℕ). part x c.in-Some.reading.value) c.bytes.ensures.value in
    value_of_kind c.args.card.now c.part.result.now c.in-Some.reading c.args.kind (sym c.has_value.ensures ∙ c.if-not-has_value.false) c.in-Some.ensures.said same spelled

pub returns-clause-spelled : goal.returns-clause-spelled
returns-clause-spelled c =
    let same : c.in-Some.reading.kind ≡ c.args.kind = search rules in
    let spelled = c.part.ensures ∙ ap (λ (x : List ℕ). part x c.in-Some.reading.value) c.bytes.ensures.value in
    spells_value c.args.card.now c.part.result.now c.in-Some.reading c.args.kind c.in-Some.ensures.found same spelled
