use Rattle.std.proofs.Common.{◌≡◌, ◌∙◌, List, ℕ, Some, arith, ◌-◌, length, take, drop, sym, ap, subst}
use Rattle.std.proofs.lemmas.List.{length-take, length-drop}
use Rattle.std.specs.Option.{option_map}
use Rattle.fits_value.proofs.CardStringLemmas.{reads_string, reads_other, silent_string, string_quotes}
use Rattle.fits_value.specs.Field.{ReadsAs, part}
use Rattle.fits_value.specs.Text.{normal_form}
use Rattle.fits_value.specs.Scan.{undoubled}
use Rattle.fits_value.specs.Says.{inner}
use Rattle.fits_value.specs.declared.reading.ValueKind.{ValueKind}
use Rattle.fits_value.proofs.strings.card_string.Goals as goal

pub returns-in_default : goal.returns-in_default
returns-in_default c = sym (silent_string c.args.card.now c.in_default.ensures.none)

pub returns-in_default-kind : goal.returns-in_default-kind
returns-in_default-kind c = sym (reads_other c.args.card.now c.in-Some.reading.kind _ _ c.in-Some.ensures.found c.in_default-kind.not-Str)

pub returns : goal.returns
returns c =
    let card = c.args.card.now in
    let spelling = part card c.in-Some.reading.value in
    let comment = option_map (part card) c.in-Some.reading.comment in
    let reads = subst (λ (k : ValueKind). ReadsAs card k spelling comment) c.in-Str.is c.in-Some.ensures.found in
    let spelled = c.part.ensures ∙ ap (λ (x : List ℕ). part x c.in-Some.reading.value) c.bytes.ensures.value in
    let size : length c.part.result.now - 1 - 1 ≡ length c.part.result.now - 2 = omega arith in
    ap Some
    (c.decoded.ensures
    ∙ ap (λ (n : ℕ). normal_form (undoubled (take n (drop 1 c.part.result.now)))) size
    ∙ ap (λ (x : List ℕ). normal_form (undoubled (inner x))) spelled) ∙ sym (reads_string card spelling comment reads)

-- a string has two quotes
pub returns-in_default-part : goal.returns-in_default-part
returns-in_default-part c =
    let card = c.args.card.now in
    let spelling = part card c.in-Some.reading.value in
    let reads = subst (λ (k : ValueKind). ReadsAs card k spelling (option_map (part card) c.in-Some.reading.comment)) c.in-Str.is c.in-Some.ensures.found in
    let spelled = c.part.ensures ∙ ap (λ (x : List ℕ). part x c.in-Some.reading.value) c.bytes.ensures.value in
    absurd (omega (arith, string_quotes card spelling _ reads, ap length spelled, c.in_default-part.len_below))

-- the value ends where it begins, or later
pub part-requires-clause-order : goal.part-requires-clause-order
part-requires-clause-order c = c.in-Some.ensures.placed.value_order

-- the value ends within the card
pub part-requires-clause-within : goal.part-requires-clause-within
part-requires-clause-within c = omega (arith, c.in-Some.ensures.placed.value_within, ap length c.bytes.ensures.value)

-- between the quotes stand at most 68 bytes
pub decoded-requires : goal.decoded-requires
decoded-requires c =
    let text = c.part.result.now in
    let span = c.in-Some.reading.value in
    let placed = c.in-Some.ensures.placed in
    omega (arith, length-take (length text - 1 - 1) (drop 1 text), length-drop 1 text, ap length c.part.ensures, length-take (span.end - span.start) (drop span.start c.bytes.result.now), placed.value_from, placed.value_within, ap length c.bytes.ensures.value, c.bytes.ensures.len)
