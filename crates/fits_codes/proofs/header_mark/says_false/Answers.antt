use Rattle.std.proofs.Common.{rules, ◌≡◌, ◌∙◌, ap, not, List, ℕ, subst}
use Rattle.std.specs.Option.{option_map}
use Rattle.fits_value.specs.Field.{ReadsAs, part}
use Rattle.fits_value.specs.Says.{is_true}
use Rattle.fits_value.specs.declared.reading.ValueKind.{ValueKind}
use Rattle.fits_codes.proofs.SaidLemmas.{said-no_field, said-unread, false-silent, false-other, false-read}
use Rattle.fits_codes.proofs.header_mark.says_false.Goals as goal

pub returns-then-not-has_value : goal.returns-then-not-has_value
returns-then-not-has_value c = false-silent c.args.card.now (said-no_field c.args.card.now (cc))

pub returns-in_default : goal.returns-in_default
returns-in_default c = false-silent c.args.card.now (said-unread c.args.card.now c.in_default.ensures.none)

pub returns-in_default-kind : goal.returns-in_default-kind
returns-in_default-kind c = false-other c.args.card.now c.in-Some.reading.kind _ _ (cc) c.in-Some.ensures.found c.in_default-kind.not-Logical

pub returns : goal.returns
returns c =
    let card = c.args.card.now in
    let spelling = part card c.in-Some.reading.value in
    let comment = option_map (part card) c.in-Some.reading.comment in
    let reads = subst (λ (k : ValueKind). ReadsAs card k spelling comment) c.in-Logical.is c.in-Some.ensures.found in
    let spelled = c.part.ensures ∙ ap (λ (x : List ℕ). part x c.in-Some.reading.value) c.bytes.ensures.value in
    let flag : c.ne.result ≡ not (is_true c.part.result.now) = search rules in
    flag ∙ (ap (λ (x : List ℕ). not (is_true x)) spelled ∙ false-read card spelling comment (cc) reads)
