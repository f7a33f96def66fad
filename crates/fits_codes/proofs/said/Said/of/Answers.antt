use Rattle.std.proofs.Common.{false, is_some, List, ℕ, Option, sym, ◌∙◌, ap}
use Rattle.std.specs.Option.{option_map_or}
use Rattle.fits_value.proofs.CardStringLemmas.{silent_string}
use Rattle.fits_value.specs.Says.{ends_in_ampersand}
use Rattle.fits_codes.proofs.FixedLemmas.{fixed-no_field, fixed-unread, fixed-read}
use Rattle.fits_codes.proofs.SaidLemmas.{kind-no_field, kind-unread, kind-read}
use Rattle.fits_codes.proofs.said.Said.of.Goals as goal

pub returns-in_default-clause-kind : goal.returns-in_default-clause-kind
returns-in_default-clause-kind c = kind-unread c.args.card.now c.in_default.ensures.none

pub returns-in_default-clause-fixed : goal.returns-in_default-clause-fixed
returns-in_default-clause-fixed c = fixed-unread c.args.card.now c.in_default.ensures.none

pub returns-in_default-clause-is_string : goal.returns-in_default-clause-is_string
returns-in_default-clause-is_string c = sym (ap (λ (o : Option (List ℕ)). is_some o) (silent_string c.args.card.now c.in_default.ensures.none))

pub returns-in_default-clause-is_open : goal.returns-in_default-clause-is_open
returns-in_default-clause-is_open c = sym (ap (λ (o : Option (List ℕ)). option_map_or ends_in_ampersand o false) (silent_string c.args.card.now c.in_default.ensures.none))

pub is_open-is_open-requires-clause-within : goal.is_open-is_open-requires-clause-within
is_open-is_open-requires-clause-within c = c.in-Some.ensures.placed.value_within

pub returns-then-has_value-clause-kind : goal.returns-then-has_value-clause-kind
returns-then-has_value-clause-kind c = kind-read c.args.card.now c.in-Some.reading.kind _ _ (cc) c.in-Some.ensures.found

pub returns-then-has_value-clause-fixed : goal.returns-then-has_value-clause-fixed
returns-then-has_value-clause-fixed c = c.fixed_by.ensures ∙ sym (fixed-read c.args.card.now c.in-Some.reading (cc) c.in-Some.ensures.found c.in-Some.ensures.placed)

pub returns-else-has_value-clause-kind : goal.returns-else-has_value-clause-kind
returns-else-has_value-clause-kind c = kind-no_field c.args.card.now (cc)

pub returns-else-has_value-clause-fixed : goal.returns-else-has_value-clause-fixed
returns-else-has_value-clause-fixed c = fixed-no_field c.args.card.now (cc)
