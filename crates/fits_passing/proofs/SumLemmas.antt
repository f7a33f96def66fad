-- What DATASUM and CHECKSUM say, and the sum of parts.
use Rattle.std.proofs.Common.{◌≡◌, ℕ, ◌+◌, ◌-◌, ◌*◌, ◌%◌, ◌<◌, nat_lt, true, false, List, length, take, get_or, Option, None, Some, refl, ap, sym, ◌∙◌, arith}
use Rattle.std.specs.Option.{option_map}
use Rattle.std.proofs.lemmas.Bool.{cond-true, cond-false}
use Rattle.std.proofs.lemmas.Bool.Decides.{nat_tests}
use Rattle.fits_card.specs.Card.{has_value}
use Rattle.fits_card.specs.Header.{IsHeader, header_bytes}
use Rattle.fits_card.proofs.HeaderLemmas.{fill_length-by_cards, length-header_bytes}
use Rattle.fits_value.specs.Field.{part}
use Rattle.fits_value.specs.Number.{value_of}
use Rattle.fits_value.specs.Says.{card_says, card_string, read_said, said_string}
use Rattle.fits_value.specs.declared.reading.ValueKind.TheVariants as kind
use Rattle.fits_value.specs.declared.reading.Reading.{Reading}
use Rattle.fits_value.specs.declared.value.Value.{Value}
use Rattle.fits_value.specs.declared.value.Value.TheVariants.{Undefined, Logical, Integer, Real, Complex, Str}
use Rattle.fits_value.proofs.DigitLemmas.{over}
use Rattle.fits_rules.specs.Reads.{value_said}
use Rattle.fits_rules.proofs.ReadLemmas.{other_kind, value_of_kind}
use Rattle.fits_sum.specs.OnesComplement.{ones_complement}
use Rattle.fits_sum.specs.Words.{word_total}
use Rattle.fits_sum.proofs.SumLemmas.{ones_complement-add}
use Rattle.fits_sum.proofs.WordLemmas.{word_total-append}
use Rattle.fits_codes.proofs.SaidLemmas.{said-no_field, said-unread}
use Rattle.fits_passing.specs.Hdu.{HduParts, hdu_bytes}
use Rattle.fits_passing.specs.Sums.{data_sum, hdu_sum, sum_keywords, sum_of_number, sum_of_text, sum_of_value, verdicts_by, verdicts_of}
use Rattle.fits_passing.specs.declared.keywords.SumKeywords.{SumKeywords}
use Rattle.fits_passing.specs.declared.sum_said.SumSaid.{SumSaid}
use Rattle.fits_passing.specs.declared.sum_said.SumSaid.TheVariants.{Nothing, Number, Other}
use Rattle.fits_passing.specs.declared.verdicts.Verdicts.{Verdicts}

-- a card without a value field says no sum
pub sum-no_field : (card : List ℕ) → has_value card ≡ false → Other ≡ sum_of_value (value_said card)
sum-no_field card fails = sym (ap sum_of_value (said-no_field card fails))

-- nor does one that can't be read
pub sum-unread : (card : List ℕ) → card_says card ≡ None → Other ≡ sum_of_value (value_said card)
sum-unread card silent = sym (ap sum_of_value (said-unread card silent))

-- what is said of a sum
abbrev sum_said : Option (Value × Option (List ℕ)) → SumSaid
sum_said said = sum_of_value (option_map (λ said. said.0) said)

-- a card with a value field says what the field does
sum-field : (card : List ℕ) → has_value card ≡ true → sum_of_value (value_said card) ≡ sum_said (card_says card)
unfolding value_said
sum-field card holds = ap sum_of_value (cond-true (has_value card) _ _ holds)

-- one that has a string says what its text does
sum-said_string : (said : Option (Value × Option (List ℕ))) (text : List ℕ) → option_map (λ said. said.0) (said_string said) ≡ Some text → sum_of_text text ≡ sum_said said
sum-said_string None text e = cc
sum-said_string (Some (Undefined, comment)) text e = cc
sum-said_string (Some (Logical flag, comment)) text e = cc
sum-said_string (Some (Integer spelling, comment)) text e = cc
sum-said_string (Some (Real spelling, comment)) text e = cc
sum-said_string (Some (Complex real imaginary, comment)) text e = cc
sum-said_string (Some (Str characters, comment)) text e = let same : characters ≡ text = cc in ap sum_of_text (sym same)

-- so does a card
pub sum-string : (card text : List ℕ) → has_value card ≡ true → card_string card ≡ Some text → sum_of_text text ≡ sum_of_value (value_said card)
unfolding card_string
sum-string card text holds is = sum-said_string (card_says card) text is ∙ sym (sum-field card holds)

-- a reading of no value at all says nothing
pub sum-undefined : (card : List ℕ) (reading : Reading) → has_value card ≡ true → card_says card ≡ read_said card (Some reading) → reading.kind ≡ kind.Undefined → Nothing ≡ sum_of_value (value_said card)
sum-undefined card reading holds said same = sym (ap sum_of_value (value_of_kind card (part card reading.value) reading kind.Undefined holds said same refl))

-- a value that is there and no string says no sum
plain_value : (value : Option Value) → (value ≡ Some Undefined → ⊥) → ((text : List ℕ) → value ≡ Some (Str text) → ⊥) → Other ≡ sum_of_value value
plain_value None there plain = refl
plain_value (Some Undefined) there plain = absurd (there refl)
plain_value (Some (Logical flag)) there plain = refl
plain_value (Some (Integer text)) there plain = refl
plain_value (Some (Real text)) there plain = refl
plain_value (Some (Complex real imaginary)) there plain = refl
plain_value (Some (Str text)) there plain = absurd (plain text refl)

-- what has no string isn't one
no_string : (said : Option (Value × Option (List ℕ))) (text : List ℕ) → option_map (λ said. said.0) (said_string said) ≡ None → option_map (λ said. said.0) said ≡ Some (Str text) → ⊥
no_string None text none is = cc
no_string (Some (Undefined, comment)) text none is = cc
no_string (Some (Logical flag, comment)) text none is = cc
no_string (Some (Integer spelling, comment)) text none is = cc
no_string (Some (Real spelling, comment)) text none is = cc
no_string (Some (Complex real imaginary, comment)) text none is = cc
no_string (Some (Str characters, comment)) text none is = cc

-- nor is what a card says
no_card_string : (card text : List ℕ) → has_value card ≡ true → card_string card ≡ None → value_said card ≡ Some (Str text) → ⊥
unfolding card_string value_said
no_card_string card text holds none is = no_string (card_says card) text none (sym (cond-true (has_value card) _ _ holds) ∙ is)

-- so a reading without a string, of a value that is there, says no sum
pub sum-other : (card : List ℕ) (reading : Reading) → has_value card ≡ true → card_string card ≡ None → card_says card ≡ read_said card (Some reading) → (reading.kind ≡ kind.Undefined → ⊥) → Other ≡ sum_of_value (value_said card)
sum-other card reading holds none said other =
    plain_value (value_said card) (λ is. other_kind card reading kind.Undefined holds said other Undefined is refl) (λ text is. no_card_string card text holds none is)

-- a part's sum may stand for its total
pub sum-parts : (header unit : ℕ) → ones_complement (ones_complement header + ones_complement unit) ≡ ones_complement (header + unit)
sum-parts header unit = sym (ones_complement-add header unit)

pub ruleset card_steps = (sum-no_field, sum-unread, sum-string, sum-undefined, sum-other)

-- digits that stand for a number of more than 32 bits
pub too_large : (digits : List ℕ) (i number : ℕ) → i < length digits → number ≡ value_of (take i digits) → 4294967295 < number * 10 + (get_or digits i 0 - 48) → Other ≡ sum_of_number (value_of digits)
too_large digits i number within is large =
    let more = over 0 digits i number 4294967295 within is large in
    let fails : nat_lt (value_of digits) 4294967296 ≡ false = grind (arith, nat_tests) in
    sym (cond-false (nat_lt (value_of digits) 4294967296) (Number (value_of digits)) Other fails)

pub ruleset digit_steps = (too_large)

pub ruleset total_steps = (sum-parts)

-- the total of an HDU is that of its header and that of its data unit
pub total-hdu : (hdu : HduParts) → IsHeader hdu.header → word_total (hdu_bytes hdu) ≡ word_total (header_bytes hdu.header) + word_total hdu.data_unit
total-hdu hdu whole =
    let n = length hdu.header.cards in
    word_total-append (20 * (n + 1) + 20 * (35 - n % 36)) (header_bytes hdu.header) hdu.data_unit (omega (arith, length-header_bytes hdu.header whole, whole.fill_size, fill_length-by_cards n))

-- both verdicts of an HDU, by the totals of its parts
pub verdicts_known : (verdicts : Verdicts) (said : SumKeywords) (unit whole header_total unit_total : ℕ) (hdu : HduParts) → verdicts ≡ verdicts_by said unit whole → said ≡ sum_keywords hdu.header.cards → unit ≡ ones_complement unit_total → unit_total ≡ word_total hdu.data_unit
    → whole ≡ ones_complement (header_total + unit_total) → header_total ≡ word_total (header_bytes hdu.header) → IsHeader hdu.header → verdicts ≡ verdicts_of hdu
unfolding verdicts_of data_sum hdu_sum
verdicts_known verdicts said unit whole header_total unit_total hdu are p q r s t is =
    let of_whole : whole ≡ ones_complement (word_total (hdu_bytes hdu)) = s ∙ ap ones_complement (omega (arith, r, t, total-hdu hdu is)) in
    let of_unit : unit ≡ ones_complement (word_total hdu.data_unit) = q ∙ ap ones_complement r in
    are ∙ (rw (p, of_unit, of_whole) refl)
