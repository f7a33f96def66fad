-- Cards that denote a number exactly.
use Rattle.std.proofs.Common.{◌≡◌, ℕ, Bool, true, false, ℤ, List, refl, ap, ◌∙◌, Option, None, Some, unwrap_or}
use Rattle.std.specs.Prelude.{IsTrue, ◌↔◌}
use Rattle.std.specs.Cmp.{both_ways}
use Rattle.std.specs.Option.{option_map}
use Rattle.std.proofs.lemmas.Bool.{false≢true}
use Rattle.fits_value.proofs.NumberSaysLemmas.{number_says}
use Rattle.fits_value.proofs.SaysLemmas.{card_said, card_told}
use Rattle.fits_value.specs.Field.{ReadsAs, part}
use Rattle.fits_value.specs.Number.{Denotes}
use Rattle.fits_value.specs.Says.{card_says}
use Rattle.fits_value.specs.Value.{kind_of, IsValueOf}
use Rattle.fits_value.specs.declared.reading.ValueKind.{ValueKind}
use Rattle.fits_value.specs.declared.reading.ValueKind.TheVariants as kind
use Rattle.fits_value.specs.declared.reading.Reading.{Reading}
use Rattle.fits_value.specs.declared.value.Value.{Value}
use Rattle.fits_value.specs.declared.value.Value.TheVariants.{Integer, Real}
use Rattle.fits_rules.specs.Lead.{lead_card}
use Rattle.fits_rules.specs.Denotes.{is_numeric, CardDenotes, LeadDenotes, value_says_number, card_says_number, lead_says_number}

-- this is what the card reads as
abbrev IsReading : List ℕ → Reading → Type 0
IsReading card r = ReadsAs card r.kind (part card r.value) (option_map (part card) r.comment)

-- and it reads as nothing else
abbrev IsOnlyReading : List ℕ → Reading → Type 0
IsOnlyReading card r =
    (kind : ValueKind) (text : List ℕ) (comment : Option (List ℕ)) → ReadsAs card kind text comment → (r.kind ≡ kind) × (part card r.value ≡ text) × (option_map (part card) r.comment ≡ comment)

-- a card denotes the number of its text
pub card_denotes : (card : List ℕ) (r : Reading) (number : ℤ) → IsReading card r → is_numeric r.kind ≡ true → Denotes (part card r.value) number → CardDenotes card number
card_denotes card r number reads numeric denotes = record {
  kind = r.kind;
  text = part card r.value;
  comment = option_map (part card) r.comment;
  reads = reads;
  numeric = numeric;
  denotes = denotes;
}

-- and no other
pub text_denotes : (card : List ℕ) (r : Reading) (number : ℤ) → IsOnlyReading card r → CardDenotes card number → (is_numeric r.kind ≡ true) × Denotes (part card r.value) number
text_denotes card r number only p =
    let same = only p.kind p.text p.comment p.reads in
    (ap is_numeric same.0 ∙ p.numeric, rw same.1 p.denotes)

-- a test of the text is one of the card
pub text_test : (card text : List ℕ) (r : Reading) (number z : ℤ) (b : Bool) → IsReading card r → IsOnlyReading card r → is_numeric r.kind ≡ true → text ≡ part card r.value → z ≡ number → (IsTrue b ↔ Denotes text z) → IsTrue b ↔ CardDenotes card number
text_test card text r number z b reads only numeric t e p =
    let q = rw (t, e) at p in
    (λ yes. card_denotes card r number reads numeric (q.0 yes), λ d. q.1 (text_denotes card r number only d).1)

-- a test of what an option holds, where it is true
holds : {X : Type 0} (test : X → Bool) (o : Option X) → unwrap_or (option_map test o) false ≡ true → (x : X) × (o ≡ Some x) × (test x ≡ true)
holds test None e = absurd (false≢true e)
holds test (Some x) e = (x, refl, e)

-- a value that says a number is numeric, and its spelling denotes it
value_denotes : (number : ℤ) (value : Value) → value_says_number number value ≡ true → IsTrue (is_numeric (kind_of value)) × ((spelling : List ℕ) → IsValueOf value spelling → Denotes spelling number)
value_denotes number (Integer text) e = (refl, λ spelling is. rw is ((number_says text number).0 e))
value_denotes number (Real text) e = (refl, λ spelling is. rw is ((number_says text number).0 e))
value_denotes number value e = absurd (false≢true e)

-- the value of a reading that denotes a number says it
reading_says : (kind : ValueKind) (card text : List ℕ) (comment : Option (List ℕ)) (number : ℤ) → ReadsAs card kind text comment → is_numeric kind ≡ true → Denotes text number → card_says_number card number ≡ true
unfolding card_says_number
reading_says kind.Integer card text comment number reads numeric denotes =
    let said = card_said card (Integer text) comment (record { is_text = reads.is_text; says = record { spelling = text; reads = reads.reads; is_value = refl } }) in
    ap (λ o. unwrap_or (option_map (λ said. value_says_number number said.0) o) false) said ∙ (number_says text number).1 denotes
reading_says kind.Real card text comment number reads numeric denotes =
    let said = card_said card (Real text) comment (record { is_text = reads.is_text; says = record { spelling = text; reads = reads.reads; is_value = refl } }) in
    ap (λ o. unwrap_or (option_map (λ said. value_says_number number said.0) o) false) said ∙ (number_says text number).1 denotes
reading_says kind card text comment number reads numeric denotes = absurd (false≢true numeric)

-- a card denotes a number exactly where its value says it
pub card_number : (card : List ℕ) (number : ℤ) → IsTrue (card_says_number card number) ↔ CardDenotes card number
unfolding card_says_number
card_number card number = (
  λ e. let value = holds (λ said. value_says_number number said.0) (card_says card) e in
      let says = card_told card value.0.0 value.0.1 value.1 in
      let denotes = value_denotes number value.0.0 value.2 in
      record {
        kind = kind_of value.0.0;
        text = says.says.spelling;
        comment = value.0.1;
        reads = record { is_text = says.is_text; reads = says.says.reads };
        numeric = denotes.0;
        denotes = denotes.1 says.says.spelling says.says.is_value;
      },
  λ p. reading_says p.kind card p.text p.comment number p.reads p.numeric p.denotes,
)

-- and so does a lead
pub lead_number : (cards : List (List ℕ)) (name : List ℕ) (number : ℤ) → IsTrue (lead_says_number cards name number) ↔ LeadDenotes cards name number
unfolding lead_says_number
lead_number cards name number = (
  λ e. let card = holds (λ card. card_says_number card number) (lead_card cards name) e in
      record { card = card.0; lead = card.1; denotes = (card_number card.0 number).0 card.2 },
  λ p. ap (λ o. unwrap_or (option_map (λ card. card_says_number card number) o) false) p.lead ∙ (card_number p.card number).1 p.denotes,
)

-- a test of the one is the other
pub card_number_said : (card : List ℕ) (number : ℤ) (b : Bool) → (IsTrue b ↔ CardDenotes card number) → b ≡ card_says_number card number
card_number_said card number b e =
    let says = card_number card number in
    both_ways b (card_says_number card number) (λ yes. says.1 (e.0 yes)) (λ yes. e.1 (says.0 yes))
