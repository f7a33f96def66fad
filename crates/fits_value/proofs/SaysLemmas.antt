-- What texts and cards say, as functions and as relations.
use Rattle.std.proofs.Common.{◌≡◌, ℕ, ◌-◌, true, false, List, length, drop, take, Option, None, Some, refl, sym, ◌∙◌, ap, subst, arith, inl, inr}
use Rattle.std.specs.Option.{option_map}
use Rattle.std.proofs.lemmas.Bool.{cond-true, cond-false}
use Rattle.fits_card.specs.Card.{is_text, IsText}
use Rattle.std.proofs.lemmas.Option.{same_Some}
use Rattle.fits_value.proofs.FrontLemmas.{chosen, option_map_some}
use Rattle.fits_value.proofs.FieldLemmas.{found_said}
use Rattle.fits_value.proofs.FieldOnlyLemmas.{reading_only}
use Rattle.fits_value.proofs.QuoteLemmas.{undoubled-doubled}
use Rattle.fits_value.proofs.ReadLemmas.{Said}
use Rattle.fits_value.proofs.SayLemmas.{scans, between_quotes}
use Rattle.fits_value.proofs.WithinLemmas.{reading_within}
use Rattle.fits_value.specs.Spelling.{IsStringOf, Spells, doubled}
use Rattle.fits_value.specs.Field.{FieldReadsAs, ReadsAs, part, field}
use Rattle.fits_value.specs.Text.{normal_form}
use Rattle.fits_value.specs.Scan.{reading_of, undoubled}
use Rattle.fits_value.specs.Value.{kind_of, IsValueOf, FieldSays, CardSays}
use Rattle.fits_value.specs.Says.{inner, is_true, value_spelled, read_said, field_says, card_says}
use Rattle.fits_value.specs.declared.reading.ValueKind.{ValueKind}
use Rattle.fits_value.specs.declared.reading.ValueKind.TheVariants as kind
use Rattle.fits_value.specs.declared.reading.Reading.{Reading}
use Rattle.fits_value.specs.declared.scan_complex.Pair.{Pair}
use Rattle.fits_value.specs.declared.value.Value.{Value}
use Rattle.fits_value.specs.declared.value.Value.TheVariants.{Undefined, Logical, Integer, Real, Complex, Str}

-- what stands between the quotes of a string
inner_is : (spelling characters : List ℕ) → IsStringOf spelling characters → inner spelling ≡ doubled characters
inner_is spelling characters h =
    let size : length spelling - 2 ≡ length spelling - 1 - 1 = omega arith in
    ap (λ (n : ℕ). take n (drop 1 spelling)) size ∙ between_quotes spelling characters (length spelling - 1) h refl

-- a value is found in its spelling
pub value_said : (v : Value) (spelling : List ℕ) → IsValueOf v spelling → value_spelled (kind_of v) spelling ≡ Some v
value_said Undefined s h = refl
value_said (Logical true) s h = ap (λ (x : List ℕ). Some (Logical (is_true x))) h
value_said (Logical false) s h = ap (λ (x : List ℕ). Some (Logical (is_true x))) h
value_said (Integer text) s h = ap (λ (x : List ℕ). Some (Integer x)) h
value_said (Real text) s h = ap (λ (x : List ℕ). Some (Real x)) h
value_said (Complex real imaginary) s h =
    let w = scans s real imaginary h in
    ap (λ (o : Option Pair). option_map (λ (p : Pair). Complex (part s p.real) (part s p.imaginary)) o) w.found
    ∙ (ap (λ (x : List ℕ). Some (Complex x (part s w.pair.imaginary))) w.real_is ∙ ap (λ (x : List ℕ). Some (Complex real x)) w.imaginary_is)
value_said (Str text) s h = ap (λ (x : List ℕ). Some (Str (normal_form x))) (ap undoubled (inner_is s h.0 h.1) ∙ undoubled-doubled h.0) ∙ ap (λ (x : List ℕ). Some (Str x)) (sym h.2)

-- the value of a spelling
record HasValueOf (k : ValueKind) (spelling : List ℕ) : Type 0 where
  value : Value
  of_kind : kind_of value ≡ k
  is_value : IsValueOf value spelling

-- each spelling has one
value_made : (k : ValueKind) (spelling : List ℕ) → Spells k spelling → HasValueOf k spelling
value_made kind.Undefined s h = record { value = Undefined; of_kind = refl; is_value = h }
value_made kind.Logical s (inl e) = record { value = Logical true; of_kind = refl; is_value = e }
value_made kind.Logical s (inr e) = record { value = Logical false; of_kind = refl; is_value = e }
value_made kind.Integer s h = record { value = Integer s; of_kind = refl; is_value = refl }
value_made kind.Real s h = record { value = Real s; of_kind = refl; is_value = refl }
value_made kind.Complex s h = record { value = Complex h.0 h.1; of_kind = refl; is_value = h.2 }
value_made kind.Str s h = record { value = Str (normal_form h.0); of_kind = refl; is_value = (h.0, h.1, refl) }

-- the value that is found in a spelling is its value
value_told : (k : ValueKind) (spelling : List ℕ) (v : Value) → Spells k spelling → value_spelled k spelling ≡ Some v → (kind_of v ≡ k) × IsValueOf v spelling
value_told k s v h e =
    let w = value_made k s h in
    let found : value_spelled k s ≡ Some w.value = subst (λ (x : ValueKind). value_spelled x s ≡ Some w.value) w.of_kind (value_said w.value s w.is_value) in
    let same : w.value ≡ v = same_Some w.value v (sym found ∙ e) in
    subst (λ (x : Value). (kind_of x ≡ k) × IsValueOf x s) same (w.of_kind, w.is_value)

-- a value with this comment
abbrev pub with_comment : Option (List ℕ) → Value → Said
with_comment comment value = (value, comment)

-- a text says the value of its reading
pub field_reads : (text : List ℕ) (k : ValueKind) (spelling : List ℕ) (comment : Option (List ℕ)) → FieldReadsAs text k spelling comment → field_says text ≡ option_map (with_comment comment) (value_spelled k spelling)
unfolding field_says
field_reads text k spelling comment h =
    let r = reading_only text k spelling comment h in
    cond-true (is_text text) (read_said text (reading_of text)) None h.is_text
    ∙ (ap (read_said text) r.1
    ∙ (ap (λ (x : ValueKind). option_map (with_comment (option_map (part text) r.0.comment)) (value_spelled x (part text r.0.value))) r.2
    ∙ (ap (λ (x : List ℕ). option_map (with_comment (option_map (part text) r.0.comment)) (value_spelled k x)) r.3 ∙ ap (λ (x : Option (List ℕ)). option_map (with_comment x) (value_spelled k spelling)) r.4)))

-- what a text says is found
pub field_said : (text : List ℕ) (v : Value) (c : Option (List ℕ)) → FieldSays text v c → field_says text ≡ Some (v, c)
field_said text v c h = field_reads text (kind_of v) h.spelling c h.reads ∙ ap (option_map (with_comment c)) (value_said v h.spelling h.is_value)

-- a text that reads as a value says something
pub field_speaks : (text : List ℕ) (k : ValueKind) (spelling : List ℕ) (comment : Option (List ℕ)) → FieldReadsAs text k spelling comment → field_says text ≡ None → ⊥
field_speaks text k spelling comment h e =
    let w = value_made k spelling h.spelled in
    let says : FieldSays text w.value comment = record { spelling = spelling; reads = subst (λ (x : ValueKind). FieldReadsAs text x spelling comment) (sym w.of_kind) h; is_value = w.is_value } in
    let said = field_said text w.value comment says in
    (cc)

-- a value that is read with its comment is said
read_told : (text : List ℕ) (o : Option Reading) (v : Value) (c : Option (List ℕ)) → IsText text → reading_of text ≡ o → read_said text o ≡ Some (v, c) → FieldSays text v c
read_told text None v c is_text e f = absurd (cc)
read_told text (Some r) v c is_text e f =
    let spelling = part text r.value in
    let comment = option_map (part text) r.comment in
    let reads : FieldReadsAs text r.kind spelling comment = found_said text (Some r) is_text (reading_within text r e) (sym e) in
    let x = option_map_some (with_comment comment) (value_spelled r.kind spelling) (v, c) f in
    let told = value_told r.kind spelling x.0 reads.spelled x.1 in
    let says : FieldSays text x.0 comment = record { spelling = spelling; reads = subst (λ (k : ValueKind). FieldReadsAs text k spelling comment) (sym told.0) reads; is_value = told.1 } in
    subst (λ (y : Said). FieldSays text y.0 y.1) x.2 says

-- what is found, a text says
pub field_told : (text : List ℕ) (v : Value) (c : Option (List ℕ)) → field_says text ≡ Some (v, c) → FieldSays text v c
unfolding field_says
field_told text v c e = elim (chosen (is_text text) (read_said text (reading_of text)) None (Some (v, c)) e) [
  | inl w ↦ read_told text (reading_of text) v c w.0 refl w.1
  | inr w ↦ absurd (let z = w.1 in (cc))
]

-- a text with another byte says nothing
pub field_says-other : (text : List ℕ) → is_text text ≡ false → field_says text ≡ None
unfolding field_says
field_says-other text e = cond-false (is_text text) _ _ e

-- a text says the value that was made of its reading
pub field_made : (text : List ℕ) (r : Reading) (v : Value) (c : Option (List ℕ)) → FieldReadsAs text r.kind (part text r.value) (option_map (part text) r.comment)
    → kind_of v ≡ r.kind → IsValueOf v (part text r.value) → c ≡ option_map (part text) r.comment → Some (v, c) ≡ field_says text
field_made text r v c h of_kind is_value is_comment =
    let spelling = part text r.value in
    let comment = option_map (part text) r.comment in
    let reads : FieldReadsAs text (kind_of v) spelling c = subst (λ (k : ValueKind). FieldReadsAs text k spelling c) (sym of_kind) (subst (λ (x : Option (List ℕ)). FieldReadsAs text r.kind spelling x) (sym is_comment) h) in
    sym (field_said text v c (record { spelling = spelling; reads = reads; is_value = is_value }))

-- a card of text says what its bytes 11 to 80 do
pub card_says-text : (card : List ℕ) → IsText card → card_says card ≡ field_says (field card)
unfolding card_says
card_says-text card h = cond-true (is_text card) _ _ h

-- another says nothing
pub card_says-other : (card : List ℕ) → is_text card ≡ false → card_says card ≡ None
unfolding card_says
card_says-other card e = cond-false (is_text card) _ _ e

-- what a card says is found
pub card_said : (card : List ℕ) (v : Value) (c : Option (List ℕ)) → CardSays card v c → card_says card ≡ Some (v, c)
card_said card v c h = card_says-text card h.is_text ∙ field_said (field card) v c h.says

-- what is found, a card says
pub card_told : (card : List ℕ) (v : Value) (c : Option (List ℕ)) → card_says card ≡ Some (v, c) → CardSays card v c
unfolding card_says
card_told card v c e = elim (chosen (is_text card) (field_says (field card)) None (Some (v, c)) e) [
  | inl w ↦ record { is_text = w.0; says = field_told (field card) v c w.1 }
  | inr w ↦ absurd (let z = w.1 in (cc))
]

-- nothing is said where no value is
pub nothing_said : (o : Option Said) → ((x : Said) → o ≡ Some x → ⊥) → o ≡ None
nothing_said None h = refl
nothing_said (Some x) h = absurd (h x refl)

-- a text without a reading says nothing
pub field_silent : (text : List ℕ) → ((k : ValueKind) (s : List ℕ) (c : Option (List ℕ)) → FieldReadsAs text k s c → ⊥) → field_says text ≡ None
field_silent text h = nothing_said (field_says text) (λ x e. let says = field_told text x.0 x.1 e in h (kind_of x.0) says.spelling x.1 says.reads)

-- so does a card
pub card_silent : (card : List ℕ) → ((k : ValueKind) (s : List ℕ) (c : Option (List ℕ)) → ReadsAs card k s c → ⊥) → card_says card ≡ None
card_silent card h = nothing_said (card_says card) (λ x e. let says = card_told card x.0 x.1 e in h (kind_of x.0) says.says.spelling x.1 (record { is_text = says.is_text; reads = says.says.reads }))

-- a card says the value of its reading
pub card_reads : (card : List ℕ) (k : ValueKind) (spelling : List ℕ) (comment : Option (List ℕ)) → ReadsAs card k spelling comment → card_says card ≡ option_map (with_comment comment) (value_spelled k spelling)
card_reads card k spelling comment h = card_says-text card h.is_text ∙ field_reads (field card) k spelling comment h.reads

-- what is read of a card's bytes 11 to 80 is what the card says
pub card_field : (card text : List ℕ) → IsText card → text ≡ field card → field_says text ≡ card_says card
card_field card text h e = ap field_says e ∙ sym (card_says-text card h)
