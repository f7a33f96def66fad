-- What a card that has a value says: its type, its date, its F.
use Rattle.std.proofs.Common.{◌≡◌, ℕ, true, false, not, List, Option, None, Some, option_and_then, inl, inr, refl, ap, sym, ◌∙◌}
use Rattle.std.specs.Option.{option_map, option_map_or}
use Rattle.std.proofs.lemmas.Bool.{cases_Bool, cond-true, cond-false}
use Rattle.fits_card.specs.Card.{has_value}
use Rattle.fits_value.specs.Field.{ReadsAs}
use Rattle.fits_value.specs.Spelling.{Spells}
use Rattle.fits_value.specs.Says.{card_says, value_spelled, is_true}
use Rattle.fits_value.specs.Value.{kind_of}
use Rattle.fits_value.proofs.SaysLemmas.{with_comment, value_said, card_reads}
use Rattle.fits_value.specs.declared.reading.ValueKind.{ValueKind}
use Rattle.fits_value.specs.declared.reading.ValueKind.TheVariants as kind
use Rattle.fits_value.specs.declared.value.Value.{Value}
use Rattle.fits_value.specs.declared.value.Value.TheVariants.{Undefined, Logical, Integer, Real, Complex, Str}
use Rattle.fits_rules.specs.Reads as reads
use Rattle.fits_rules.specs.Reads.{logical_of_value, logical_said}
use Rattle.fits_codes.specs.Alone.{kind_said}
use Rattle.fits_codes.specs.HeaderCodes.{says_false}

-- a card without a value field says nothing
pub said-no_field : (card : List ℕ) → has_value card ≡ false → reads.value_said card ≡ None
unfolding reads.value_said
said-no_field card fails = cond-false (has_value card) _ _ fails

-- nor does one that can't be read
pub said-unread : (card : List ℕ) → card_says card ≡ None → reads.value_said card ≡ None
unfolding reads.value_said
said-unread card silent = elim (cases_Bool (has_value card)) [
  | inl holds ↦ cond-true (has_value card) _ _ holds ∙ ap (option_map (λ said. said.0)) silent
  | inr fails ↦ cond-false (has_value card) _ _ fails
]

-- a value without the comment that was put beside it
first_of_map : (o : Option Value) (comment : Option (List ℕ)) → option_map (λ (said : Value × Option (List ℕ)). said.0) (option_map (with_comment comment) o) ≡ o
first_of_map None comment = refl
first_of_map (Some value) comment = refl

-- a card with a value field says what its bytes spell
pub said-read : (card : List ℕ) (k : ValueKind) (spelling : List ℕ) (comment : Option (List ℕ)) → has_value card ≡ true → ReadsAs card k spelling comment → reads.value_said card ≡ value_spelled k spelling
unfolding reads.value_said
said-read card k spelling comment holds read =
    cond-true (has_value card) _ _ holds ∙ (ap (option_map (λ said. said.0)) (card_reads card k spelling comment read) ∙ first_of_map (value_spelled k spelling) comment)

-- a spelling has a value of its type
pub record HasValueOf (k : ValueKind) (spelling : List ℕ) : Type 0 where
  pub value : Value
  pub is_spelled : value_spelled k spelling ≡ Some value
  pub of_kind : kind_of value ≡ k

-- each has one
pub value_made : (k : ValueKind) (spelling : List ℕ) → Spells k spelling → HasValueOf k spelling
value_made kind.Undefined s h = record { value = Undefined; is_spelled = refl; of_kind = refl }
value_made kind.Logical s h = record { value = Logical (is_true s); is_spelled = refl; of_kind = refl }
value_made kind.Integer s h = record { value = Integer s; is_spelled = refl; of_kind = refl }
value_made kind.Real s h = record { value = Real s; is_spelled = refl; of_kind = refl }
value_made kind.Complex s h = record { value = Complex h.0 h.1; is_spelled = value_said (Complex h.0 h.1) s h.2; of_kind = refl }
value_made kind.Str s h = record { value = Str _; is_spelled = refl; of_kind = refl }

-- no type is said without a value field
pub kind-no_field : (card : List ℕ) → has_value card ≡ false → None ≡ kind_said card
unfolding kind_said
kind-no_field card fails = sym (ap (option_map kind_of) (said-no_field card fails))

-- nor of a value that can't be read
pub kind-unread : (card : List ℕ) → card_says card ≡ None → None ≡ kind_said card
unfolding kind_said
kind-unread card silent = sym (ap (option_map kind_of) (said-unread card silent))

-- the type that is read is said
pub kind-read : (card : List ℕ) (k : ValueKind) (spelling : List ℕ) (comment : Option (List ℕ)) → has_value card ≡ true → ReadsAs card k spelling comment → Some k ≡ kind_said card
unfolding kind_said
kind-read card k spelling comment holds read =
    let made = value_made k spelling read.reads.spelled in
    sym (ap (option_map kind_of) (said-read card k spelling comment holds read ∙ made.is_spelled) ∙ ap Some made.of_kind)

-- a value of another type isn't logical
not_logical : (value : Value) → (kind_of value ≡ kind.Logical → ⊥) → logical_of_value value ≡ None
not_logical Undefined other = refl
not_logical (Logical flag) other = absurd (other refl)
not_logical (Integer text) other = refl
not_logical (Real text) other = refl
not_logical (Complex real imaginary) other = refl
not_logical (Str text) other = refl

-- a card that says nothing doesn't say F
pub false-silent : (card : List ℕ) → reads.value_said card ≡ None → false ≡ says_false card
unfolding logical_said
false-silent card silent = sym (ap (λ o. option_map_or not (option_and_then logical_of_value o) false) silent)

-- nor does a value of another type
pub false-other : (card : List ℕ) (k : ValueKind) (spelling : List ℕ) (comment : Option (List ℕ)) → has_value card ≡ true → ReadsAs card k spelling comment → (k ≡ kind.Logical → ⊥) → false ≡ says_false card
unfolding logical_said
false-other card k spelling comment holds read other =
    let made = value_made k spelling read.reads.spelled in
    let none : logical_of_value made.value ≡ None = not_logical made.value (λ same. other (sym made.of_kind ∙ same)) in
    sym (ap (λ o. option_map_or not (option_and_then logical_of_value o) false) (said-read card k spelling comment holds read ∙ made.is_spelled) ∙ ap (λ o. option_map_or not o false) none)

-- a logical value says F where it isn't T
pub false-read : (card : List ℕ) (spelling : List ℕ) (comment : Option (List ℕ)) → has_value card ≡ true → ReadsAs card kind.Logical spelling comment → not (is_true spelling) ≡ says_false card
unfolding logical_said
false-read card spelling comment holds read =
    sym (ap (λ o. option_map_or not (option_and_then logical_of_value o) false) (said-read card kind.Logical spelling comment holds read))
