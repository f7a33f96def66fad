-- What a card that has a value says alone.
use Rattle.std.proofs.Common.{◌≡◌, ℕ, Bool, true, false, List, Option, None, Some, option_and_then, unwrap_or, refl, ap, sym, subst, ◌∙◌}
use Rattle.std.specs.Option.{option_map}
use Rattle.std.proofs.lemmas.Bool.{cond-true, cond-false}
use Rattle.fits_card.specs.Card.{has_value}
use Rattle.fits_value.specs.Field.{part, ReadsAs}
use Rattle.fits_value.specs.Spelling.{Spells}
use Rattle.fits_value.specs.Says.{card_says, read_said, value_spelled, is_true}
use Rattle.fits_value.specs.Value.{kind_of}
use Rattle.fits_value.specs.declared.reading.ValueKind.{ValueKind}
use Rattle.fits_value.specs.declared.reading.ValueKind.TheVariants as kind
use Rattle.fits_value.specs.declared.reading.Reading.{Reading}
use Rattle.fits_value.specs.declared.value.Value.{Value}
use Rattle.fits_value.specs.declared.value.Value.TheVariants.{Undefined, Logical, Integer, Real, Complex, Str}
use Rattle.fits_rules.specs.Reads.{value_said, logical_of_value, logical_said}

-- an option that is two things
none_is_some : (o : Option Value) (v : Value) → o ≡ None → o ≡ Some v → ⊥
none_is_some o v e f = cc

-- a card without a value field says nothing
value_said-no_field : (card : List ℕ) → has_value card ≡ false → value_said card ≡ None
unfolding value_said
value_said-no_field card fails = cond-false (has_value card) _ _ fails

-- a card with a value field says what the field does
value_said-field : (card : List ℕ) → has_value card ≡ true → value_said card ≡ option_map (λ said. said.0) (card_says card)
unfolding value_said
value_said-field card holds = cond-true (has_value card) _ _ holds

-- so it has no value of any kind
pub no_field : (card : List ℕ) (k : ValueKind) → has_value card ≡ false → (value : Value) → value_said card ≡ Some value → kind_of value ≡ k → ⊥
no_field card k fails value said same = none_is_some (value_said card) value (value_said-no_field card fails) said

-- nor has one that can not be read
pub no_reading : (card : List ℕ) (k : ValueKind) → has_value card ≡ true → card_says card ≡ None → (value : Value) → value_said card ≡ Some value → kind_of value ≡ k → ⊥
no_reading card k holds silent value said same =
    none_is_some (value_said card) value (value_said-field card holds ∙ ap (option_map (λ said. said.0)) silent) said

-- the value of a reading
first_of_map : (o : Option Value) (comment : Option (List ℕ)) → option_map (λ (said : Value × Option (List ℕ)). said.0) (option_map (λ value. (value, comment)) o) ≡ o
first_of_map None comment = refl
first_of_map (Some value) comment = refl

-- the value that a reading gives
value_read : (card : List ℕ) (reading : Reading) → has_value card ≡ true → card_says card ≡ read_said card (Some reading) → value_said card ≡ value_spelled reading.kind (part card reading.value)
value_read card reading holds said =
    value_said-field card holds ∙ (ap (option_map (λ said. said.0)) said ∙ first_of_map (value_spelled reading.kind (part card reading.value)) (option_map (part card) reading.comment))

-- as its kind spells it
pub value_of_kind : (card spelling : List ℕ) (reading : Reading) (k : ValueKind) → has_value card ≡ true → card_says card ≡ read_said card (Some reading) → reading.kind ≡ k → spelling ≡ part card reading.value → value_said card ≡ value_spelled k spelling
value_of_kind card spelling reading k holds said same is =
    value_read card reading holds said ∙ (ap (λ (x : ValueKind). value_spelled x (part card reading.value)) same ∙ ap (value_spelled k) (sym is))

-- a spelling's value has its kind
kind_known : (known value : Value) → Some known ≡ Some value → kind_of value ≡ kind_of known
kind_known known value e = let same : known ≡ value = cc in ap kind_of (sym same)

-- also through a function
kind_mapped : {X : Type 0} (o : Option X) (f : X → Value) (k : ValueKind) (value : Value) → ((x : X) → kind_of (f x) ≡ k) → option_map f o ≡ Some value → kind_of value ≡ k
kind_mapped None f k value is e = absurd (none_is_some None value refl e)
kind_mapped (Some x) f k value is e = kind_known (f x) value e ∙ is x

-- for each kind
kind_spelled : (k : ValueKind) (spelling : List ℕ) (value : Value) → value_spelled k spelling ≡ Some value → kind_of value ≡ k
kind_spelled kind.Undefined spelling value e = kind_known Undefined value e
kind_spelled kind.Logical spelling value e = kind_known (Logical (is_true spelling)) value e
kind_spelled kind.Integer spelling value e = kind_known (Integer spelling) value e
kind_spelled kind.Real spelling value e = kind_known (Real spelling) value e
kind_spelled kind.Complex spelling value e = kind_mapped _ (λ pair. Complex (part spelling pair.real) (part spelling pair.imaginary)) kind.Complex value (λ pair. refl) e
kind_spelled kind.Str spelling value e = kind_known (Str _) value e

-- a reading of another kind gives no value of this one
pub other_kind : (card : List ℕ) (reading : Reading) (k : ValueKind) → has_value card ≡ true → card_says card ≡ read_said card (Some reading) → (reading.kind ≡ k → ⊥) → (value : Value) → value_said card ≡ Some value → kind_of value ≡ k → ⊥
other_kind card reading k holds said other value is same =
    other (sym (kind_spelled reading.kind (part card reading.value) value (sym (value_read card reading holds said) ∙ is)) ∙ same)

-- the bytes of a reading's value spell it
pub spells_value : (card spelling : List ℕ) (reading : Reading) (k : ValueKind) → ReadsAs card reading.kind (part card reading.value) (option_map (part card) reading.comment) → reading.kind ≡ k → spelling ≡ part card reading.value → Spells k spelling
spells_value card spelling reading k reads same is = subst (λ (s : List ℕ). Spells k s) (sym is) (subst (λ (x : ValueKind). Spells x (part card reading.value)) same reads.reads.spelled)

-- a value of another kind gives nothing
pub of_no_kind : {X : Type 0} (f : Value → Option X) (k : ValueKind) (o : Option Value) → ((value : Value) → (kind_of value ≡ k → ⊥) → f value ≡ None) → ((value : Value) → o ≡ Some value → kind_of value ≡ k → ⊥) → option_and_then f o ≡ None
of_no_kind f k None others none = refl
of_no_kind f k (Some value) others none = others value (none value refl)

-- the logical value of a logical value
no_logical_value : (value : Value) → (kind_of value ≡ kind.Logical → ⊥) → logical_of_value value ≡ None
no_logical_value Undefined other = refl
no_logical_value (Logical flag) other = absurd (other refl)
no_logical_value (Integer text) other = refl
no_logical_value (Real text) other = refl
no_logical_value (Complex real imaginary) other = refl
no_logical_value (Str text) other = refl

-- it is T
pub logical_spelled : (card text : List ℕ) (flag : Bool) → value_said card ≡ value_spelled kind.Logical text → flag ≡ is_true text → flag ≡ unwrap_or (logical_said card) false
unfolding logical_said
logical_spelled card text flag said is = is ∙ sym (ap (λ o. unwrap_or (option_and_then logical_of_value o) false) said)

-- another value is not T
pub logical_none : (card : List ℕ) → ((value : Value) → value_said card ≡ Some value → kind_of value ≡ kind.Logical → ⊥) → false ≡ unwrap_or (logical_said card) false
unfolding logical_said
logical_none card none = sym (ap (λ o. unwrap_or o false) (of_no_kind logical_of_value kind.Logical (value_said card) no_logical_value none))

pub ruleset logical_steps = (logical_spelled, logical_none)
