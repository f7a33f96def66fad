-- A text says one value at most.
use Rattle.std.proofs.Common.{◌≡◌, ℕ, List, Option, sym, ◌∙◌, ap, Some, subst}
use Rattle.std.specs.Option.{option_map}
use Rattle.std.proofs.lemmas.Option.{same_Some}
use Rattle.fits_value.specs.Field.{FieldReadsAs, part, ReadsAs, field}
use Rattle.fits_value.specs.declared.reading.ValueKind.{ValueKind}
use Rattle.fits_value.specs.declared.reading.Reading.{Reading}
use Rattle.fits_value.proofs.FieldOnlyLemmas.{reading_only}
use Rattle.fits_value.specs.Value.{kind_of, IsValueOf, FieldSays, CardSays}
use Rattle.fits_value.specs.declared.value.Value.{Value}
use Rattle.fits_value.proofs.SayLemmas.{one_value}
use Rattle.fits_value.proofs.ReadLemmas.{Said}

-- a text has at most one reading
pub one_reading : (text : List ℕ) (k j : ValueKind) (s t : List ℕ) (c d : Option (List ℕ)) → FieldReadsAs text k s c → FieldReadsAs text j t d → (k ≡ j) × (s ≡ t) × (c ≡ d)
one_reading text k j s t c d g h =
    let x = reading_only text k s c g in
    let y = reading_only text j t d h in
    let same : x.0 ≡ y.0 = same_Some x.0 y.0 (sym x.1 ∙ y.1) in (
      sym x.2 ∙ (ap (λ (r : Reading). r.kind) same ∙ y.2),
      sym x.3 ∙ (ap (λ (r : Reading). part text r.value) same ∙ y.3),
      sym x.4 ∙ (ap (λ (r : Reading). option_map (part text) r.comment) same ∙ y.4),
    )

-- a card has at most one reading
pub one_card_reading : (card : List ℕ) (k j : ValueKind) (s t : List ℕ) (c d : Option (List ℕ)) → ReadsAs card k s c → ReadsAs card j t d → (k ≡ j) × (s ≡ t) × (c ≡ d)
one_card_reading card k j s t c d g h = one_reading (field card) k j s t c d g.reads h.reads

-- the same value and the same comment
pub same_said : (x y : Said) → x.0 ≡ y.0 → x.1 ≡ y.1 → Some x ≡ Some y
same_said x y e f = ap (λ (v : Value). let p : Said = (v, x.1) in Some p) e ∙ ap (λ (c : Option (List ℕ)). let p : Said = (y.0, c) in Some p) f

-- a text says at most one value and comment
pub one_field_said : (text : List ℕ) (x y : Said) → FieldSays text x.0 x.1 → FieldSays text y.0 y.1 → (x.0 ≡ y.0) × (x.1 ≡ y.1)
one_field_said text x y g h =
    let p = one_reading text (kind_of x.0) (kind_of y.0) g.spelling h.spelling x.1 y.1 g.reads h.reads in
    (one_value x.0 y.0 h.spelling p.0 (subst (λ (s : List ℕ). IsValueOf x.0 s) p.1 g.is_value) h.is_value, p.2)

-- a text says at most one value
pub one_field_value : (text : List ℕ) (v w : Value) (c d : Option (List ℕ)) → FieldSays text v c → FieldSays text w d → (v ≡ w) × (c ≡ d)
one_field_value text v w c d g h = one_field_said text (v, c) (w, d) g h

-- a card says at most one value
pub one_card_value : (card : List ℕ) (v w : Value) (c d : Option (List ℕ)) → CardSays card v c → CardSays card w d → (v ≡ w) × (c ≡ d)
one_card_value card v w c d g h = one_field_value (field card) v w c d g.says h.says
