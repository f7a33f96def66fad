-- The kind of an image.
use Rattle.std.proofs.Common.{◌≡◌, inl, inr, ℕ, true, ℤ, pos, List, refl, sym, ap, ◌∙◌, Option, None, Some}
use Rattle.std.specs.Prelude.{IsTrue, ◌↔◌, is_none, codes}
use Rattle.std.specs.Cmp.{both_ways}
use Rattle.std.specs.Option.{option_map}
use Rattle.std.proofs.lemmas.Bool.{false≢true, and_parts, and_from, or_cases, or_left, or_right}
use Rattle.fits_rules.specs.Denotes.{lead_says_number}
use Rattle.fits_rules.specs.Image.{image_bits}
use Rattle.fits_rules.specs.Lead.{lead_card}
use Rattle.fits_rules.specs.declared.array_shape.Shape.{Shape}
use Rattle.fits_rules.proofs.DenotesLemmas.{lead_number}
use Rattle.fits_value.proofs.FrontLemmas.{option_map_some}
use Rattle.fits_image.specs.declared.kind.Kind.{Kind}
use Rattle.fits_image.specs.Kind.{convention, kind_of, is_unscaled, has_offset, kind_in}
use Rattle.fits_laws.specs.Kinds.{IsUnscaled, HasOffset, IsKind}

-- an option that holds nothing
nothing : {X : Type 0} (o : Option X) → is_none o ≡ true → o ≡ None
nothing None e = refl
nothing (Some x) e = absurd (false≢true e)

-- nothing is scaled exactly where the test says so
unscaled_is : (cards : List (List ℕ)) → IsTrue (is_unscaled cards) ↔ IsUnscaled cards
unscaled_is cards =
    let absent = is_none (lead_card cards (codes "BSCALE  ")) in
    let one = lead_says_number cards (codes "BSCALE  ") (pos 1) in
    let number = lead_number cards (codes "BSCALE  ") (pos 1) in (
      λ e. elim (or_cases absent one e) [
        | inl f ↦ inl (nothing (lead_card cards (codes "BSCALE  ")) f)
        | inr f ↦ inr (number.0 f)
      ],
      λ u. elim u [
        | inl none ↦ or_left absent one (ap is_none none)
        | inr denotes ↦ or_right absent one (number.1 denotes)
      ],
    )

-- and an offset is there
offset_is : (cards : List (List ℕ)) (offset : ℤ) → IsTrue (has_offset cards offset) ↔ HasOffset cards offset
offset_is cards offset =
    let zero = lead_says_number cards (codes "BZERO   ") offset in
    let number = lead_number cards (codes "BZERO   ") offset in
    let scale = unscaled_is cards in (
      λ e. let both = and_parts zero (is_unscaled cards) e in record { zero = number.0 both.0; scale = scale.0 both.1 },
      λ w. and_from zero (is_unscaled cards) (number.1 w.zero) (scale.1 w.scale),
    )

-- an image has exactly the kind that is found
pub kind_is : (shape : Shape) (cards : List (List ℕ)) (kind : Kind) → IsKind shape cards kind ↔ (kind_in shape cards ≡ Some kind)
unfolding kind_in
kind_is shape cards kind = (
  λ w. let offset = offset_is cards (convention w.bits) in
      let same : has_offset cards (convention w.bits) ≡ w.has_offset = both_ways _ _ (λ e. w.offset.1 (offset.0 e)) (λ e. offset.1 (w.offset.0 e)) in
      ap (option_map (λ bits. kind_of bits (has_offset cards (convention bits)))) w.image ∙ ap Some (ap (kind_of w.bits) same ∙ sym w.is),
  λ e. let found = option_map_some (λ bits. kind_of bits (has_offset cards (convention bits))) (image_bits shape) kind e in
      record { bits = found.0; has_offset = has_offset cards (convention found.0); image = found.1; offset = offset_is cards (convention found.0); is = sym found.2 },
)

-- a mapped option holds something exactly where it did
mapped_none : {X Y : Type 0} (f : X → Y) (o : Option X) → (option_map f o ≡ None) ↔ (o ≡ None)
mapped_none f None = (λ e. refl, λ e. refl)
mapped_none f (Some x) = (λ e. absurd (cc), λ e. absurd (cc))

-- none is found exactly where there is no image of integers
pub kind_is_none : (shape : Shape) (cards : List (List ℕ)) → (kind_in shape cards ≡ None) ↔ (image_bits shape ≡ None)
unfolding kind_in
kind_is_none shape cards = mapped_none (λ bits. kind_of bits (has_offset cards (convention bits))) (image_bits shape)

-- an image has one kind
pub one_kind : (shape : Shape) (cards : List (List ℕ)) (k j : Kind) → IsKind shape cards k → IsKind shape cards j → k ≡ j
one_kind shape cards k j p q =
    let some : Option.Some k ≡ Some j = sym ((kind_is shape cards k).0 p) ∙ (kind_is shape cards j).0 q in
    (cc)
