-- Whether an array may be made another, by its cards.
use Rattle.std.proofs.Common.{◌≡◌, inl, inr, ℕ, ◌+◌, ◌*◌, ◌≤◌, Bool, true, false, not, List, length, get_or, codes, refl, ap, sym, ◌∙◌, subst, arith, All, Option, None, Some}
use Rattle.std.specs.Prelude.{◌&&◌, ◌||◌, ℤ, pos, IsTrue, Ok, if◌then◌else◌}
use Rattle.std.specs.Cmp.{both_ways}
use Rattle.std.specs.Option.{option_map}
use Rattle.std.specs.Ordering.{int_eq}
use Rattle.std.proofs.lemmas.Bool.{cases_Bool, cond-false, cond-true}
use Rattle.std.proofs.lemmas.List.Elements.{All-weaker}
use Rattle.std.proofs.lemmas.Bool.Decides.{Decides-int_eq}
use Rattle.fits_card.specs.Card.{IsEnd}
use Rattle.fits_card.specs.Change.{IsInRange, cards_after, new_cards, spliced}
use Rattle.fits_card.proofs.ChangeLemmas.{length-spliced}
use Rattle.fits_card.specs.Header.{Header, IsInnerCard, with_cards}
use Rattle.fits_card.specs.declared.change.Change.{Change}
use Rattle.fits_card.specs.declared.change.Change.TheVariants.{Splice}
use Rattle.fits_header.specs.State.{still_describes}
use Rattle.fits_rules.specs.Class.{is_primary}
use Rattle.fits_rules.specs.Denotes.{lead_says_number}
use Rattle.fits_rules.specs.Image.{array_bits, integer_bits, is_array}
use Rattle.fits_rules.specs.Lead.{lead_card}
use Rattle.fits_rules.specs.SameShape.{same_shape}
use Rattle.fits_rules.specs.Shape.{axis_name, shape_of}
use Rattle.fits_rules.specs.declared.array_shape.Shape.{Shape}
use Rattle.fits_rules.proofs.DescribesLemmas.{described}
use Rattle.fits_rules.proofs.KeepingLemmas.{described_within}
use Rattle.fits_rules.proofs.SameShapeLemmas.{same_shape-Decides}
use Rattle.fits_image.specs.ImageCards.{are_axes, shape_cards, written_number}
use Rattle.fits_image.proofs.ImageCardLemmas.{axis_list_length, shape_cards_are, shape_cards_inner}
use Rattle.fits_hdu.specs.Keyword.{keyword_cards, replacing}
use Rattle.fits_hdu.specs.Reshaping.{IsPlan, scaling_for}
use Rattle.fits_hdu.specs.Work.{keyword_reads, scaling_reads}
use Rattle.fits_hdu.specs.declared.reshaping.Reshaping.{Reshaping}
use Rattle.fits_hdu.specs.declared.scaling.Scaling.{Scaling}
use Rattle.fits_image.specs.Kind.{array_kind, convention, has_offset, kind_of, offset_of, width_of}
use Rattle.fits_image.specs.declared.kind.Kind.{Kind}
use Rattle.fits_image.specs.declared.kind.Kind.TheVariants.{U8, I8, I16, U16, I32, U32, I64, U64}
use Rattle.fits_hdu.specs.Reshape.{IsUnshaped, adds, can_reshape, cards_reshaped, describes_array, reshaped_shape, scales_otherwise, with_number, with_scaling}
use Rattle.fits_hdu.proofs.OtherLeadLemmas.{lead_written}
use Rattle.fits_hdu.proofs.ReshapeLemmas.{can_parts, kind_of_array, offset_small}
use Rattle.fits_hdu.proofs.ScalingLemmas.{scaling_gives_offset, scaling_keeps_shapes}

-- BSCALE and BZERO are no names of a shape
pub bscale_unshaped : IsUnshaped (codes "BSCALE  ")
unfolding axis_name
bscale_unshaped = record {
  bitpix = λ e. let letter = ap (λ (x : List ℕ). get_or x 1 0) e in omega (arith, letter);
  naxis = λ e. let letter = ap (λ (x : List ℕ). get_or x 0 0) e in omega (arith, letter);
  axis = λ n e. let letter = ap (λ (x : List ℕ). get_or x 0 0) e in omega (arith, letter);
}

pub bzero_unshaped : IsUnshaped (codes "BZERO   ")
unfolding axis_name
bzero_unshaped = record {
  bitpix = λ e. let letter = ap (λ (x : List ℕ). get_or x 1 0) e in omega (arith, letter);
  naxis = λ e. let letter = ap (λ (x : List ℕ). get_or x 0 0) e in omega (arith, letter);
  axis = λ n e. let letter = ap (λ (x : List ℕ). get_or x 0 0) e in omega (arith, letter);
}

-- cards with the same leads of both have the same offset
offset_same : (xs ys : List (List ℕ)) (offset : ℤ) → lead_card xs (codes "BZERO   ") ≡ lead_card ys (codes "BZERO   ") → lead_card xs (codes "BSCALE  ") ≡ lead_card ys (codes "BSCALE  ") → has_offset xs offset ≡ has_offset ys offset
unfolding lead_says_number
offset_same xs ys offset zero scale = rw (zero, scale) refl

-- the kind of an array by its bits
kind_by_bits : (kind : Kind) (axes : List ℕ) (shape : Shape) (cards : List (List ℕ)) → is_array shape.class shape.pcount shape.gcount ≡ true
    → array_kind (reshaped_shape kind axes shape) cards ≡ Some (kind_of (8 * width_of kind) (has_offset cards (convention (8 * width_of kind))))
unfolding array_kind array_bits
kind_by_bits kind axes shape cards array =
    ap (option_map (λ bits. kind_of bits (has_offset cards (convention bits)))) (cond-true (is_array shape.class shape.pcount shape.gcount) (integer_bits (pos (8 * width_of kind))) None array)

-- a kind's own offset makes pixels of its width such
own_offset : (kind : Kind) → offset_of (kind_of (8 * width_of kind) (int_eq (offset_of kind) (convention (8 * width_of kind)))) ≡ offset_of kind
own_offset U8 = refl
own_offset I8 = refl
own_offset I16 = refl
own_offset U16 = refl
own_offset I32 = refl
own_offset U32 = refl
own_offset I64 = refl
own_offset U64 = refl

-- a number is itself
same_number : (z : ℤ) → int_eq z z ≡ true
same_number z = (Decides-int_eq z z).1 refl

module _ (old kind : Kind) (axes : List ℕ) (shape : Shape) (cards : List (List ℕ)) (is : shape_of (is_primary shape.class) cards ≡ Ok shape) (may : are_axes axes ≡ true) where
  -- the cards with BITPIX, NAXIS and the axes alone written anew
  abbrev written : List (List ℕ)
  written = spliced cards 2 (2 + length shape.axes) (shape_cards kind axes)

  -- the offset stays, or another is written
  by_offset : (P : List (List ℕ) → Type 0) → (int_eq (offset_of old) (offset_of kind) ≡ true → P written) → (int_eq (offset_of old) (offset_of kind) ≡ false → P (with_scaling written (offset_of kind))) → P (cards_reshaped old kind axes shape cards)
  unfolding cards_reshaped
  by_offset P keeps writes = elim (cases_Bool (int_eq (offset_of old) (offset_of kind))) [
    | inl e ↦ subst P (sym (cond-true (int_eq (offset_of old) (offset_of kind)) written (with_scaling written (offset_of kind)) e)) (keeps e)
    | inr e ↦ subst P (sym (cond-false (int_eq (offset_of old) (offset_of kind)) written (with_scaling written (offset_of kind)) e)) (writes e)
  ]

  -- a scaling doesn't matter for the shape
  pub shape_told : (after : Shape) → same_shape (Ok after) (shape_of (is_primary shape.class) (cards_reshaped old kind axes shape cards)) ≡ same_shape (Ok after) (shape_of (is_primary shape.class) written)
  shape_told after = by_offset (λ xs. same_shape (Ok after) (shape_of (is_primary shape.class) xs) ≡ same_shape (Ok after) (shape_of (is_primary shape.class) written)) (λ e. refl) (λ e.
      let both = scaling_keeps_shapes (is_primary shape.class) written (offset_of kind) after (offset_small kind) in
      let plain = same_shape-Decides after (shape_of (is_primary shape.class) written) in
      let scaled = same_shape-Decides after (shape_of (is_primary shape.class) (with_scaling written (offset_of kind))) in
      both_ways _ _ (λ t. plain.1 (both.1 (scaled.0 t))) (λ t. scaled.1 (both.0 (plain.0 t))))

  -- the offset is the one that is asked for, where another is written or the cards say so
  pub offset_told : is_array shape.class shape.pcount shape.gcount ≡ true
      → adds (array_kind (reshaped_shape kind axes shape) (cards_reshaped old kind axes shape cards)) (offset_of kind)
      ≡ (not (int_eq (offset_of old) (offset_of kind)) || int_eq (offset_of (kind_of (8 * width_of kind) (has_offset cards (convention (8 * width_of kind))))) (offset_of kind))
  offset_told array = by_offset (λ xs. adds (array_kind (reshaped_shape kind axes shape) xs) (offset_of kind) ≡ (not (int_eq (offset_of old) (offset_of kind)) || int_eq (offset_of (kind_of (8 * width_of kind) (has_offset cards (convention (8 * width_of kind))))) (offset_of kind)))
      (λ e.
      let same = offset_same written cards (convention (8 * width_of kind)) (lead_written (is_primary shape.class) kind axes shape cards (codes "BZERO   ") is may bzero_unshaped) (lead_written (is_primary shape.class) kind axes shape cards (codes "BSCALE  ") is may bscale_unshaped) in
      ap (λ k. adds k (offset_of kind)) (kind_by_bits kind axes shape written array)
      ∙ (ap (λ b. int_eq (offset_of (kind_of (8 * width_of kind) b)) (offset_of kind)) same
      ∙ ap (λ b. not b || int_eq (offset_of (kind_of (8 * width_of kind) (has_offset cards (convention (8 * width_of kind))))) (offset_of kind)) (sym e)))
      (λ e.
      ap (λ k. adds k (offset_of kind)) (kind_by_bits kind axes shape (with_scaling written (offset_of kind)) array)
      ∙ (ap (λ b. int_eq (offset_of (kind_of (8 * width_of kind) b)) (offset_of kind)) (scaling_gives_offset written (offset_of kind) (convention (8 * width_of kind)) (offset_small kind))
      ∙ (ap (λ z. int_eq z (offset_of kind)) (own_offset kind)
      ∙ (same_number (offset_of kind)
      ∙ ap (λ b. not b || int_eq (offset_of (kind_of (8 * width_of kind) (has_offset cards (convention (8 * width_of kind))))) (offset_of kind)) (sym e)))))

  -- so the cards are told to describe the array by both
  pub described_told : is_array shape.class shape.pcount shape.gcount ≡ true → (after : Shape) (change : Change) (b : Bool)
      → change ≡ Splice 2 (2 + length shape.axes) (shape_cards kind axes) → after ≡ reshaped_shape kind axes shape → b ≡ still_describes after (cards_after cards change)
      → describes_array (reshaped_shape kind axes shape) (offset_of kind) (cards_reshaped old kind axes shape cards)
      ≡ (b && (not (int_eq (offset_of old) (offset_of kind)) || int_eq (offset_of (kind_of (8 * width_of kind) (has_offset cards (convention (8 * width_of kind))))) (offset_of kind)))
  unfolding still_describes cards_after
  described_told array after change b e f g =
      let there : b ≡ same_shape (Ok (reshaped_shape kind axes shape)) (shape_of (is_primary shape.class) written) =
      g ∙ (ap (λ s. still_describes s (cards_after cards change)) f ∙ ap (λ c. still_describes (reshaped_shape kind axes shape) (cards_after cards c)) e) in
      ap (λ t. t && adds (array_kind (reshaped_shape kind axes shape) (cards_reshaped old kind axes shape cards)) (offset_of kind)) (shape_told (reshaped_shape kind axes shape) ∙ sym there)
      ∙ ap (λ t. b && t) (offset_told array)

-- an array may not be made one of too many axes, or too long ones
pub no_axes : (old kind : Kind) (axes : List ℕ) (shape : Shape) (cards : List (List ℕ)) → are_axes axes ≡ false → can_reshape old kind axes shape cards ≡ false
unfolding can_reshape
no_axes old kind axes shape cards e = rw e refl

-- nor where its cards scale otherwise
pub scaled_otherwise : (old kind : Kind) (axes : List ℕ) (shape : Shape) (cards : List (List ℕ)) → scales_otherwise old kind cards ≡ true → can_reshape old kind axes shape cards ≡ false
unfolding can_reshape
scaled_otherwise old kind axes shape cards e = second (are_axes axes) (scales_otherwise old kind cards) _ e
  where
    second : (a s d : Bool) → s ≡ true → (a && not s && d) ≡ false
    second true true d e = refl
    second false true d e = refl
    second a false d e = absurd (cc)

-- nor where they don't describe it then
pub not_described : (old kind : Kind) (axes : List ℕ) (shape : Shape) (cards : List (List ℕ)) → describes_array (reshaped_shape kind axes shape) (offset_of kind) (cards_reshaped old kind axes shape cards) ≡ false → can_reshape old kind axes shape cards ≡ false
unfolding can_reshape
not_described old kind axes shape cards e = third (are_axes axes && not (scales_otherwise old kind cards)) _ e
  where
    third : (a d : Bool) → d ≡ false → (a && d) ≡ false
    third true d e = e
    third false d e = refl

-- else it may
pub may_be : (old kind : Kind) (axes : List ℕ) (shape : Shape) (cards : List (List ℕ)) → are_axes axes ≡ true → scales_otherwise old kind cards ≡ false
    → describes_array (reshaped_shape kind axes shape) (offset_of kind) (cards_reshaped old kind axes shape cards) ≡ true → can_reshape old kind axes shape cards ≡ true
unfolding can_reshape
may_be old kind axes shape cards may e d = rw (may, e, d) refl

-- the same array is described alike
pub told_same : (axes : List ℕ) (old o kind k : Kind) (shape s : Shape) (header x : Header) → o ≡ old → k ≡ kind → s ≡ shape → x ≡ header
    → describes_array (reshaped_shape k axes s) (offset_of k) (cards_reshaped o k axes s x.cards) ≡ describes_array (reshaped_shape kind axes shape) (offset_of kind) (cards_reshaped old kind axes shape header.cards)
told_same axes old o kind k shape s header x a b c d = rw (a, b, c, d) refl

-- the cards of a shape stand there
pub splice_in_range : (primary : Bool) (cards new : List (List ℕ)) (shape : Shape) (change : Change) → shape_of primary cards ≡ Ok shape → change ≡ Splice 2 (2 + length shape.axes) new → IsInRange cards change
unfolding IsInRange
splice_in_range primary cards new shape change is e =
    let within = described_within primary cards shape (described primary cards shape is) in
    subst (IsInRange cards) (sym e) (omega arith, omega (arith, within))

-- the cards that come end no header
pub shape_not_end : (kind : Kind) (axes : List ℕ) (n : ℕ) (change : Change) (new : List (List ℕ)) → are_axes axes ≡ true → change ≡ Splice 2 n (shape_cards kind axes) → new ≡ new_cards change → All (λ card. IsEnd card → ⊥) new
unfolding new_cards
shape_not_end kind axes n change new may e f =
    subst (All (λ card. IsEnd card → ⊥)) (sym (f ∙ ap new_cards e)) (All-weaker IsInnerCard (λ card. IsEnd card → ⊥) (λ card i. i.not_end) (shape_cards kind axes) (shape_cards_inner kind axes may))

-- and describe the shape
pub plan_kept : (kind : Kind) (axes : List ℕ) (shape : Shape) (cards : List (List ℕ)) (plan : Reshaping) (new : List (List ℕ)) → IsPlan kind axes shape cards plan → shape_of (is_primary shape.class) cards ≡ Ok shape → new ≡ new_cards plan.change
    → IsTrue (still_describes plan.shape (spliced cards 2 (2 + length shape.axes) new))
unfolding still_describes new_cards
plan_kept kind axes shape cards plan new p is e =
    let can = can_parts plan.old kind axes shape cards p.can in
    let after = reshaped_shape kind axes shape in
    let told = sym (shape_told plan.old kind axes shape cards is can.axes_may after) ∙ can.shaped in
    let same : new ≡ shape_cards kind axes = e ∙ ap new_cards p.planned.change in
    rw (p.planned.after, same) told

-- BSCALE and BZERO are written where the offset is another
pub scaling_some : (old kind : Kind) (s : Scaling) → Some s ≡ scaling_for old kind → (int_eq (offset_of old) (offset_of kind) ≡ false) × (s.scale ≡ written_number (codes "BSCALE  ") (pos 1)) × (s.zero ≡ written_number (codes "BZERO   ") (offset_of kind))
scaling_some old kind s e = by (int_eq (offset_of old) (offset_of kind)) _ e
  where
    by : (t : Bool) (some : Scaling) → Some s ≡ (if t then None else Some some) → (t ≡ false) × (s.scale ≡ some.scale) × (s.zero ≡ some.zero)
    by true some e = absurd (cc)
    by false some e = let same : s ≡ some = cc in (refl, ap (λ (x : Scaling). x.scale) same, ap (λ (x : Scaling). x.zero) same)

-- else not
pub scaling_none : (old kind : Kind) (scaling : Option Scaling) → scaling ≡ scaling_for old kind → scaling ≡ None → int_eq (offset_of old) (offset_of kind) ≡ true
scaling_none old kind scaling e f = by (int_eq (offset_of old) (offset_of kind)) _ (sym f ∙ e)
  where
    by : (t : Bool) (some : Scaling) → None ≡ (if t then None else Some some) → t ≡ true
    by true some e = refl
    by false some e = absurd (cc)

-- room is left for both
pub room_left : (cards new : List (List ℕ)) (m room room' : ℕ) → length new ≤ room + m → 3 + m ≤ length cards → room' + length (spliced cards 2 (2 + m) new) ≡ room + length cards → 2 ≤ room'
room_left cards new m room room' few within e = omega (arith, few, within, e, length-spliced cards new 2 (2 + m) (omega arith) (omega (arith, within)))

-- so is what a reshape doesn't need
pub room_stays : (cards new : List (List ℕ)) (m room room' : ℕ) → 3 + m ≤ length cards → room' + length (spliced cards 2 (2 + m) new) ≡ room + length cards → room + (2 + m) ≡ room' + length new
room_stays cards new m room room' within e = omega (arith, within, e, length-spliced cards new 2 (2 + m) (omega arith) (omega (arith, within)))

-- a header with cards that are written one after the other
pub scaled_header : (h r s t : Header) (written scale zero : List (List ℕ)) (offset : ℤ) → r ≡ with_cards h written
    → s ≡ with_cards r (cards_after r.cards (replacing (length r.cards) (keyword_cards r.cards (codes "BSCALE  ")) scale))
    → t ≡ with_cards s (cards_after s.cards (replacing (length s.cards) (keyword_cards s.cards (codes "BZERO   ")) zero))
    → scale ≡ written_number (codes "BSCALE  ") (pos 1) → zero ≡ written_number (codes "BZERO   ") offset → t ≡ with_cards h (with_scaling written offset)
scaled_header h r s t written scale zero offset a b c d e = rw (c, b, a, d, e) refl

-- the first of both is written
pub one_header : (h r s : Header) (written scale : List (List ℕ)) → r ≡ with_cards h written
    → s ≡ with_cards r (cards_after r.cards (replacing (length r.cards) (keyword_cards r.cards (codes "BSCALE  ")) scale))
    → scale ≡ written_number (codes "BSCALE  ") (pos 1) → s.cards ≡ with_number written (codes "BSCALE  ") (pos 1)
one_header h r s written scale a b d = rw (b, a, d) refl

-- the cards of an array that is made another, where the offset is another
pub cards_scaled : (old kind : Kind) (axes : List ℕ) (shape : Shape) (cards : List (List ℕ)) → int_eq (offset_of old) (offset_of kind) ≡ false → cards_reshaped old kind axes shape cards ≡ with_scaling (spliced cards 2 (2 + length shape.axes) (shape_cards kind axes)) (offset_of kind)
unfolding cards_reshaped
cards_scaled old kind axes shape cards e = cond-false (int_eq (offset_of old) (offset_of kind)) (spliced cards 2 (2 + length shape.axes) (shape_cards kind axes)) (with_scaling (spliced cards 2 (2 + length shape.axes) (shape_cards kind axes)) (offset_of kind)) e

-- and where it stays
pub cards_kept : (old kind : Kind) (axes : List ℕ) (shape : Shape) (cards : List (List ℕ)) → int_eq (offset_of old) (offset_of kind) ≡ true → cards_reshaped old kind axes shape cards ≡ spliced cards 2 (2 + length shape.axes) (shape_cards kind axes)
unfolding cards_reshaped
cards_kept old kind axes shape cards e = cond-true (int_eq (offset_of old) (offset_of kind)) (spliced cards 2 (2 + length shape.axes) (shape_cards kind axes)) (with_scaling (spliced cards 2 (2 + length shape.axes) (shape_cards kind axes)) (offset_of kind)) e

-- both keywords are read where the offset is another
pub reads_scaling : (old kind : Kind) (cards : List (List ℕ)) → int_eq (offset_of old) (offset_of kind) ≡ false → scaling_reads old kind cards ≡ keyword_reads cards (codes "BSCALE  ") + keyword_reads cards (codes "BZERO   ")
reads_scaling old kind cards e = cond-false (int_eq (offset_of old) (offset_of kind)) 0 (keyword_reads cards (codes "BSCALE  ") + keyword_reads cards (codes "BZERO   ")) e

-- the cards that come are those of the shape
pub new_are : (kind : Kind) (axes : List ℕ) (n : ℕ) (change : Change) (new : List (List ℕ)) → change ≡ Splice 2 n (shape_cards kind axes) → new ≡ new_cards change → new ≡ shape_cards kind axes
unfolding new_cards
new_are kind axes n change new e f = f ∙ ap new_cards e

-- two of them, and one for each axis
pub change_brings : (kind : Kind) (axes : List ℕ) (n : ℕ) (change : Change) → are_axes axes ≡ true → change ≡ Splice 2 n (shape_cards kind axes) → length (new_cards change) ≡ 2 + length axes
unfolding new_cards
change_brings kind axes n change may e = ap (λ (made : Change). length (new_cards made)) e ∙ (ap length (shape_cards_are kind axes may) ∙ omega (arith, axis_list_length 1 axes))

pub ruleset plan_steps = (shape_told, offset_told, splice_in_range, kind_of_array)
