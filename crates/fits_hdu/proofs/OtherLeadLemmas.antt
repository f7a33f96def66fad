-- The leads of names that no card has which is written anew.
use Rattle.std.proofs.Common.{◌≡◌, inl, inr, ℕ, zero, suc, ◌+◌, ◌-◌, ◌*◌, ◌<◌, Bool, true, false, List, [], ◌∷◌, ◌++◌, length, get_or, take, drop, codes, refl, ap, sym, ◌∙◌, subst, arith, All, Some}
use Rattle.std.specs.Prelude.{◌≢◌, pos, Ok}
use Rattle.std.specs.List.{slice_get}
use Rattle.std.specs.Option.{option_map}
use Rattle.std.specs.Ordering.{int_eq}
use Rattle.std.proofs.lemmas.Bool.{cases_Bool, cond-false, cond-true, false_from_ne_true}
use Rattle.std.proofs.lemmas.List.{drop-drop, get_or-drop, get_or-take, length-drop, length-take-le, take-append-drop}
use Rattle.std.proofs.lemmas.List.Elements.{All-cons, All-from_get_or, All-head, All-nil, All-tail}
use Rattle.std.proofs.lemmas.Option.{slice_get-get_or}
use Rattle.fits_card.specs.Card.{keyword_name}
use Rattle.fits_card.specs.Change.{spliced}
use Rattle.fits_card.specs.Header.{card_at}
use Rattle.fits_rules.specs.Lead.{is_value_of, lead_card}
use Rattle.fits_rules.specs.Shape.{Describes, axis_name, shape_of}
use Rattle.fits_rules.specs.declared.array_shape.Shape.{Shape}
use Rattle.fits_rules.proofs.DescribesLemmas.{described}
use Rattle.fits_rules.proofs.KeepingLemmas.{described_within}
use Rattle.fits_image.specs.ImageCards.{are_axes, shape_cards}
use Rattle.fits_image.specs.Kind.{offset_of, width_of}
use Rattle.fits_image.specs.declared.kind.Kind.{Kind}
use Rattle.fits_image.proofs.ImageCardLemmas.{AreAxesFrom, axes_from, axis_list, axis_name_is, bitpix_name, bscale_name, bzero_name, first_small, more_axes, naxis_name, shape_cards_are, width_most}
use Rattle.fits_image.proofs.LeadFromLemmas.{From, from_lead, from_lead-append, lead_card_is}
use Rattle.fits_image.proofs.NumberCardLemmas.{number_card, number_card_is}
use Rattle.fits_hdu.specs.Reshape.{IsUnshaped, ReshapingLeavesLeads, cards_reshaped, with_number, with_scaling}
use Rattle.fits_hdu.proofs.ReshapeLemmas.{offset_small}
use Rattle.fits_hdu.proofs.ScalingLemmas.{number_keeps_lead}
use Rattle.fits_hdu.proofs.SettingLemmas.{card_or_later, lead_parts}
use Rattle.fits_passing.proofs.ShapeLemmas.{axis_named, bitpix_named, naxis_named}

-- a card has another name
abbrev pub Differs : List ℕ → List ℕ → Type 0
Differs name card = keyword_name card ≢ name

-- cards of other names hold no lead
pub past_others : (name : List ℕ) (xs ys : List (List ℕ)) → All (Differs name) xs → from_lead name (xs ++ ys) ≡ from_lead name ys
past_others name [] ys p = refl
past_others name (x ∷ xs) ys p =
    let no : is_value_of name x ≡ false = false_from_ne_true (is_value_of name x) (λ e. All-head (Differs name) x xs p (lead_parts name x e).0) in
    cond-false (is_value_of name x) _ _ no ∙ past_others name xs ys (All-tail (Differs name) x xs p)

-- so a splice of such cards by others leaves the lead
lead_spliced : (cards new : List (List ℕ)) (name : List ℕ) (place removed : ℕ) → All (Differs name) (take removed (drop (place - 1) cards)) → All (Differs name) new → lead_card (spliced cards place removed new) name ≡ lead_card cards name
lead_spliced cards new name place removed taken brought =
    let front : List (List ℕ) = take (place - 1) cards in
    let gone : List (List ℕ) = take removed (drop (place - 1) cards) in
    let back : List (List ℕ) = drop (place - 1 + removed) cards in
    let rest : drop (place - 1) cards ≡ gone ++ back = sym (ap (λ xs. gone ++ xs) (sym (drop-drop removed (place - 1) cards)) ∙ take-append-drop removed (drop (place - 1) cards)) in
    let was : cards ≡ front ++ (gone ++ back) = sym (ap (λ xs. front ++ xs) (sym rest) ∙ take-append-drop (place - 1) cards) in
    let first = from_lead name front in
    let before = ap (from_lead name) was ∙ from_lead-append name front (gone ++ back) in
    let after = from_lead-append name front (new ++ back) in
    let later : from_lead name (new ++ back) ≡ from_lead name (gone ++ back) = past_others name new back brought ∙ sym (past_others name gone back taken) in
    lead_card_is (spliced cards place removed new) name
    ∙ (ap (option_map (λ (f : From). f.0)) after
    ∙ (card_or_later first _ _ (new ++ back) (gone ++ back) later
    ∙ (sym (ap (option_map (λ (f : From). f.0)) before) ∙ sym (lead_card_is cards name))))

-- a card of a shape has one of its names
module _ (primary : Bool) (cards : List (List ℕ)) (shape : Shape) (name : List ℕ) (d : Describes primary cards shape) (other : IsUnshaped name) where
  -- the card at a place
  here : (place : ℕ) → place < length cards → card_at cards (place + 1) ≡ Some (get_or cards place [])
  here place within = ap (slice_get cards) (back place) ∙ slice_get-get_or cards place [] within
    where
      back : (n : ℕ) → n + 1 - 1 ≡ n
      back n = omega arith

  -- it isn't of another name
  differs_at : (i : ℕ) → i < 2 + length shape.axes → Differs name (get_or cards (1 + i) [])
  differs_at zero few e = other.bitpix (sym (bitpix_named cards (get_or cards 1 []) shape.bitpix (here 1 (omega (arith, described_within primary cards shape d))) d.bitpix) ∙ e)
  differs_at (suc zero) few e = other.naxis (sym (naxis_named cards (get_or cards 2 []) (length shape.axes) (here 2 (omega (arith, described_within primary cards shape d))) d.naxis) ∙ e)
  differs_at (suc (suc k)) few e =
      let inside : k < length shape.axes = omega (arith, few) in
      let at : card_at cards (3 + (k + 1)) ≡ Some (get_or cards (3 + k) []) = ap (card_at cards) (next k) ∙ here (3 + k) (omega (arith, inside, described_within primary cards shape d)) in
      other.axis (k + 1) (sym (axis_named cards (get_or cards (3 + k) []) (k + 1) (get_or shape.axes k 0) at (d.axes k inside ∙ slice_get-get_or shape.axes k 0 inside)) ∙ (ap (λ p. keyword_name (get_or cards p [])) (same k) ∙ e))
    where
      next : (n : ℕ) → 3 + (n + 1) ≡ 3 + n + 1
      next n = omega arith

      same : (n : ℕ) → 3 + n ≡ 1 + suc (suc n)
      same n = omega arith

  -- so none of those that go is
  pub differ_before : All (Differs name) (take (2 + length shape.axes) (drop 1 cards))
  differ_before =
      let xs = take (2 + length shape.axes) (drop 1 cards) in
      let few : length xs ≡ 2 + length shape.axes = length-take-le (2 + length shape.axes) (drop 1 cards) (omega (arith, length-drop 1 cards, described_within primary cards shape d)) in
      All-from_get_or (Differs name) xs [] (λ i b.
      let inside : i < 2 + length shape.axes = omega (arith, b, few) in
      subst (Differs name) (sym (get_or-take (2 + length shape.axes) (drop 1 cards) i [] inside ∙ get_or-drop 1 cards i [])) (differs_at i inside))

-- nor is one of those that come
module _ (name : List ℕ) (other : IsUnshaped name) where
  axes_differ : (n : ℕ) (axes : List ℕ) → AreAxesFrom n axes → All (Differs name) (axis_list n axes)
  axes_differ n [] are = All-nil (Differs name)
  axes_differ n (axis ∷ axes) are =
      let card = number_card (axis_name n) (pos axis) in
      let is = number_card_is (axis_name n) (pos axis) (axis_name_is n (omega (arith, are.few))) (omega (arith, first_small n axis axes are)) in
      All-cons (Differs name) card (axis_list (n + 1) axes) (λ e. other.axis n (sym is.named ∙ e)) (axes_differ (n + 1) axes (more_axes n axis axes are))

  pub differ_after : (kind : Kind) (axes : List ℕ) → are_axes axes ≡ true → All (Differs name) (shape_cards kind axes)
  differ_after kind axes e =
      let are = axes_from axes e in
      let bitpix = number_card_is (codes "BITPIX  ") (pos (8 * width_of kind)) bitpix_name (omega (arith, width_most kind)) in
      let naxis = number_card_is (codes "NAXIS   ") (pos (length axes)) naxis_name (omega (arith, are.few)) in
      subst (All (Differs name)) (sym (shape_cards_are kind axes e))
      (All-cons (Differs name) (number_card (codes "BITPIX  ") (pos (8 * width_of kind))) (number_card (codes "NAXIS   ") (pos (length axes)) ∷ axis_list 1 axes) (λ f. other.bitpix (sym bitpix.named ∙ f))
      (All-cons (Differs name) (number_card (codes "NAXIS   ") (pos (length axes))) (axis_list 1 axes) (λ f. other.naxis (sym naxis.named ∙ f)) (axes_differ 1 axes are)))

-- the leads of names of no card of a shape stay where those cards are written anew
pub lead_written : (primary : Bool) (kind : Kind) (axes : List ℕ) (shape : Shape) (cards : List (List ℕ)) (name : List ℕ) → shape_of primary cards ≡ Ok shape → are_axes axes ≡ true → IsUnshaped name → lead_card (spliced cards 2 (2 + length shape.axes) (shape_cards kind axes)) name ≡ lead_card cards name
lead_written primary kind axes shape cards name is may other =
    lead_spliced cards (shape_cards kind axes) name 2 (2 + length shape.axes) (differ_before primary cards shape name (described primary cards shape is) other) (differ_after name other kind axes may)

-- and so where BSCALE and BZERO are too
pub reshaping_leaves_leads : ReshapingLeavesLeads
unfolding cards_reshaped
reshaping_leaves_leads primary old kind axes shape cards name is may other =
    let written : List (List ℕ) = spliced cards 2 (2 + length shape.axes) (shape_cards kind axes) in
    let one : List (List ℕ) = with_number written (codes "BSCALE  ") (pos 1) in
    let same : lead_card written name ≡ lead_card cards name = lead_written primary kind axes shape cards name is may other.unshaped in
    let scaled : lead_card (with_scaling written (offset_of kind)) name ≡ lead_card written name =
    number_keeps_lead (codes "BZERO   ") (offset_of kind) one bzero_name (offset_small kind) name other.zero other.link ∙ number_keeps_lead (codes "BSCALE  ") (pos 1) written bscale_name (omega arith) name other.scale other.link in
    elim (cases_Bool (int_eq (offset_of old) (offset_of kind))) [
      | inl e ↦ ap (λ xs. lead_card xs name) (cond-true (int_eq (offset_of old) (offset_of kind)) written (with_scaling written (offset_of kind)) e) ∙ same
      | inr e ↦ ap (λ xs. lead_card xs name) (cond-false (int_eq (offset_of old) (offset_of kind)) written (with_scaling written (offset_of kind)) e) ∙ (scaled ∙ same)
    ]
