-- BSCALE and BZERO, set to numbers: the shape stays, and the offset is there.
use Rattle.std.proofs.Common.{All, inl, inr, ◌≡◌, ℕ, ◌+◌, ◌-◌, length, ◌^◌, ◌<◌, Bool, true, false, List, [], get_or, codes, refl, ap, sym, ◌∙◌, subst, arith, Option, Some}
use Rattle.std.specs.Prelude.{◌≢◌, ◌&&◌, ◌↔◌, ℤ, pos, unsigned_abs, is_none, unwrap_or, IsTrue, Ok}
use Rattle.std.specs.Option.{option_map, option_map_or}
use Rattle.std.specs.Ordering.{int_eq}
use Rattle.std.proofs.lemmas.List.Elements.{All-cons, All-nil}
use Rattle.std.proofs.lemmas.Slice.Eq.{bytes_eq-Decides}
use Rattle.fits_card.specs.Card.{IsEnd, is_end, keyword_name}
use Rattle.fits_card.specs.Name.{end_name}
use Rattle.fits_header.specs.State.{still_describes}
use Rattle.fits_rules.specs.Class.{is_primary}
use Rattle.fits_rules.proofs.SameShapeLemmas.{same_shape-Decides}
use Rattle.std.proofs.lemmas.Bool.{or_right}
use Rattle.fits_card.specs.Change.{cards_after, new_cards}
use Rattle.fits_card.specs.declared.change.Change.{Change}
use Rattle.fits_rules.specs.Denotes.{card_says_number, lead_says_number}
use Rattle.fits_rules.specs.Lead.{lead_card}
use Rattle.fits_rules.specs.Shape.{shape_of}
use Rattle.fits_rules.specs.declared.array_shape.Shape.{Shape}
use Rattle.fits_image.specs.ImageCards.{written_number}
use Rattle.fits_image.specs.Kind.{is_unscaled}
use Rattle.fits_image.proofs.ImageCardLemmas.{bscale_name, bzero_name}
use Rattle.fits_image.proofs.LeadFromLemmas.{From, lead_card_is}
use Rattle.fits_image.proofs.NumberCardLemmas.{IsValueName, number_card, number_card_denotes_alone, number_card_is, number_is_one_card}
use Rattle.fits_hdu.specs.Keyword.{keyword_cards, own_count, replacing}
use Rattle.fits_hdu.specs.Stamp.{IsOneCard}
use Rattle.fits_hdu.specs.Work.{keyword_reads}
use Rattle.fits_hdu.specs.declared.keyword_cards.KeywordCards.{KeywordCards}
use Rattle.fits_hdu.specs.Reshape.{IsScaleName, with_number, with_scaling, ScalingGivesOffset, ScalingKeepsShapes}
use Rattle.fits_hdu.proofs.SettingLemmas.{IsSet, count_by_chain, reads_by_chain, set_is, set_keeps, set_leads}
use Rattle.fits_hdu.proofs.StampingLemmas.{set_cards, set_length, set_one}
use Rattle.fits_hdu.proofs.StampLemmas.{IsLow, bscale_low, bzero_low, set_kept_shape, set_keeps_shape}

module _ (name : List ℕ) (z : ℤ) (cards : List (List ℕ)) (named : IsValueName name) (small : unsigned_abs z < 2 ^ 64) where
  -- its one card stands there
  number_set : IsSet name cards (with_number cards name z) (number_card name z)
  number_set = subst (λ xs. IsSet name cards (set_cards cards name xs) (number_card name z)) (sym (number_is_one_card name z named.size small)) (set_is name cards (number_card name z))

  -- the shape stays
  pub number_keeps_shape : (primary : Bool) (shape : Shape) → IsLow name → (shape_of primary cards ≡ Ok shape) ↔ (shape_of primary (with_number cards name z) ≡ Ok shape)
  number_keeps_shape primary shape low =
      let card = number_card_is name z named small in (
        λ e. set_keeps_shape primary name cards (with_number cards name z) (number_card name z) shape e low number_set card.named,
        λ e. set_kept_shape primary name cards (with_number cards name z) (number_card name z) shape e low number_set card.named,
      )

  -- the card is the lead
  pub number_leads : lead_card (with_number cards name z) name ≡ Some (number_card name z)
  number_leads =
      let is = number_card_is name z named small in
      lead_card_is (with_number cards name z) name ∙ ap (option_map (λ (f : From). f.0)) (set_leads name cards (with_number cards name z) (number_card name z) number_set is.named is.valued)

  -- and the leads of other keywords stay
  pub number_keeps_lead : (other : List ℕ) → name ≢ other → codes "CONTINUE" ≢ other → lead_card (with_number cards name z) other ≡ lead_card cards other
  number_keeps_lead other p q =
      let is = number_card_is name z named small in
      lead_card_is (with_number cards name z) other ∙ (set_keeps name other cards (with_number cards name z) (number_card name z) number_set p q is.named is.valued).lead ∙ sym (lead_card_is cards other)

  -- and so do the counts of their cards
  pub number_keeps_count : (other : List ℕ) → name ≢ other → codes "CONTINUE" ≢ other → own_count (with_number cards name z) other ≡ own_count cards other
  number_keeps_count other p q =
      let is = number_card_is name z named small in
      count_by_chain (with_number cards name z) other ∙ (ap (λ n. option_map_or (λ n. 1 + (n - 1)) n 0) (set_keeps name other cards (with_number cards name z) (number_card name z) number_set p q is.named is.valued).chain ∙ sym (count_by_chain cards other))

  -- and how many cards they are read by
  pub number_keeps_reads : (other : List ℕ) → name ≢ other → codes "CONTINUE" ≢ other → keyword_reads (with_number cards name z) other ≡ keyword_reads cards other
  number_keeps_reads other p q =
      let is = number_card_is name z named small in
      reads_by_chain (with_number cards name z) other ∙ (ap (λ n. option_map_or (λ n. n + 1) n 0) (set_keeps name other cards (with_number cards name z) (number_card name z) number_set p q is.named is.valued).chain ∙ sym (reads_by_chain cards other))

  -- one card comes, and those of the keyword go
  pub number_count : length (with_number cards name z) + own_count cards name ≡ length cards + 1
  number_count = subst (λ xs. length (set_cards cards name xs) + own_count cards name ≡ length cards + 1) (sym (number_is_one_card name z named.size small)) (set_length cards name (number_card name z))

  -- which denotes that number alone
  pub number_denotes : (after : List (List ℕ)) (other : ℤ) → lead_card after name ≡ Some (number_card name z) → lead_says_number after name other ≡ int_eq z other
  unfolding lead_says_number
  number_denotes after other e = ap (λ o. unwrap_or (option_map (λ card. card_says_number card other) o) false) e ∙ number_card_denotes_alone name z other named small

-- they describe the shape that they did
pub scaling_keeps_shapes : ScalingKeepsShapes
scaling_keeps_shapes primary cards offset shape small =
    let one = with_number cards (codes "BSCALE  ") (pos 1) in
    let scale = number_keeps_shape (codes "BSCALE  ") (pos 1) cards bscale_name (omega arith) primary shape bscale_low in
    let zero = number_keeps_shape (codes "BZERO   ") offset one bzero_name small primary shape bzero_low in
    (λ e. zero.0 (scale.0 e), λ e. scale.1 (zero.1 e))

-- the names differ
zero_not_scale : codes "BZERO   " ≢ codes "BSCALE  "
zero_not_scale e = let letter = ap (λ (x : List ℕ). get_or x 1 0) e in omega (arith, letter)

continue_not_scale : codes "CONTINUE" ≢ codes "BSCALE  "
continue_not_scale e = let letter = ap (λ (x : List ℕ). get_or x 0 0) e in omega (arith, letter)

-- nothing is scaled then
scaling_unscales : (cards : List (List ℕ)) (offset : ℤ) → unsigned_abs offset < 2 ^ 64 → is_unscaled (with_scaling cards offset) ≡ true
scaling_unscales cards offset small =
    let both = with_scaling cards offset in
    let one = with_number cards (codes "BSCALE  ") (pos 1) in
    let lead : lead_card both (codes "BSCALE  ") ≡ Some (number_card (codes "BSCALE  ") (pos 1)) =
    number_keeps_lead (codes "BZERO   ") offset one bzero_name small (codes "BSCALE  ") zero_not_scale continue_not_scale ∙ number_leads (codes "BSCALE  ") (pos 1) cards bscale_name (omega arith) in
    or_right (is_none (lead_card both (codes "BSCALE  "))) (lead_says_number both (codes "BSCALE  ") (pos 1)) (number_denotes (codes "BSCALE  ") (pos 1) cards bscale_name (omega arith) both (pos 1) lead)

-- and have the offset, and no other
pub scaling_gives_offset : ScalingGivesOffset
scaling_gives_offset cards offset other small =
    let both = with_scaling cards offset in
    let one = with_number cards (codes "BSCALE  ") (pos 1) in
    let zero = number_denotes (codes "BZERO   ") offset one bzero_name small both other (number_leads (codes "BZERO   ") offset one bzero_name small) in
    ap (λ b. lead_says_number both (codes "BZERO   ") other && b) (scaling_unscales cards offset small) ∙ (and_same (lead_says_number both (codes "BZERO   ") other) ∙ zero)
  where
    and_same : (b : Bool) → (b && true) ≡ b
    and_same true = refl
    and_same false = refl

-- the keywords of a scaling are low
scale_low : (name : List ℕ) → IsScaleName name → IsLow name
scale_low name (inl e) = rw e bscale_low
scale_low name (inr e) = rw e bzero_low

-- and begin no card that ends a header
scale_no_end : (name card : List ℕ) → IsScaleName name → keyword_name card ≡ name → IsEnd card → ⊥
unfolding is_end
scale_no_end name card keyword e end =
    let is = ap (λ (x : List ℕ). get_or x 0 0) (sym e ∙ (bytes_eq-Decides (keyword_name card) end_name).0 end) in
    name_no_end name keyword is
  where
    name_no_end : (name : List ℕ) → IsScaleName name → get_or name 0 0 ≡ 69 → ⊥
    name_no_end name (inl f) is = let letter = ap (λ (x : List ℕ). get_or x 0 0) f in omega (arith, letter, is)
    name_no_end name (inr f) is = let letter = ap (λ (x : List ℕ). get_or x 0 0) f in omega (arith, letter, is)

-- nor does the change
pub scale_not_end : (name : List ℕ) (new : List (List ℕ)) (change : Change) → IsScaleName name → IsOneCard name new → new_cards change ≡ new → All (λ card. IsEnd card → ⊥) (new_cards change)
scale_not_end name new change keyword one e = rw e (rw one.is (All-cons (λ card. IsEnd card → ⊥) one.card [] (scale_no_end name one.card keyword one.named) (All-nil (λ card. IsEnd card → ⊥))))

-- and the shape stays
pub scale_kept : (shape : Shape) (cards : List (List ℕ)) (name : List ℕ) (new : List (List ℕ)) (old : Option KeywordCards) (change : Change) (count : ℕ) → shape_of (is_primary shape.class) cards ≡ Ok shape → count ≡ length cards → old ≡ keyword_cards cards name → change ≡ replacing count old new
    → IsScaleName name → IsOneCard name new → IsTrue (still_describes shape (cards_after cards change))
unfolding still_describes
scale_kept shape cards name new old change count is n e f keyword one =
    let now : cards_after cards change ≡ set_cards cards name new = rw (f, n, e) refl in
    let kept : shape_of (is_primary shape.class) (set_cards cards name new) ≡ Ok shape = set_keeps_shape (is_primary shape.class) name cards (set_cards cards name new) one.card shape is (scale_low name keyword) (set_one cards name new one) one.named in
    (same_shape-Decides shape (shape_of (is_primary shape.class) (cards_after cards change))).1 (ap (shape_of (is_primary shape.class)) now ∙ kept)

-- a number's cards are one
pub number_one : (name : List ℕ) (z : ℤ) (new : List (List ℕ)) → IsValueName name → unsigned_abs z < 2 ^ 64 → new ≡ written_number name z → IsOneCard name new
number_one name z new named small e =
    let is = number_card_is name z named small in
    record { card = number_card name z; is = e ∙ number_is_one_card name z named.size small; size = is.inner.size; named = is.named; valued = is.valued }
