-- How many cards there are where an array is made another.
use Rattle.std.proofs.Common.{◌≡◌, ℕ, zero, suc, ◌+◌, ◌-◌, ◌^◌, ◌<◌, ◌≤◌, Bool, true, false, List, [], ◌∷◌, ◌++◌, length, get_or, take, drop, codes, refl, ap, sym, ◌∙◌, subst, arith, All, Option, None, Some}
use Rattle.std.specs.Prelude.{◌≢◌, if◌then◌else◌, is_some, not, pos, Ok}
use Rattle.std.specs.Option.{option_map_or}
use Rattle.std.specs.Ordering.{int_eq}
use Rattle.std.proofs.lemmas.Bool.{cond-false, cond-true}
use Rattle.std.proofs.lemmas.List.{drop-drop, get_or-take, take-append-drop}
use Rattle.std.proofs.lemmas.List.Elements.{All-from_get_or}
use Rattle.std.proofs.lemmas.Option.{slice_get-get_or}
use Rattle.fits_card.specs.Change.{cards_after, spliced}
use Rattle.fits_card.specs.declared.change.Change.{Change}
use Rattle.fits_card.specs.declared.change.Change.TheVariants.{Splice}
use Rattle.fits_card.proofs.ChangeLemmas.{length-spliced}
use Rattle.fits_card.specs.Header.{card_at}
use Rattle.fits_rules.specs.Shape.{first_card, shape_of}
use Rattle.fits_rules.specs.declared.array_shape.Shape.{Shape}
use Rattle.fits_rules.proofs.DescribesLemmas.{described}
use Rattle.fits_rules.proofs.KeepingLemmas.{described_within}
use Rattle.fits_image.specs.ImageCards.{are_axes, shape_cards}
use Rattle.fits_image.specs.Kind.{offset_of}
use Rattle.fits_image.specs.declared.kind.Kind.{Kind}
use Rattle.fits_image.proofs.ImageCardLemmas.{axes_from, axis_list_length, bscale_name, bzero_name, shape_cards_are}
use Rattle.fits_image.proofs.LeadFromLemmas.{from_lead}
use Rattle.fits_hdu.specs.Keyword.{own_count}
use Rattle.fits_hdu.specs.Work.{keyword_reads}
use Rattle.fits_hdu.specs.Reshape.{IsUnshaped, cards_reshaped, with_number, with_scaling}
use Rattle.fits_hdu.specs.Reshaping.{scaling_for}
use Rattle.fits_hdu.specs.declared.scaling.Scaling.{Scaling}
use Rattle.fits_hdu.proofs.OtherLeadLemmas.{Differs, differ_after, differ_before, past_others}
use Rattle.fits_hdu.proofs.PlanLemmas.{bscale_unshaped, bzero_unshaped}
use Rattle.fits_hdu.proofs.ReshapeLemmas.{offset_small}
use Rattle.fits_hdu.proofs.ScalingLemmas.{number_count, number_keeps_count, number_keeps_reads}
use Rattle.fits_hdu.proofs.SettingLemmas.{chain_from, count_by_chain, reads_by_chain}
use Rattle.fits_passing.proofs.ShapeLemmas.{named_at}

-- a name that begins with B is not that of the first card
first_differs : (primary : Bool) (cards : List (List ℕ)) (card first name : List ℕ) → get_or name 0 0 ≡ 66 → card_at cards 1 ≡ Some card → first_card primary cards ≡ Some first → Differs name card
unfolding first_card
first_differs true cards card first name b at e same = let letter = ap (λ (x : List ℕ). get_or x 0 0) (sym (named_at cards 1 (codes "SIMPLE  ") card first at e) ∙ same) in omega (arith, letter, b)
first_differs false cards card first name b at e same = let letter = ap (λ (x : List ℕ). get_or x 0 0) (sym (named_at cards 1 (codes "XTENSION") card first at e) ∙ same) in omega (arith, letter, b)

-- the names differ
scale_not_zero : codes "BSCALE  " ≢ codes "BZERO   "
scale_not_zero e = let letter = ap (λ (x : List ℕ). get_or x 1 0) e in omega (arith, letter)

continue_not_zero : codes "CONTINUE" ≢ codes "BZERO   "
continue_not_zero e = let letter = ap (λ (x : List ℕ). get_or x 0 0) e in omega (arith, letter)

module _ (primary : Bool) (kind : Kind) (axes : List ℕ) (shape : Shape) (cards : List (List ℕ)) (is : shape_of primary cards ≡ Ok shape) (may : are_axes axes ≡ true) where
  -- the cards with BITPIX, NAXIS and the axes written anew
  abbrev written : List (List ℕ)
  written = spliced cards 2 (2 + length shape.axes) (shape_cards kind axes)

  -- the first card has another name
  front_differs : (name : List ℕ) → get_or name 0 0 ≡ 66 → All (Differs name) (take 1 cards)
  front_differs name b =
      let d = described primary cards shape is in
      let within = described_within primary cards shape d in
      let at : card_at cards 1 ≡ Some (get_or cards 0 []) = slice_get-get_or cards 0 [] (omega (arith, within)) in
      All-from_get_or (Differs name) (take 1 cards) [] (λ i few. only i few (first_differs primary cards (get_or cards 0 []) d.first name b at d.begins))
    where
      only : (i : ℕ) → i < length (take 1 cards) → Differs name (get_or cards 0 []) → Differs name (get_or (take 1 cards) i [])
      only zero few p = subst (Differs name) (sym (get_or-take 1 cards 0 [] (omega arith))) p
      only (suc i) few p = absurd (omega (arith, few, length-take-le-one cards))
        where
          length-take-le-one : (xs : List (List ℕ)) → length (take 1 xs) ≤ 1
          length-take-le-one [] = omega arith
          length-take-le-one (x ∷ xs) = omega arith

  -- so the lead and what follows it are the same
  lead_from_written : (name : List ℕ) → get_or name 0 0 ≡ 66 → IsUnshaped name → from_lead name written ≡ from_lead name cards
  lead_from_written name b other =
      let front : List (List ℕ) = take 1 cards in
      let gone : List (List ℕ) = take (2 + length shape.axes) (drop 1 cards) in
      let back : List (List ℕ) = drop (1 + (2 + length shape.axes)) cards in
      let rest : drop 1 cards ≡ gone ++ back = sym (ap (λ xs. gone ++ xs) (sym (drop-drop (2 + length shape.axes) 1 cards)) ∙ take-append-drop (2 + length shape.axes) (drop 1 cards)) in
      let was : cards ≡ front ++ (gone ++ back) = sym (ap (λ xs. front ++ xs) (sym rest) ∙ take-append-drop 1 cards) in
      let first = front_differs name b in
      let before : from_lead name cards ≡ from_lead name back = ap (from_lead name) was ∙ (past_others name front (gone ++ back) first ∙ past_others name gone back (differ_before primary cards shape name (described primary cards shape is) other)) in
      let after : from_lead name written ≡ from_lead name back = past_others name front (shape_cards kind axes ++ back) first ∙ past_others name (shape_cards kind axes) back (differ_after name other kind axes may) in
      after ∙ sym before

  -- a keyword has as many cards
  count_written : (name : List ℕ) → get_or name 0 0 ≡ 66 → IsUnshaped name → own_count written name ≡ own_count cards name
  count_written name b other = count_by_chain written name ∙ (ap (λ from. option_map_or (λ n. 1 + (n - 1)) (chain_from from) 0) (lead_from_written name b other) ∙ sym (count_by_chain cards name))

  -- and is read by as many
  pub reads_written : (name : List ℕ) → get_or name 0 0 ≡ 66 → IsUnshaped name → keyword_reads written name ≡ keyword_reads cards name
  reads_written name b other = reads_by_chain written name ∙ (ap (λ from. option_map_or (λ n. n + 1) (chain_from from) 0) (lead_from_written name b other) ∙ sym (reads_by_chain cards name))

  -- BZERO too, where BSCALE was set
  pub reads_scaled : keyword_reads (with_number written (codes "BSCALE  ") (pos 1)) (codes "BZERO   ") ≡ keyword_reads cards (codes "BZERO   ")
  reads_scaled = number_keeps_reads (codes "BSCALE  ") (pos 1) written bscale_name (omega arith) (codes "BZERO   ") scale_not_zero continue_not_zero ∙ reads_written (codes "BZERO   ") refl bzero_unshaped

  -- where the offset stays no other card comes or goes
  pub count_same : (old : Kind) → int_eq (offset_of old) (offset_of kind) ≡ true → length (cards_reshaped old kind axes shape cards) ≡ length written
  unfolding cards_reshaped
  count_same old e = ap length (cond-true (int_eq (offset_of old) (offset_of kind)) written (with_scaling written (offset_of kind)) e)

  -- else two come, and those of BSCALE and BZERO go
  pub count_scaled : (old : Kind) → int_eq (offset_of old) (offset_of kind) ≡ false → length (cards_reshaped old kind axes shape cards) + (own_count cards (codes "BSCALE  ") + own_count cards (codes "BZERO   ")) ≡ length written + 2
  unfolding cards_reshaped
  count_scaled old e =
      let one = with_number written (codes "BSCALE  ") (pos 1) in
      let size = ap length (cond-false (int_eq (offset_of old) (offset_of kind)) written (with_scaling written (offset_of kind)) e) in
      let scale = number_count (codes "BSCALE  ") (pos 1) written bscale_name (omega arith) in
      let zero = number_count (codes "BZERO   ") (offset_of kind) one bzero_name (offset_small kind) in
      let kept = number_keeps_count (codes "BSCALE  ") (pos 1) written bscale_name (omega arith) (codes "BZERO   ") scale_not_zero continue_not_zero in
      omega (arith, size, scale, zero, kept, count_written (codes "BSCALE  ") refl bscale_unshaped, count_written (codes "BZERO   ") refl bzero_unshaped)

-- whether BSCALE and BZERO are written is whether the offset is another
pub scaling_told : (old kind : Kind) (scaling : Option Scaling) (b : Bool) → scaling ≡ scaling_for old kind → is_some scaling ≡ not b → int_eq (offset_of old) (offset_of kind) ≡ b
scaling_told old kind scaling b e f = as_not (int_eq (offset_of old) (offset_of kind)) b (sym (some_if (int_eq (offset_of old) (offset_of kind)) _) ∙ (sym (ap is_some e) ∙ f))
  where
    some_if : (t : Bool) (some : Scaling) → is_some (if t then None else Some some) ≡ not t
    some_if true some = refl
    some_if false some = refl

    as_not : (t b : Bool) → not t ≡ not b → t ≡ b
    as_not true true e = refl
    as_not false false e = refl
    as_not true false e = cc
    as_not false true e = cc

module _ (primary : Bool) (kind : Kind) (axes : List ℕ) (shape : Shape) (cards : List (List ℕ)) (change : Change) (n : ℕ) (is : shape_of primary cards ≡ Ok shape) (may : are_axes axes ≡ true) (splice : change ≡ Splice 2 (2 + length shape.axes) (shape_cards kind axes)) (counted : n ≡ length (cards_after cards change)) where
  -- the cards that are written anew are counted
  pub written_counted : n ≡ length (spliced cards 2 (2 + length shape.axes) (shape_cards kind axes))
  unfolding cards_after
  written_counted = counted ∙ ap (λ c. length (cards_after cards c)) splice

  -- they are few
  pub written_few : length cards < 2 ^ 63 → n + 2 < 2 ^ 64
  written_few few =
      let are = axes_from axes may in
      let size : length (shape_cards kind axes) ≡ 2 + length axes = ap length (shape_cards_are kind axes may) ∙ omega (arith, axis_list_length 1 axes) in
      let within = described_within primary cards shape (described primary cards shape is) in
      omega (arith, written_counted, size, are.few, few, length-spliced cards (shape_cards kind axes) 2 (2 + length shape.axes) (omega arith) (omega (arith, within)))

  -- and what is left is as many as there are then
  pub scaled_counted : (old : Kind) (scale offset : ℕ) → int_eq (offset_of old) (offset_of kind) ≡ false → scale ≡ own_count cards (codes "BSCALE  ") → offset ≡ own_count cards (codes "BZERO   ")
      → (scale ≤ n + 2) × (offset ≤ n + 2 - scale) × (n + 2 - scale - offset ≡ length (cards_reshaped old kind axes shape cards))
  scaled_counted old scale offset e f g =
      let all = count_scaled primary kind axes shape cards is may old e in
      (omega (arith, all, written_counted, f, g), omega (arith, all, written_counted, f, g), omega (arith, all, written_counted, f, g))
