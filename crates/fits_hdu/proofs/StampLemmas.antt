-- The cards of a stamp, and the HDU that they leave.
use Rattle.std.proofs.Common.{◌≡◌, inl, inr, ℕ, zero, suc, ◌+◌, ◌-◌, ◌<◌, ◌≤◌, Bool, true, false, List, [], ◌∷◌, ◌++◌, length, get_or, take, drop, codes, refl, ap, sym, ◌∙◌, subst, arith, All, Some, ℤ}
use Rattle.std.specs.Prelude.{Ok, ◌≢◌}
use Rattle.std.specs.List.{slice_get}
use Rattle.std.proofs.lemmas.Bool.{cases_lt}
use Rattle.std.proofs.lemmas.List.{drop-drop, length-append}
use Rattle.std.proofs.lemmas.List.Elements.{All-cons, All-head, All-nil, All-tail}
use Rattle.std.proofs.lemmas.Option.{slice_get-get_or}
use Rattle.std.proofs.Math.Seq.{drop-append_seam, get_or-append_seam, take-append_seam}
use Rattle.fits_card.specs.Card.{keyword_name}
use Rattle.fits_card.specs.Change.{spliced}
use Rattle.fits_card.specs.Header.{card_at}
use Rattle.fits_rules.specs.SameShape.{IsUncounted}
use Rattle.fits_rules.specs.Shape.{Describes, axis_name, axis_of, bitpix_of, first_card, naxis_of, shape_of}
use Rattle.fits_rules.specs.declared.array_shape.Shape.{Shape}
use Rattle.fits_rules.proofs.DescribesLemmas.{described}
use Rattle.fits_rules.proofs.KeepingLemmas.{described_within, splice_keeps}
use Rattle.fits_hdu.proofs.SettingLemmas.{IsOwn, IsSet}
use Rattle.fits_passing.proofs.ShapeLemmas.{axis_named, bitpix_named, naxis_named, named_at}

-- the name begins with B to F and not with BI, as those of a stamp and of a scaling, and no name of a shape
pub record IsLow (name : List ℕ) : Type 0 where
  pub above : 65 < get_or name 0 0
  pub below : get_or name 0 0 < 71
  pub second : get_or name 1 0 ≢ 73

-- so no card of a low name stands first
not_first : (primary : Bool) (cards : List (List ℕ)) (card first : List ℕ) → card_at cards 1 ≡ Some card → IsLow (keyword_name card) → first_card primary cards ≡ Some first → ⊥
unfolding first_card
not_first true cards card first at low e = let name = ap (λ (x : List ℕ). get_or x 0 0) (named_at cards 1 (codes "SIMPLE  ") card first at e) in omega (arith, name, low.above, low.below)
not_first false cards card first at low e = let name = ap (λ (x : List ℕ). get_or x 0 0) (named_at cards 1 (codes "XTENSION") card first at e) in omega (arith, name, low.above, low.below)

-- nor where BITPIX does
not_bitpix : (cards : List (List ℕ)) (card : List ℕ) (bitpix : ℤ) → card_at cards 2 ≡ Some card → IsLow (keyword_name card) → bitpix_of cards ≡ Some bitpix → ⊥
not_bitpix cards card bitpix at low e =
    low.second (ap (λ (x : List ℕ). get_or x 1 0) (bitpix_named cards card bitpix at e))

-- nor NAXIS
not_naxis : (cards : List (List ℕ)) (card : List ℕ) (naxis : ℕ) → card_at cards 3 ≡ Some card → IsLow (keyword_name card) → naxis_of cards ≡ Some naxis → ⊥
not_naxis cards card naxis at low e =
    let name = ap (λ (x : List ℕ). get_or x 0 0) (naxis_named cards card naxis at e) in
    omega (arith, name, low.above, low.below)

-- nor an axis
not_axis : (cards : List (List ℕ)) (card : List ℕ) (n axis : ℕ) → card_at cards (3 + n) ≡ Some card → IsLow (keyword_name card) → axis_of cards n ≡ Some axis → ⊥
unfolding axis_name
not_axis cards card n axis at low e =
    let name = ap (λ (x : List ℕ). get_or x 0 0) (axis_named cards card n axis at e) in
    omega (arith, name, low.above, low.below)

-- a card of a low name stands after the last axis
after_axes : (primary : Bool) (cards : List (List ℕ)) (shape : Shape) (card : List ℕ) (place : ℕ) → Describes primary cards shape → 1 ≤ place → card_at cards place ≡ Some card → IsLow (keyword_name card) → 3 + length shape.axes < place
after_axes primary cards shape card place d one at low = elim (cases_lt (3 + length shape.axes) place) [
  | inl after ↦ after
  | inr before ↦ absurd (by_place place one before at)
]
  where
    axis_at : (n : ℕ) → n < length shape.axes → card_at cards (3 + (n + 1)) ≡ Some card → ⊥
    axis_at n inside at = not_axis cards card (n + 1) (get_or shape.axes n 0) at low (d.axes n inside ∙ slice_get-get_or shape.axes n 0 inside)

    later_at : (k : ℕ) → k < length shape.axes → (p : ℕ) → p ≡ 3 + (k + 1) → card_at cards p ≡ Some card → ⊥
    later_at k inside p is at = axis_at k inside (ap (card_at cards) (sym is) ∙ at)

    by_place : (p : ℕ) → 1 ≤ p → p ≤ 3 + length shape.axes → card_at cards p ≡ Some card → ⊥
    by_place zero one within at = omega arith
    by_place (suc zero) one within at = not_first primary cards card d.first at low d.begins
    by_place (suc (suc zero)) one within at = not_bitpix cards card shape.bitpix at low d.bitpix
    by_place (suc (suc (suc zero))) one within at = not_naxis cards card (length shape.axes) at low d.naxis
    by_place (suc (suc (suc (suc k)))) one within at = later_at k (omega arith) (suc (suc (suc (suc k)))) (omega arith) at

-- a card of a low name counts for no shape
low_uncounted : (card : List ℕ) → IsLow (keyword_name card) → IsUncounted card
low_uncounted card low = record {
  no_groups = λ e. let name = ap (λ (x : List ℕ). get_or x 0 0) e in omega (arith, name, low.above, low.below);
  no_pcount = λ e. let name = ap (λ (x : List ℕ). get_or x 0 0) e in omega (arith, name, low.above, low.below);
  no_gcount = λ e. let name = ap (λ (x : List ℕ). get_or x 0 0) e in omega (arith, name, low.above, low.below);
}

-- CONTINUE is low
continue_low : IsLow (codes "CONTINUE")
continue_low = record { above = omega arith; below = omega arith; second = λ e. omega (arith, e) }

-- and so are the keywords of a scaling
pub bscale_low : IsLow (codes "BSCALE  ")
bscale_low = record { above = omega arith; below = omega arith; second = λ e. omega (arith, e) }

pub bzero_low : IsLow (codes "BZERO   ")
bzero_low = record { above = omega arith; below = omega arith; second = λ e. omega (arith, e) }

-- a card of a keyword of a low name is
own_low : (name card : List ℕ) → IsLow name → IsOwn name card → IsLow (keyword_name card)
own_low name card low (inl e) = rw e low
own_low name card low (inr e) = rw e continue_low

-- so none of a keyword's cards counts
own_uncounted : (name : List ℕ) (cards : List (List ℕ)) → IsLow name → All (IsOwn name) cards → All IsUncounted cards
own_uncounted name [] low own = All-nil IsUncounted
own_uncounted name (card ∷ cards) low own =
    All-cons IsUncounted card cards (low_uncounted card (own_low name card low (All-head (IsOwn name) card cards own))) (own_uncounted name cards low (All-tail (IsOwn name) card cards own))

-- the card between two parts
seam : (front : List (List ℕ)) (x : List ℕ) (ys cards : List (List ℕ)) (place : ℕ) → cards ≡ front ++ (x ∷ ys) → place ≡ length front + 1 → card_at cards place ≡ Some x
seam front x ys cards place e at =
    let back : place - 1 ≡ length front = omega (arith, at) in
    let within : length front < length cards = omega (arith, ap length e, length-append front (x ∷ ys)) in
    ap (slice_get cards) back ∙ (slice_get-get_or cards (length front) [] within ∙ ap Some (ap (λ xs. get_or xs (length front) []) e ∙ get_or-append_seam front x ys []))

-- where a keyword's cards stand is after the last axis
pub set_after : (primary : Bool) (name : List ℕ) (cards after : List (List ℕ)) (card : List ℕ) (shape : Shape) → Describes primary cards shape → IsLow name → (w : IsSet name cards after card) → (gone : List (List ℕ)) → w.gone ≡ gone → 3 + length shape.axes < w.place
set_after primary name cards after card shape d low w [] e = omega (arith, w.last e, described_within primary cards shape d)
set_after primary name cards after card shape d low w (first ∷ others) e =
    let own : IsOwn name first = All-head (IsOwn name) first others (subst (All (IsOwn name)) e w.own) in
    let parts : cards ≡ w.front ++ (first ∷ (others ++ w.behind)) = w.was ∙ ap (λ gone. w.front ++ (gone ++ w.behind)) e in
    after_axes primary cards shape first w.place d (omega (arith, w.at)) (seam w.front first (others ++ w.behind) cards w.place parts w.at) (own_low name first low own)

-- a keyword of a low name that is set keeps the shape
pub set_keeps_shape : (primary : Bool) (name : List ℕ) (cards after : List (List ℕ)) (card : List ℕ) (shape : Shape) → shape_of primary cards ≡ Ok shape → IsLow name → IsSet name cards after card → keyword_name card ≡ name → shape_of primary after ≡ Ok shape
set_keeps_shape primary name cards after card shape e low w is =
    ap (shape_of primary) w.spliced
    ∙ splice_keeps primary cards (card ∷ []) w.place w.removed shape e (set_after primary name cards after card shape (described primary cards shape e) low w w.gone refl)
    (subst (All IsUncounted) (sym w.taken) (own_uncounted name w.gone low w.own))
    (All-cons IsUncounted card [] (low_uncounted card (rw is low)) (All-nil IsUncounted))

-- and brings none about
pub set_kept_shape : (primary : Bool) (name : List ℕ) (cards after : List (List ℕ)) (card : List ℕ) (shape : Shape) → shape_of primary after ≡ Ok shape → IsLow name → IsSet name cards after card → keyword_name card ≡ name → shape_of primary cards ≡ Ok shape
set_kept_shape primary name cards after card shape e low w is =
    let place = length w.front + 1 in
    let one : place - 1 ≡ length w.front = omega arith in
    let front : take (place - 1) after ≡ w.front = ap (λ n. take n after) one ∙ (ap (take (length w.front)) w.is ∙ take-append_seam w.front (card ∷ w.behind)) in
    let there : drop (place - 1) after ≡ card ∷ w.behind = ap (λ n. drop n after) one ∙ (ap (drop (length w.front)) w.is ∙ drop-append_seam w.front (card ∷ w.behind)) in
    let behind : drop (place - 1 + 1) after ≡ w.behind = sym (drop-drop 1 (place - 1) after) ∙ ap (drop 1) there in
    let back : cards ≡ spliced after place 1 w.gone = w.was ∙ sym (ap (λ xs. xs ++ (w.gone ++ drop (place - 1 + 1) after)) front ∙ ap (λ xs. w.front ++ (w.gone ++ xs)) behind) in
    let named : IsLow (keyword_name card) = rw is low in
    let later = after_axes primary after shape card place (described primary after shape e) (omega arith) (seam w.front card w.behind after place w.is refl) named in
    ap (shape_of primary) back
    ∙ splice_keeps primary after w.gone place 1 shape e later
    (subst (All IsUncounted) (sym (ap (take 1) there)) (All-cons IsUncounted card [] (low_uncounted card named) (All-nil IsUncounted)))
    (own_uncounted name w.gone low w.own)

pub ruleset stamp_steps = (set_keeps_shape)
