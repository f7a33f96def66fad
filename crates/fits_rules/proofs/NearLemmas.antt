-- A broken place is that of a card, or one past the last.
use Rattle.std.proofs.Common.{◌≡◌, ℕ, zero, suc, ◌+◌, ◌-◌, ◌≤◌, Bool, true, false, List, ◌∷◌, length, codes, Option, None, Some, unwrap_or, ok_or, Result, Ok, Err, ◌⊎◌, inl, inr, refl, sym, arith}
use Rattle.std.specs.Prelude.{ℤ}
use Rattle.std.specs.List.{range_with_len}
use Rattle.std.proofs.lemmas.Option.{slice_get_within, option_and_then_some}
use Rattle.fits_card.specs.Header.{card_at}
use Rattle.fits_rules.specs.Lead.{lead_card, lead_or_end, lead_place}
use Rattle.fits_rules.specs.Reads.{integer_said}
use Rattle.fits_rules.specs.Shape.{each, ◌>>=◌, up_to, bitpix_in, if_named, card_named, integer_named, first_card, bitpix_of, naxis_of, axis_of, axes_of, class_of, count_of, shape_of}
use Rattle.fits_rules.specs.declared.axis_buffer.TheConstants.{MOST_AXES}
use Rattle.fits_rules.proofs.AxesLemmas.{axis_within}
use Rattle.fits_rules.proofs.DescribesLemmas.{ok_or_ok}
use Rattle.fits_rules.proofs.LeadCardLemmas.{lead_within}

-- a place of a card, or the one past the last
abbrev pub IsNear : List (List ℕ) → ℕ → Type 0
IsNear cards place = (1 ≤ place) × (place ≤ length cards + 1)

-- a chain that breaks does so at its first step or after it
bind_err : {X Y : Type 0} (r : Result X ℕ) (next : X → Result Y ℕ) (place : ℕ) → (r >>= next) ≡ Err place → (r ≡ Err place) ⊎ ((x : X) × (r ≡ Ok x) × (next x ≡ Err place))
bind_err (Ok x) next place e = inr (x, refl, e)
bind_err (Err other) next place e = inl (cc)

-- an error that stands for none
ok_or_err : {X : Type 0} (o : Option X) (place found : ℕ) → ok_or o place ≡ Err found → found ≡ place
ok_or_err None place found e = cc
ok_or_err (Some x) place found e = absurd (cc)

-- a card that has its name is there
named_within : (cards : List (List ℕ)) (place : ℕ) (name card : List ℕ) → 1 ≤ place → card_named cards place name ≡ Some card → place ≤ length cards
unfolding card_named
named_within cards place name card one is =
    option_and_then_some (if_named name) (card_at cards place) card is (λ found e _. let within = slice_get_within cards (place - 1) found e in omega arith)

-- and so is one that says an integer
integer_within : (cards : List (List ℕ)) (place : ℕ) (name : List ℕ) (number : ℤ) → 1 ≤ place → integer_named cards place name ≡ Some number → place ≤ length cards
integer_within cards place name number one is =
    option_and_then_some integer_said (card_named cards place name) number is (λ card e _. named_within cards place name card one e)

-- the first three cards are there where they keep their rules
first_within : (primary : Bool) (cards : List (List ℕ)) (first : List ℕ) → first_card primary cards ≡ Some first → 1 ≤ length cards
unfolding first_card
first_within true cards first is = named_within cards 1 (codes "SIMPLE  ") first (omega arith) is
first_within false cards first is = named_within cards 1 (codes "XTENSION") first (omega arith) is

-- BITPIX is there
bitpix_within : (cards : List (List ℕ)) (bitpix : ℤ) → bitpix_of cards ≡ Some bitpix → 2 ≤ length cards
unfolding bitpix_of
bitpix_within cards bitpix is =
    option_and_then_some bitpix_in (integer_named cards 2 (codes "BITPIX  ")) bitpix is (λ number e _. integer_within cards 2 (codes "BITPIX  ") number (omega arith) e)

-- NAXIS is there
pub naxis_within : (cards : List (List ℕ)) (naxis : ℕ) → naxis_of cards ≡ Some naxis → 3 ≤ length cards
unfolding naxis_of
naxis_within cards naxis is =
    option_and_then_some (up_to MOST_AXES) (integer_named cards 3 (codes "NAXIS   ")) naxis is (λ number e _. integer_within cards 3 (codes "NAXIS   ") number (omega arith) e)

-- the first broken axis
axes_near_from : (cards : List (List ℕ)) (count first place : ℕ) → 2 + first ≤ length cards → each (λ n. ok_or (axis_of cards n) (3 + n)) (range_with_len first count) ≡ Err place → IsNear cards place
axes_near_from cards zero first place within e = absurd (cc)
axes_near_from cards (suc count) first place within e = elim (bind_err (ok_or (axis_of cards first) (3 + first)) _ place e) [
  | inl none ↦ let same : place ≡ 3 + first = ok_or_err (axis_of cards first) (3 + first) place none in (omega arith, omega arith)
  | inr axis ↦
      let there : 3 + first ≤ length cards = axis_within cards first axis.0 (sym (ok_or_ok (axis_of cards first) (3 + first) axis.0 axis.1)) in
      elim (bind_err (each (λ n. ok_or (axis_of cards n) (3 + n)) (range_with_len (first + 1) count)) (λ (axes : List ℕ). Ok (axis.0 ∷ axes)) place axis.2) [
        | inl later ↦ axes_near_from cards count (first + 1) place (omega arith) later
        | inr axes ↦ let no : Ok (axis.0 ∷ axes.0) ≡ Err place = axes.2 in absurd (cc)
      ]
]

-- from the first axis on
axes_near : (cards : List (List ℕ)) (naxis place : ℕ) → 3 ≤ length cards → axes_of cards naxis ≡ Err place → IsNear cards place
unfolding axes_of
axes_near cards naxis place within e = axes_near_from cards naxis 1 place (omega arith) e

-- a lead, or the place past the last card
lead_near : (cards : List (List ℕ)) (name : List ℕ) → IsNear cards (lead_or_end cards name)
unfolding lead_or_end
lead_near cards name = near (lead_place cards name) (lead_within cards name)
  where
    near : (o : Option ℕ) → ((place : ℕ) → o ≡ Some place → (1 ≤ place) × (place ≤ length cards)) → IsNear cards (unwrap_or o (length cards + 1))
    near None within = (omega arith, omega arith)
    near (Some place) within = let here = within place refl in (omega arith, omega arith)

-- a lead that says no count
count_near : (cards : List (List ℕ)) (name : List ℕ) (o : Option ℕ) (place : ℕ) → ok_or o (lead_or_end cards name) ≡ Err place → IsNear cards place
count_near cards name o place e = let same : place ≡ lead_or_end cards name = ok_or_err o (lead_or_end cards name) place e in rw same (lead_near cards name)

-- the first rule that is broken, in order
pub broken_is_near : (primary : Bool) (cards : List (List ℕ)) (place : ℕ) → shape_of primary cards ≡ Err place → IsNear cards place
unfolding shape_of
broken_is_near primary cards place e = elim (bind_err (ok_or (first_card primary cards) 1) _ place e) [
  | inl none ↦ let same : place ≡ 1 = ok_or_err (first_card primary cards) 1 place none in (omega arith, omega arith)
  | inr first ↦ elim (bind_err (ok_or (bitpix_of cards) 2) _ place first.2) [
    | inl none ↦
        let there = first_within primary cards first.0 (ok_or_ok (first_card primary cards) 1 first.0 first.1) in
        let same : place ≡ 2 = ok_or_err (bitpix_of cards) 2 place none in (omega arith, omega arith)
    | inr bitpix ↦ elim (bind_err (ok_or (naxis_of cards) 3) _ place bitpix.2) [
      | inl none ↦
          let there = bitpix_within cards bitpix.0 (ok_or_ok (bitpix_of cards) 2 bitpix.0 bitpix.1) in
          let same : place ≡ 3 = ok_or_err (naxis_of cards) 3 place none in (omega arith, omega arith)
      | inr naxis ↦
          let there = naxis_within cards naxis.0 (ok_or_ok (naxis_of cards) 3 naxis.0 naxis.1) in
          elim (bind_err (axes_of cards naxis.0) _ place naxis.2) [
            | inl none ↦ axes_near cards naxis.0 place there none
            | inr axes ↦
                let class = class_of primary first.0 axes.0 (lead_card cards (codes "GROUPS  ")) in
                let p = count_of class (lead_card cards (codes "PCOUNT  ")) 0 in
                let g = count_of class (lead_card cards (codes "GCOUNT  ")) 1 in
                elim (bind_err (ok_or p (lead_or_end cards (codes "PCOUNT  "))) _ place axes.2) [
                  | inl none ↦ count_near cards (codes "PCOUNT  ") p place none
                  | inr pcount ↦ elim (bind_err (ok_or g (lead_or_end cards (codes "GCOUNT  "))) _ place pcount.2) [
                    | inl none ↦ count_near cards (codes "GCOUNT  ") g place none
                    | inr gcount ↦ absurd (cc)
                  ]
                ]
          ]
    ]
  ]
]
