-- The card that a problem is at.
use Rattle.std.proofs.Common.{◌≡◌, ℕ, zero, suc, ◌-◌, ◌<◌, ◌≤◌, List, length, get_or, slice_get, slice_index_or, slice_set, Option, Some, None, option_and_then, option_map, refl, ap, sym, ◌∙◌, arith}
use Rattle.std.proofs.Math.Seq.{map-set_same}
use Rattle.std.proofs.lemmas.Option.{slice_get-map, slice_get_past, slice_get_read}
use Rattle.fits_card.specs.CardList.{CardStore}
use Rattle.fits_passing.specs.Headers.{read_cards}
use Rattle.fits_tell.specs.Report.{card_in, card_of}

-- place 0 has no card
pub place_none : (cards : List (List ℕ)) (place : ℕ) → place ≡ 0 → None ≡ card_in place cards
place_none cards zero e = refl
place_none cards (suc index) e = absurd (omega (arith, e))

-- nor has one past the last
pub place_past : (cards : List (List ℕ)) (place : ℕ) → length cards < place → None ≡ card_in place cards
place_past cards zero l = absurd (omega (arith, l))
place_past cards (suc index) l = sym (slice_get_past cards index (omega (arith, l)))

-- the others have theirs
pub place_taken : (cards : List (List ℕ)) (place : ℕ) (card : List ℕ) → 1 ≤ place → place ≤ length cards → card ≡ slice_index_or cards (place - 1) card → Some card ≡ card_in place cards
place_taken cards zero card l u e = absurd (omega (arith, l))
place_taken cards (suc index) card l u e =
    let at : suc index - 1 ≡ index = omega arith in
    sym (slice_get_read cards (length cards) index card refl (omega (arith, u)) (e ∙ ap (λ i. get_or cards i card) at))

pub ruleset place_steps = (place_none, place_past, place_taken)

-- there is no HDU 0
pub hdu_none : (headers : List (List (List ℕ))) (h place : ℕ) → h ≡ 0 → None ≡ card_of headers h place
hdu_none headers zero place e = refl
hdu_none headers (suc index) place e = absurd (omega (arith, e))

-- nor one past the last
pub hdu_past : (headers : List (List (List ℕ))) (h place : ℕ) → length headers < h → None ≡ card_of headers h place
hdu_past headers zero place l = absurd (omega (arith, l))
hdu_past headers (suc index) place l = ap (option_and_then (card_in place)) (sym (slice_get_past headers index (omega (arith, l))))

-- the card of an HDU that is there
pub hdu_taken : (lists : List CardStore) (h place : ℕ) (list : CardStore) (card : Option (List ℕ)) → (h ≡ 0 → ⊥) → h ≤ length lists → list ≡ get_or lists (h - 1) list → card ≡ card_in place list.header.cards → card ≡ card_of (read_cards lists) h place
hdu_taken lists zero place list card l u e is = absurd (l refl)
hdu_taken lists (suc index) place list card l u e is =
    let at : suc index - 1 ≡ index = omega arith in
    let there : slice_get lists index ≡ Some list = slice_get_read lists (length lists) index list refl (omega (arith, u)) (e ∙ ap (λ i. get_or lists i list) at) in
    is ∙ ap (option_and_then (card_in place)) (sym (slice_get-map (λ (it : CardStore). it.header.cards) lists index ∙ ap (option_map (λ (it : CardStore). it.header.cards)) there))

-- the cards stay where one is read
pub cards_stay : (lists : List CardStore) (h : ℕ) (old new : CardStore) → old ≡ get_or lists (h - 1) old → new.header ≡ old.header → read_cards (slice_set lists (h - 1) new) ≡ read_cards lists
cards_stay lists h old new e same =
    map-set_same (λ (it : CardStore). it.header.cards) lists (h - 1) new old (ap (λ header. header.cards) same ∙ ap (λ (it : CardStore). it.header.cards) e)

pub ruleset header_steps = (hdu_none, hdu_past, hdu_taken, cards_stay)
