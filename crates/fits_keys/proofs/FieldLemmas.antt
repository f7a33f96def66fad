-- The fields of a line, one after another.
use Rattle.std.proofs.Common.{◌≡◌, ℕ, ◌+◌, ◌-◌, ◌<◌, ◌≤◌, zero, suc, List, [], ◌∷◌, ◌++◌, length, take, get_or, Option, None, Some, refl, ap, sym, ◌∙◌, append_assoc, arith}
use Rattle.std.specs.List.{flat_map}
use Rattle.std.proofs.lemmas.List.{append-nil, get_or_default, get_or_past, get_or-map, length-map, take_more}
use Rattle.std.proofs.lemmas.Grind.{flat_map-append}
use Rattle.fits_card.specs.CardList.{CardStore}
use Rattle.fits_passing.specs.Headers.{read_cards}
use Rattle.fits_value.specs.Says.{long_says}
use Rattle.fits_value.specs.declared.value.Value.{Value}
use Rattle.fits_rules.specs.Lead.{lead_place}
use Rattle.fits_rules.proofs.LeadCardLemmas.{lead_from, lead_to}
use Rattle.fits_keys.specs.Keys.{cards_in, field_of, fields_of, tabbed, text_said}

-- what one more adds is added to what the first so many have
pub flat_step : {X : Type 0} (f : X → List ℕ) (start line new : List ℕ) (xs : List X) (i : ℕ) (d : X) → i < length xs → line ≡ start ++ flat_map f (take i xs) → new ≡ line ++ f (get_or xs i d)
    → new ≡ start ++ flat_map f (take (i + 1) xs)
flat_step f start line new xs i d l before added =
    let x = get_or xs i d in
    let more : flat_map f (take (i + 1) xs) ≡ flat_map f (take i xs) ++ f x =
    ap (flat_map f) (take_more xs i x l ∙ ap (λ t. take i xs ++ t ∷ []) (get_or_default xs i x d l)) ∙ flat_map-append f (take i xs) (x ∷ [])
    ∙ ap (λ t. flat_map f (take i xs) ++ t) (append-nil (f x)) in
    added ∙ ap (λ t. t ++ f x) before ∙ append_assoc start (flat_map f (take i xs)) (f x) ∙ ap (λ t. start ++ t) (sym more)

-- the lead says this
pub field_said : (cards : List (List ℕ)) (name : List ℕ) (place : ℕ) (said : Option (Value × Option (List ℕ))) → Some place ≡ lead_place cards name → said ≡ long_says cards place → field_of cards name ≡ text_said said
field_said cards name place said lead says = rw (← lead, ← says) refl

-- there is none
pub field_nowhere : (cards : List (List ℕ)) (name : List ℕ) → None ≡ lead_place cards name → field_of cards name ≡ []
field_nowhere cards name lead = rw (← lead) refl

-- no card has a field
pub field_empty : (name : List ℕ) → field_of [] name ≡ []
unfolding lead_place
field_empty name = refl

-- an empty one is a tab
pub empty_step : (start line new : List ℕ) (names : List (List ℕ)) (i : ℕ) → i < length names → line ≡ start ++ fields_of [] (take i names) → new ≡ line ++ 9 ∷ [] → new ≡ start ++ fields_of [] (take (i + 1) names)
empty_step start line new names i l before added =
    flat_step (λ name. tabbed (field_of [] name)) start line new names i [] l before (added ∙ ap (λ t. line ++ 9 ∷ t) (sym (field_empty (get_or names i []))))

-- past the last header there is none
pub cards_past : (headers : List CardStore) (h : ℕ) → length headers < h → cards_in (read_cards headers) h ≡ []
cards_past headers zero l = absurd (omega (arith, l))
cards_past headers (suc i) l = get_or_past (read_cards headers) i [] (omega (arith, l, length-map headers (λ (it : CardStore). it.header.cards)))

-- the cards of a header that is there
pub cards_there : (headers : List CardStore) (h : ℕ) (d : CardStore) → 1 ≤ h → h ≤ length headers → cards_in (read_cards headers) h ≡ (get_or headers (h - 1) d).header.cards
cards_there headers zero d one l = absurd (omega (arith, one))
cards_there headers (suc i) d one l =
    let back : i ≡ suc i - 1 = omega arith in
    get_or-map (λ (it : CardStore). it.header.cards) headers i d [] (omega (arith, l)) ∙ ap (λ k. (get_or headers k d).header.cards) back

-- the cards of a header by its number, among headers with the same cards
pub cards_by_number : (headers after : List (List (List ℕ))) (h number : ℕ) (cards : List (List ℕ)) → after ≡ headers → h ≡ number → cards_in after h ≡ cards → cards_in headers number ≡ cards
cards_by_number headers after h number cards same is found = rw (← same, ← is) found

pub ruleset field_steps = (lead_from, lead_to, field_said, field_nowhere, field_empty)
