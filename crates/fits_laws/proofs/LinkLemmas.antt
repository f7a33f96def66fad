-- Which cards are links, chain by chain.
use Rattle.std.proofs.Common.{◌≡◌, ◌↔◌, ℕ, zero, suc, ◌+◌, ◌-◌, ◌<◌, ◌≤◌, Bool, true, false, cond, ◌&&◌, IsTrue, List, [], ◌∷◌, ◌++◌, length, drop, map, replicate, get_or, codes, not, is_some, Option, Some, None, ap, sym, ◌∙◌, refl, arith, length-drop, ◌⊎◌, inl, inr}
use Rattle.std.specs.Option.{option_map, option_map_or}
use Rattle.std.proofs.lemmas.Bool.{cases_lt}
use Rattle.std.proofs.lemmas.List.{drop-drop, length-replicate, get_or-replicate, get_or-append-add}
use Rattle.std.proofs.Math.ListN.{get_or-append}
use Rattle.std.specs.Str.{bytes_eq}
use Rattle.std.proofs.lemmas.Slice.Eq.{bytes_eq-Decides}
use Rattle.fits_card.specs.Card.{has_value, indicator, keyword_name}
use Rattle.fits_card.specs.Name.{is_valueless}
use Rattle.fits_value.specs.Says.{card_string, link_says, link_string, is_continue, card_says, said_string, ends_in_ampersand, links_of, link_before, links_after, string_cards, first_chain_length, chain_length, IsLink}
use Rattle.fits_header.specs.Links.{string_mark, links_from, header_links}

-- what a proper CONTINUE card says, by its parts
parts_by : (b : Bool) (said : Option (List ℕ × Option (List ℕ))) (link : List ℕ × Option (List ℕ)) → cond b said None ≡ Some link
    → (b ≡ true) × (cond b (option_map (λ s. s.0) said) None ≡ Some link.0) × (option_map (λ s. s.0) said ≡ Some link.0)
parts_by true said link h = (refl, ap (option_map (λ s. s.0)) h, ap (option_map (λ s. s.0)) h)
parts_by false said link h = absurd (cc)

-- a card that says a piece is a CONTINUE card, and says it as a string too
link_parts : (card : List ℕ) (link : List ℕ × Option (List ℕ)) → link_says card ≡ Some link → (is_continue card ≡ true) × (link_string card ≡ Some link.0) × (card_string card ≡ Some link.0)
unfolding link_says link_string card_string
link_parts card link h = parts_by (is_continue card) (said_string (card_says card)) link h

-- no piece, no string of one
none_by : (b : Bool) (said : Option (List ℕ × Option (List ℕ))) → cond b said None ≡ None → cond b (option_map (λ s. s.0) said) None ≡ None
none_by true said h = ap (option_map (λ s. s.0)) h
none_by false said h = refl

-- a card that says no piece has no string of one
no_link : (card : List ℕ) → link_says card ≡ None → link_string card ≡ None
unfolding link_says link_string card_string
no_link card h = none_by (is_continue card) (said_string (card_says card)) h

-- the links of these cards, where a string is open before them or not
abbrev links_open : Bool → List (List ℕ) → List Bool
links_open b cards = links_from b (map string_mark cards)

-- a card that is no proper CONTINUE card is no link
stop : (b : Bool) (card : List ℕ) (cards : List (List ℕ)) → link_string card ≡ None → links_open b (card ∷ cards) ≡ links_open false (card ∷ cards)
stop true card cards h = rw h refl
stop false card cards h = refl

-- one that is one is a link where a string is open before it
go_on : (card text : List ℕ) (cards : List (List ℕ)) → link_string card ≡ Some text → card_string card ≡ Some text → links_open true (card ∷ cards) ≡ true ∷ links_open (ends_in_ampersand text) cards
go_on card text cards h g = rw (h, g) refl

-- the links that a text goes on in are marked, and what follows them stands for itself
run_by : (b : Bool) (m n : ℕ) (card : List ℕ) (cards : List (List ℕ)) → m ≡ cond b (1 + n) 0 → (b ≡ true → links_open true (card ∷ cards) ≡ true ∷ (replicate n true ++ links_open false (drop n cards)))
    → links_open b (card ∷ cards) ≡ replicate m true ++ links_open false (drop m (card ∷ cards))
run_by true m n card cards is more = more refl ∙ ap (λ k. replicate k true ++ links_open false (drop k (card ∷ cards))) {x = suc n} {y = m} (omega arith)
run_by false m n card cards is more = ap (λ k. replicate k true ++ links_open false (drop k (card ∷ cards))) {x = 0} {y = m} (omega arith)

-- a card says a piece, or none
link_cases : (said : Option (List ℕ × Option (List ℕ))) → (said ≡ None) ⊎ ((link : List ℕ × Option (List ℕ)) × (said ≡ Some link))
link_cases None = inl refl
link_cases (Some link) = inr (link, refl)

-- behind a string the cards of its chain are marked, and then it is closed
pub run-marked : (text : List ℕ) (cards : List (List ℕ)) → links_open (ends_in_ampersand text) cards ≡ replicate (links_after text (links_of cards)) true ++ links_open false (drop (links_after text (links_of cards)) cards)
run-marked text [] = refl
run-marked text (card ∷ cards) =
    elim (link_cases (link_says card)) [
      | inl none ↦ stop (ends_in_ampersand text) card cards (no_link card none)
          ∙ ap (λ links. replicate (links_after text links) true ++ links_open false (drop (links_after text links) (card ∷ cards))) {x = []} {y = links_of (card ∷ cards)} (ap (λ said. link_before said (links_of cards)) (sym none))
      | inr (link, some) ↦
          let parts = link_parts card link some in
          run_by (ends_in_ampersand text) (links_after text (links_of (card ∷ cards))) (links_after link.0 (links_of cards)) card cards
          (ap (λ said. links_after text (link_before said (links_of cards))) some)
          (λ _. go_on card link.0 cards parts.1 parts.2 ∙ ap (λ ls. true ∷ ls) (run-marked link.0 cards))
    ]

-- how many links the first of these cards has
abbrev first_links : List (List ℕ) → ℕ
first_links cards = first_chain_length cards - 1

-- how many cards follow one that begins a chain or not
begins_by : (v : Bool) (said : Option (List ℕ)) (cards : List (List ℕ)) → (n : ℕ) → n ≡ cond v (string_cards said cards) 0 - 1
    → links_open ((v && is_some said) && option_map_or ends_in_ampersand said false) cards ≡ replicate n true ++ links_open false (drop n cards)
begins_by false said cards n is = ap (λ k. replicate k true ++ links_open false (drop k cards)) {x = 0} {y = n} (omega arith)
begins_by true None cards n is = ap (λ k. replicate k true ++ links_open false (drop k cards)) {x = 0} {y = n} (omega arith)
begins_by true (Some text) cards n is = run-marked text cards ∙ ap (λ k. replicate k true ++ links_open false (drop k cards)) {x = links_after text (links_of cards)} {y = n} (omega arith)

-- the first card is no link, its links follow, and then the links of the others
pub links-first : (card : List ℕ) (cards : List (List ℕ)) → header_links (card ∷ cards) ≡ false ∷ (replicate (first_links (card ∷ cards)) true ++ header_links (drop (first_links (card ∷ cards)) cards))
links-first card cards = ap (λ ls. false ∷ ls) (begins_by (has_value card) (card_string card) cards (first_links (card ∷ cards)) refl)

-- the second of two that hold
second : (a b : Bool) → (a && b) ≡ true → b ≡ true
second true b h = h
second false b h = absurd (cc)

-- a proper CONTINUE card has no value
unvalued : (card : List ℕ) → is_continue card ≡ true → has_value card ≡ false
unfolding is_continue has_value
unvalued card h =
    let spaces : indicator card ≡ codes "  " = (bytes_eq-Decides (indicator card) (codes "  ")).0 (second (bytes_eq (keyword_name card) (codes "CONTINUE")) (bytes_eq (indicator card) (codes "  ")) h) in
    ap (λ bytes. bytes_eq bytes (codes "= ") && not (is_valueless (keyword_name card))) spaces

-- so no link begins a chain
no_chain_by : (text : List ℕ) (said : Option (List ℕ × Option (List ℕ))) (links : List (List ℕ × Option (List ℕ))) (j : ℕ) → j < links_after text (link_before said links) → (link : List ℕ × Option (List ℕ)) × (said ≡ Some link) × (j < 1 + links_after link.0 links)
no_chain_by text None links j h = absurd (omega arith)
no_chain_by text (Some link) links j h = (link, refl, within (ends_in_ampersand text) h)
  where
    within : (b : Bool) → j < cond b (1 + links_after link.0 links) 0 → j < 1 + links_after link.0 links
    within true h = h
    within false h = absurd (omega arith)

-- no chain begins at a link
no_chain : (text : List ℕ) (cards : List (List ℕ)) (j : ℕ) → j < links_after text (links_of cards) → first_chain_length (drop j cards) ≡ 0
no_chain text [] j h = absurd (omega arith)
no_chain text (card ∷ cards) zero h =
    let link = no_chain_by text (link_says card) (links_of cards) 0 h in
    rw (unvalued card (link_parts card link.0 link.1).0) refl
no_chain text (card ∷ cards) (suc j) h =
    let link = no_chain_by text (link_says card) (links_of cards) (suc j) h in
    no_chain link.0.0 cards j (omega (arith, link.2))

-- the card is in a chain that begins before it; both are counted from 0
pub record IsLinkAt (cards : List (List ℕ)) (k : ℕ) : Type 0 where
  pub first : ℕ
  pub before : first < k
  pub within : k < first + first_chain_length (drop first cards)

-- in a header's links
abbrev IsMarked : List (List ℕ) → ℕ → Type 0
IsMarked cards k = get_or (header_links cards) k false ≡ true

-- the links of the first card are marked
marked_first : (card : List ℕ) (cards : List (List ℕ)) (j : ℕ) → j < first_links (card ∷ cards) → IsMarked (card ∷ cards) (suc j)
marked_first card cards j h =
    let n = first_links (card ∷ cards) in
    ap (λ ls. get_or ls (suc j) false) (links-first card cards)
    ∙ (get_or-append (replicate n true) (header_links (drop n cards)) false j (omega (arith, length-replicate n true)) ∙ get_or-replicate n j true false h)

-- those of the others are marked as they are alone
marked_others : (card : List ℕ) (cards : List (List ℕ)) (j i : ℕ) → j ≡ first_links (card ∷ cards) + i → get_or (header_links (card ∷ cards)) (suc j) false ≡ get_or (header_links (drop (first_links (card ∷ cards)) cards)) i false
marked_others card cards j i h =
    let n = first_links (card ∷ cards) in
    ap (λ ls. get_or ls (suc j) false) (links-first card cards)
    ∙ (ap (λ k. get_or (replicate n true ++ header_links (drop n cards)) k false) {x = j} {y = length (replicate n true) + i} (omega (arith, length-replicate n true))
    ∙ get_or-append-add (replicate n true) (header_links (drop n cards)) i false)

-- the first card is no link
first_unmarked : (cards : List (List ℕ)) → IsMarked cards 0 → ⊥
first_unmarked [] h = absurd (cc)
first_unmarked (card ∷ cards) h = let g : false ≡ true = sym (ap (λ ls. get_or ls 0 false) (links-first card cards)) ∙ h in absurd (cc)

-- a link of the others is one
link_of_others : (card : List ℕ) (cards : List (List ℕ)) (j i n : ℕ) → j ≡ n + i → IsLinkAt (drop n cards) i → IsLinkAt (card ∷ cards) (suc j)
link_of_others card cards j i n h link = record {
  first = suc (n + link.first);
  before = omega (arith, link.before);
  within = omega (arith, link.within, ap first_chain_length (drop-drop link.first n cards));
}

-- the cards of the first chain, but the first, begin none
none_within : (card : List ℕ) (cards : List (List ℕ)) (i : ℕ) → i < first_links (card ∷ cards) → first_chain_length (drop i cards) ≡ 0
none_within card cards i h = none_by_parts (has_value card) (card_string card) h
  where
    none_by_parts : (v : Bool) (said : Option (List ℕ)) → i < cond v (string_cards said cards) 0 - 1 → first_chain_length (drop i cards) ≡ 0
    none_by_parts false said h = absurd (omega arith)
    none_by_parts true None h = absurd (omega arith)
    none_by_parts true (Some text) h = no_chain text cards i (omega arith)

-- a link past the first card's is one of the others
link_past : (card : List ℕ) (cards : List (List ℕ)) (j i : ℕ) → j ≡ first_links (card ∷ cards) + i → IsLinkAt (card ∷ cards) (suc j) → IsLinkAt (drop (first_links (card ∷ cards)) cards) i
link_past card cards j i h link = link_by link.first link.before link.within
  where
    link_by : (first : ℕ) → first < suc j → suc j < first + first_chain_length (drop first (card ∷ cards)) → IsLinkAt (drop (first_links (card ∷ cards)) cards) i
    link_by zero before within = absurd (omega arith)
    link_by (suc f) before within =
        elim (cases_lt f (first_links (card ∷ cards))) [
          | inl less ↦ absurd (omega (arith, none_within card cards f less))
          | inr past ↦ record {
            first = f - first_links (card ∷ cards);
            before = omega arith;
            within = omega (arith, ap first_chain_length (drop-drop (f - first_links (card ∷ cards)) (first_links (card ∷ cards)) cards), ap (λ k. first_chain_length (drop k cards)) {x = first_links (card ∷ cards) + (f - first_links (card ∷ cards))} {y = f} (omega arith));
          }
        ]

-- a card is marked exactly where it is a link
marked : (fuel : ℕ) (cards : List (List ℕ)) (k : ℕ) → length cards ≤ fuel → IsMarked cards k ↔ IsLinkAt cards k
marked fuel [] k h = (λ m. absurd (cc), λ link. absurd (nothing link))
  where
    nothing : {k : ℕ} → IsLinkAt [] k → ⊥
    nothing link = none link.first link.before link.within
      where
        none : {k : ℕ} (first : ℕ) → first < k → k < first + first_chain_length (drop first []) → ⊥
        none zero b w = absurd (omega arith)
        none (suc f) b w = absurd (omega arith)
marked zero (card ∷ cards) k h = absurd (omega arith)
marked (suc fuel) (card ∷ cards) zero h = (λ m. absurd (first_unmarked (card ∷ cards) m), λ link. absurd (omega (arith, link.before)))
marked (suc fuel) (card ∷ cards) (suc j) h =
    let n = first_links (card ∷ cards) in
    elim (cases_lt j n) [
      | inl less ↦ (λ m. record { first = 0; before = omega arith; within = omega arith }, λ link. marked_first card cards j less)
      | inr past ↦
          let rest = marked fuel (drop n cards) (j - n) (omega (arith, length-drop n cards)) in
          let same = marked_others card cards j (j - n) (omega arith) in
          (λ m. link_of_others card cards j (j - n) n (omega arith) (rest.0 (sym same ∙ m)), λ link. same ∙ rest.1 (link_past card cards j (j - n) (omega arith) link))
    ]

-- places count from 1, and indices from 0
to_place : (cards : List (List ℕ)) (place first : ℕ) → place - 1 < first + first_chain_length (drop first cards) → place < first + 1 + first_chain_length (drop (first + 1 - 1) cards)
to_place cards place first h =
    let same : first_chain_length (drop (first + 1 - 1) cards) ≡ first_chain_length (drop first cards) = ap (λ k. first_chain_length (drop k cards)) (omega arith) in
    omega arith

-- a place from 1 as an index from 0
to_index : (place first length : ℕ) → 1 ≤ place → 1 ≤ first → place < first + length → place - 1 < first - 1 + length
to_index place first length h g within = omega arith

-- a link by its index is one by its place
is_link : (cards : List (List ℕ)) (place : ℕ) → IsLinkAt cards (place - 1) → IsLink cards place
unfolding chain_length
is_link cards place link = record {
  first = link.first + 1;
  from = omega arith;
  before = omega (arith, link.before);
  within = to_place cards place link.first link.within;
}

-- and the other way
is_link_at : (cards : List (List ℕ)) (place : ℕ) → 1 ≤ place → IsLink cards place → IsLinkAt cards (place - 1)
unfolding chain_length
is_link_at cards place one link = record {
  first = link.first - 1;
  before = omega (arith, link.from, link.before);
  within = to_index place link.first (first_chain_length (drop (link.first - 1) cards)) one link.from link.within;
}

-- the card at a place is marked exactly where it goes on with a string that begins before it
pub links-marked : (cards : List (List ℕ)) (place : ℕ) → 1 ≤ place → IsTrue (get_or (header_links cards) (place - 1) false) ↔ IsLink cards place
links-marked cards place one =
    let both = marked (length cards) cards (place - 1) (omega arith) in
    (λ m. is_link cards place (both.0 m), λ link. both.1 (is_link_at cards place one link))
