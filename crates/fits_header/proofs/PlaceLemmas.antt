-- The entries of an index, by the places of their cards.
use Rattle.std.proofs.Common.{◌≡◌, ℕ, zero, suc, ◌+◌, ◌-◌, ◌<◌, ◌≤◌, ◌==◌, ◌&&◌, ◌||◌, Bool, true, false, List, [], ◌∷◌, length, take, get_or, ap, sym, ◌∙◌, arith, inl, inr}
use Rattle.std.specs.List.{All, list_any}
use Rattle.std.proofs.lemmas.Bool.{or_cases, or_right, and_parts}
use Rattle.std.proofs.lemmas.Bool.Decides.{nat_tests}
use Rattle.std.proofs.lemmas.List.{take_all}
use Rattle.std.proofs.lemmas.List.Elements.{All-nil, All-cons, All-filter}
use Rattle.std.proofs.lemmas.List.Folds.{list_any_at}
use Rattle.std.proofs.lemmas.Map.Views.{any-filter_same}
use Rattle.fits_card.specs.Card.{keyword_name}
use Rattle.fits_header.specs.Findings.{card_of}
use Rattle.fits_header.specs.Index.{IsIndex, IsIndexOf, is_named, entry_of, entries_from}
use Rattle.fits_header.specs.Names.{name_number}
use Rattle.fits_header.specs.declared.entry.Entry.{Entry}
use Rattle.fits_header.proofs.ChangeLemmas.{all_by_name}
use Rattle.fits_header.proofs.CountLemmas.{length-entries, length-index}
use Rattle.fits_header.proofs.EntriesLemmas.{entries-high}

-- a weaker test
any_weaker : {X : Type 0} (p q : X → Bool) (xs : List X) → ((x : X) → p x ≡ true → q x ≡ true) → list_any p xs ≡ true → list_any q xs ≡ true
any_weaker p q [] w h = absurd (cc)
any_weaker p q (x ∷ xs) w h =
    elim (or_cases (p x) (list_any p xs) h) [
      | inl here ↦ ap (λ b. b || list_any q xs) (w x here)
      | inr there ↦ or_right (q x) (list_any q xs) (any_weaker p q xs w there)
    ]

-- a test of entries of one name
abbrev pub IsOfName : ℕ → (Entry → Bool) → Type 0
IsOfName name t = (x : Entry) → t x ≡ true → x.name ≡ name

-- an index passes a test of one name as the entries of the cards do
pub any_of_index : (es : List Entry) (cards : List (List ℕ)) (name : ℕ) (t : Entry → Bool) → IsIndexOf es cards → IsOfName name t → list_any t es ≡ list_any t (entries_from 1 cards)
any_of_index es cards name t index own =
    let named : (x : Entry) → t x ≡ true → is_named name x ≡ true = λ x h. is_own x (own x h) in
    sym (any-filter_same t (is_named name) true named es) ∙ (ap (list_any t) (index.same name) ∙ any-filter_same t (is_named name) true named (entries_from 1 cards))
  where
    is_own : (x : Entry) → x.name ≡ name → is_named name x ≡ true
    is_own x h = grind (arith, nat_tests)

-- its name
pub named_own : (name : ℕ) → IsOfName name (is_named name)
named_own name x h = grind (arith, nat_tests, h)

-- each entry is that of the card at its place
entries-each : (start : ℕ) (cards : List (List ℕ)) → All (λ (x : Entry). x ≡ entry_of (get_or cards (x.place - start) []) x.place) (entries_from start cards)
entries-each start [] = All-nil (λ (x : Entry). x ≡ entry_of (get_or [] (x.place - start) []) x.place)
entries-each start (first ∷ cards) =
    All-cons (λ (x : Entry). x ≡ entry_of (get_or (first ∷ cards) (x.place - start) []) x.place) (entry_of first start) (entries_from (start + 1) cards)
    (ap (λ j. entry_of (get_or (first ∷ cards) j []) start) {x = 0} {y = start - start} (omega arith))
    (λ k d l. entries-each (start + 1) cards k d l ∙ further (get_or (entries_from (start + 1) cards) k d) (entries-high (start + 1) (start + 1) cards (omega arith) k d l))
  where
    further : (x : Entry) → start + 1 ≤ x.place → entry_of (get_or cards (x.place - (start + 1)) []) x.place ≡ entry_of (get_or (first ∷ cards) (x.place - start) []) x.place
    further x h = ap (λ j. entry_of (get_or (first ∷ cards) j []) x.place) {x = suc (x.place - (start + 1))} {y = x.place - start} (omega arith)

-- those of an index too
pub index-entries : (es : List Entry) (cards : List (List ℕ)) → IsIndexOf es cards → All (λ (x : Entry). x ≡ entry_of (card_of cards x.place) x.place) es
index-entries es cards index =
    all_by_name (λ (x : Entry). x ≡ entry_of (card_of cards x.place) x.place) es (λ name.
    rw (index.same name) (All-filter (is_named name) (λ (x : Entry). x ≡ entry_of (card_of cards x.place) x.place) (entries_from 1 cards) (entries-each 1 cards)))

-- the places of an index are places
pub places_of_index : (es : List Entry) (cards : List (List ℕ)) → IsIndexOf es cards → All (λ (x : Entry). 1 ≤ x.place) es
places_of_index es cards index =
    all_by_name (λ (x : Entry). 1 ≤ x.place) es (λ name.
    rw (index.same name) (All-filter (is_named name) (λ (x : Entry). 1 ≤ x.place) (entries_from 1 cards) (entries-high 1 1 cards (omega arith))))

-- the entry of a card
get_or-entries : (start : ℕ) (cards : List (List ℕ)) (i : ℕ) (d : Entry) (k : List ℕ) → i < length cards → get_or (entries_from start cards) i d ≡ entry_of (get_or cards i k) (start + i)
get_or-entries start [] i d k l = absurd (omega arith)
get_or-entries start (card ∷ cards) zero d k l = ap (entry_of card) {x = start} {y = start + 0} (omega arith)
get_or-entries start (card ∷ cards) (suc i) d k l = get_or-entries (start + 1) cards i d k (omega arith) ∙ ap (entry_of (get_or cards i k)) {x = start + 1 + i} {y = start + suc i} (omega arith)

-- each place has an entry
pub any_place : (es : List Entry) (cards : List (List ℕ)) (place : ℕ) → IsIndexOf es cards → 1 ≤ place → place ≤ length cards → list_any (λ (x : Entry). x.place == place) es ≡ true
any_place es cards place index one within =
    let blank : Entry = record { name = 0; place = 0; has_value = false } in
    let card = card_of cards place in
    let name = name_number (keyword_name card) in
    let t : Entry → Bool = λ x. is_named name x && (x.place == place) in
    let passes : t (get_or (entries_from 1 cards) (place - 1) blank) ≡ true = rw (get_or-entries 1 cards (place - 1) blank [] (omega arith)) (is_there card) in
    any_weaker t (λ x. x.place == place) es (λ x h. (and_parts (is_named name x) (x.place == place) h).1)
    (any_of_index es cards name t index (λ x h. named_own name x (and_parts (is_named name x) (x.place == place) h).0)
    ∙ list_any_at t (entries_from 1 cards) (place - 1) blank (omega (arith, length-entries 1 cards)) passes)
  where
    is_there : (card : List ℕ) → ((name_number (keyword_name card) == name_number (keyword_name card)) && (1 + (place - 1) == place)) ≡ true
    is_there card = grind (arith, nat_tests)

-- so a pass over all entries finds it
pub some_place : (es : List Entry) (place i : ℕ) → IsIndex es → 1 ≤ place → place ≤ length es → length es ≤ i → list_any (λ (x : Entry). x.place == place) (take i es) ≡ false → ⊥
some_place es place i index one within done none =
    let here : list_any (λ (x : Entry). x.place == place) es ≡ true = any_place es index.cards place index.theirs one (omega (arith, length-index es index.cards index.theirs)) in
    let all : true ≡ false = sym here ∙ (ap (list_any (λ (x : Entry). x.place == place)) (sym (take_all i es done)) ∙ none) in absurd (cc)

-- and what it finds is the entry of the card there
pub entry_found : (es : List Entry) (cards : List (List ℕ)) (place i : ℕ) (d : Entry) → IsIndexOf es cards → i < length es → (get_or es i d).place ≡ place → get_or es i d ≡ entry_of (card_of cards place) place
entry_found es cards place i d index within at = index-entries es cards index i d within ∙ ap (λ p. entry_of (card_of cards p) p) at
