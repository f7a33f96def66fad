-- What the index of cards answers.
use Rattle.std.proofs.Common.{◌≡◌, ℕ, suc, ◌+◌, ◌==◌, ◌&&◌, nat_lt, ◌||◌, Bool, true, false, not, cond, List, [], ◌∷◌, length, filter, ap, sym, ◌∙◌, refl, arith, Option, Some, None}
use Rattle.std.specs.List.{list_any, position, position_or_len}
use Rattle.std.specs.Option.{option_map}
use Rattle.std.proofs.lemmas.Bool.Decides.{nat_tests}
use Rattle.std.proofs.lemmas.List.Elements.{All-tail}
use Rattle.fits_card.specs.Card.{keyword_name, has_value}
use Rattle.fits_rules.specs.Lead.{is_value_of, lead_place}
use Rattle.fits_header.specs.declared.entry.Entry.{Entry}
use Rattle.fits_header.specs.Index.{is_named, entry_of, entries_from, first_value, places_in, IsIndexOf}
use Rattle.fits_header.specs.Names.{AreNamed, IsName, name_number}
use Rattle.fits_header.specs.Places.{has_name, places_from, keyword_places}
use Rattle.fits_header.proofs.FilterLemmas.{any-same}
use Rattle.fits_header.proofs.NumberLemmas.{same-number}

-- the places of entries, with one more or not
place_step : (b : Bool) (p : ℕ) (e : Entry) (es : List Entry) (ps : List ℕ) → e.place ≡ p → places_in es ≡ ps → places_in (cond b (e ∷ es) es) ≡ cond b (p ∷ ps) ps
place_step true p e es ps h more = cc
place_step false p e es ps h more = more

-- the places of a name
places_are : (p : ℕ) (cards : List (List ℕ)) (name : List ℕ) → AreNamed cards → IsName name → places_in (filter (is_named (name_number name)) (entries_from p cards)) ≡ places_from p cards name
places_are p [] name named is = refl
places_are p (card ∷ cards) name named is =
    place_step (name_number (keyword_name card) == name_number name) p (entry_of card p) _ _ refl (places_are (p + 1) cards name (All-tail (λ (card : List ℕ). IsName (keyword_name card)) card cards named) is)
    ∙ ap (λ b. cond b (p ∷ places_from (p + 1) cards name) (places_from (p + 1) cards name)) (sym (same-number (keyword_name card) name (named 0 card (omega arith)) is))

-- an index answers the places of a name
pub index-places : (es : List Entry) (cards : List (List ℕ)) (name : List ℕ) → IsIndexOf es cards → IsName name → places_in (filter (is_named (name_number name)) es) ≡ keyword_places cards name
index-places es cards name index h = ap places_in (index.same (name_number name)) ∙ places_are 1 cards name index.named h

-- where the lead stands
pos_some : (b : Bool) (k : ℕ) → cond b (Some (1 + k)) None ≡ option_map (λ i. i + 1) (cond b (Some k) None)
pos_some true k = ap Some (omega arith)
pos_some false k = refl

-- where the first one stands, one further
pos_step : (b : Bool) (k n : ℕ) → cond (nat_lt (cond (not b) (1 + k) 0) (suc n)) (Some (cond (not b) (1 + k) 0)) None ≡ cond b (Some 0) (option_map (λ i. i + 1) (cond (nat_lt k n) (Some k) None))
pos_step true k n = let t : nat_lt 0 (suc n) ≡ true = grind (arith, nat_tests) in rw t refl
pos_step false k n = let t : nat_lt (1 + k) (suc n) ≡ nat_lt k n = grind (arith, nat_tests) in rw t (pos_some (nat_lt k n) k)

-- where the first one that passes stands, by the first of a list
pub position_cons : {X : Type 0} (q : X → Bool) (m : X) (ms : List X) → position q (m ∷ ms) ≡ cond (q m) (Some 0) (option_map (λ i. i + 1) (position q ms))
position_cons q m ms = pos_step (q m) (position_or_len q ms) (length ms)

-- adding in two steps
two_maps : (p : ℕ) (o : Option ℕ) → option_map (λ i. i + (p + 1)) o ≡ option_map (λ i. i + p) (option_map (λ i. i + 1) o)
two_maps p None = refl
two_maps p (Some k) = ap Some (omega arith)

-- the first with a value, with one entry more or not
lead_step : (b v : Bool) (p : ℕ) (e : Entry) (es : List Entry) (o : Option ℕ) → e.has_value ≡ v → e.place ≡ p → first_value es ≡ option_map (λ i. i + (p + 1)) o
    → first_value (cond b (e ∷ es) es) ≡ option_map (λ i. i + p) (cond (b && v) (Some 0) (option_map (λ i. i + 1) o))
lead_step true true p e es o h g r = rw (h, g) (ap Some (omega arith))
lead_step true false p e es o h g r = rw h (r ∙ two_maps p o)
lead_step false v p e es o h g r = r ∙ two_maps p o

-- equal numbers tell that a card has the name
pub value_test : (card name : List ℕ) → IsName (keyword_name card) → IsName name → ((name_number (keyword_name card) == name_number name) && has_value card) ≡ is_value_of name card
unfolding is_value_of
value_test card name named is = ap (λ b. b && has_value card) (sym (same-number (keyword_name card) name named is))

-- the first entry with a value is the first card that is the name's
pub lead_from : (p : ℕ) (cards : List (List ℕ)) (name : List ℕ) → AreNamed cards → IsName name → first_value (filter (is_named (name_number name)) (entries_from p cards)) ≡ option_map (λ i. i + p) (position (is_value_of name) cards)
lead_from p [] name named is = refl
lead_from p (card ∷ cards) name named is =
    lead_step (name_number (keyword_name card) == name_number name) (has_value card) p (entry_of card p) (filter (is_named (name_number name)) (entries_from (p + 1) cards)) (position (is_value_of name) cards) refl refl
    (lead_from (p + 1) cards name (All-tail (λ (card : List ℕ). IsName (keyword_name card)) card cards named) is)
    ∙ (ap (λ b. option_map (λ i. i + p) (cond b (Some 0) (option_map (λ i. i + 1) (position (is_value_of name) cards)))) (value_test card name (named 0 card (omega arith)) is)
    ∙ ap (option_map (λ i. i + p)) (sym (position_cons (is_value_of name) card cards)))

-- an index answers the lead of a name
pub index-lead : (es : List Entry) (cards : List (List ℕ)) (name : List ℕ) → IsIndexOf es cards → IsName name → first_value (filter (is_named (name_number name)) es) ≡ lead_place cards name
unfolding lead_place
index-lead es cards name index h = ap first_value (index.same (name_number name)) ∙ lead_from 1 cards name index.named h

-- an entry has a name exactly where a card does
any_named : (p : ℕ) (cards : List (List ℕ)) (name : List ℕ) → AreNamed cards → IsName name → list_any (is_named (name_number name)) (entries_from p cards) ≡ list_any (has_name name) cards
any_named p [] name named is = refl
any_named p (card ∷ cards) name named is =
    ap (λ b. (name_number (keyword_name card) == name_number name) || b) (any_named (p + 1) cards name (All-tail (λ (card : List ℕ). IsName (keyword_name card)) card cards named) is)
    ∙ ap (λ b. b || list_any (has_name name) cards) (sym (same-number (keyword_name card) name (named 0 card (omega arith)) is))

-- an index answers whether a card has a name
pub index-has : (es : List Entry) (cards : List (List ℕ)) (name : List ℕ) → IsIndexOf es cards → IsName name → list_any (is_named (name_number name)) es ≡ list_any (has_name name) cards
index-has es cards name index h =
    any-same (is_named (name_number name)) es (entries_from 1 cards) (index.same (name_number name)) ∙ any_named 1 cards name index.named h

pub ruleset answer_steps = (index-places, index-lead, index-has)
