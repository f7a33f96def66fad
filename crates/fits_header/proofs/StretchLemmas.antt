-- The lead among the cards of a stretch, by the index.
use Rattle.std.proofs.Common.{◌≡◌, ℕ, zero, suc, ◌+◌, ◌-◌, ◌<◌, ◌≤◌, nat_lt, Bool, true, false, cond, List, [], ◌∷◌, ◌++◌, take, drop, get_or, filter, ap, sym, ◌∙◌, refl, arith, Option, Some, None, length-take}
use Rattle.std.specs.List.{All, position}
use Rattle.std.specs.Option.{option_map}
use Rattle.std.proofs.lemmas.Bool.Decides.{nat_tests}
use Rattle.fits_card.specs.Card.{keyword_name}
use Rattle.fits_rules.specs.Lead.{is_value_of, lead_place}
use Rattle.fits_header.specs.declared.entry.Entry.{Entry}
use Rattle.fits_header.specs.Index.{entry_of, is_named, entries_from, first_value, from_place, before, IsIndexOf}
use Rattle.fits_header.specs.Names.{AreNamed, IsName, name_number}
use Rattle.fits_header.specs.Places.{lead_place_within}
use Rattle.fits_header.proofs.AnswerLemmas.{lead_from, position_cons}
use Rattle.fits_header.proofs.EntriesLemmas.{entries-low, entries-high, is_low, is_high}
use Rattle.fits_header.proofs.IndexLemmas.{parted_behind}
use Rattle.std.proofs.lemmas.List.Elements.{All-drop}

-- entries before a place and from it on
entries_parted : (p k : ℕ) (cards : List (List ℕ)) → entries_from p cards ≡ entries_from p (take k cards) ++ entries_from (p + k) (drop k cards)
entries_parted p zero cards = ap (λ q. entries_from q cards) {x = p} {y = p + 0} (omega arith)
entries_parted p (suc k) [] = refl
entries_parted p (suc k) (card ∷ cards) =
    ap (λ es. entry_of card p ∷ es) (entries_parted (p + 1) k cards ∙ ap (λ q. entries_from (p + 1) (take k cards) ++ entries_from q (drop k cards)) {x = p + 1 + k} {y = p + suc k} (omega arith))

-- the entries of a name from a place on are those of the cards from there on
entries_behind : (es : List Entry) (cards : List (List ℕ)) (name from : ℕ) → 1 ≤ from → IsIndexOf es cards → filter (is_named name) (from_place name from es) ≡ filter (is_named name) (entries_from from (drop (from - 1) cards))
entries_behind es cards name from one index =
    let us = entries_from 1 (take (from - 1) cards) in
    let vs = entries_from from (drop (from - 1) cards) in
    let parts : entries_from 1 cards ≡ us ++ vs = entries_parted 1 (from - 1) cards ∙ ap (λ q. us ++ entries_from q (drop (from - 1) cards)) {x = 1 + (from - 1)} {y = from} (omega arith) in
    let low : All (λ (x : Entry). x.place < from) us = entries-low 1 from (take (from - 1) cards) (omega (arith, length-take (from - 1) cards)) in
    let high : All (λ (x : Entry). from ≤ x.place) vs = entries-high from from (drop (from - 1) cards) (omega arith) in
    parted_behind name from es us vs (index.same name ∙ ap (filter (is_named name)) parts) (λ k d l. is_low from (get_or us k d) (low k d l)) (λ k d l. is_high from (get_or vs k d) (high k d l))

-- no place is before place 0
before_first : (o : Option ℕ) → None ≡ before 0 o
before_first None = refl
before_first (Some k) = let t : nat_lt k 0 ≡ false = grind (arith, nat_tests) in rw t refl

-- one place further
before_next : (b : Bool) (n : ℕ) (o : Option ℕ) → cond b (Some 0) (option_map (λ i. i + 1) (before n o)) ≡ before (suc n) (cond b (Some 0) (option_map (λ i. i + 1) o))
before_next true n o = let t : nat_lt 0 (suc n) ≡ true = grind (arith, nat_tests) in rw t refl
before_next false n None = refl
before_next false n (Some k) = let t : nat_lt (k + 1) (suc n) ≡ nat_lt k n = grind (arith, nat_tests) in rw t (one_by (nat_lt k n))
  where
    one_by : (b : Bool) → option_map (λ i. i + 1) (cond b (Some k) None) ≡ cond b (Some (k + 1)) None
    one_by true = refl
    one_by false = refl

-- the first that passes of so many
position-take : {X : Type 0} (q : X → Bool) (n : ℕ) (xs : List X) → position q (take n xs) ≡ before n (position q xs)
position-take q zero xs = before_first (position q xs)
position-take q (suc n) [] = refl
position-take q (suc n) (x ∷ xs) =
    position_cons q x (take n xs)
    ∙ (ap (λ o. cond (q x) (Some 0) (option_map (λ i. i + 1) o)) (position-take q n xs)
    ∙ (before_next (q x) n (position q xs) ∙ ap (before (suc n)) (sym (position_cons q x xs))))

-- an index from a place on as a place among all
place_among : (from to : ℕ) (o : Option ℕ) → 1 ≤ from → before to (option_map (λ i. i + from) o) ≡ option_map (λ place. place + (from - 1)) (option_map (λ i. i + 1) (before (to - from) o))
place_among from to None one = refl
place_among from to (Some k) one = let t : nat_lt (k + from) to ≡ nat_lt k (to - from) = grind (arith, nat_tests) in rw t (among_by (nat_lt k (to - from)))
  where
    among_by : (b : Bool) → cond b (Some (k + from)) None ≡ option_map (λ place. place + (from - 1)) (option_map (λ i. i + 1) (cond b (Some k) None))
    among_by true = ap Some (omega arith)
    among_by false = refl

-- names of the cards from a place on
named_behind : (cards : List (List ℕ)) (n : ℕ) → AreNamed cards → AreNamed (drop n cards)
named_behind cards n named = All-drop (λ (card : List ℕ). IsName (keyword_name card)) n cards named

-- an index answers the lead of a name among the cards of a stretch
pub index-lead_within : (es : List Entry) (cards : List (List ℕ)) (name : List ℕ) (from to : ℕ) → IsIndexOf es cards → IsName name → 1 ≤ from
    → before to (first_value (filter (is_named (name_number name)) (from_place (name_number name) from es))) ≡ lead_place_within cards name from to
unfolding lead_place
index-lead_within es cards name from to index h one =
    let behind = drop (from - 1) cards in
    ap (λ es. before to (first_value es)) (entries_behind es cards (name_number name) from one index)
    ∙ (ap (before to) (lead_from from behind name (named_behind cards (from - 1) index.named) h)
    ∙ (place_among from to (position (is_value_of name) behind) one
    ∙ ap (λ o. option_map (λ place. place + (from - 1)) (option_map (λ i. i + 1) o)) (sym (position-take (is_value_of name) (to - from) behind))))

pub ruleset within_steps = (index-lead_within)
