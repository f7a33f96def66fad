-- The index of cards, made by a stable sort.
use Rattle.std.proofs.Common.{map, ◌≡◌, ℕ, suc, ◌+◌, ◌<◌, ◌≤◌, Bool, true, false, cond, List, [], ◌∷◌, ◌++◌, length, take, get_or, filter, ap, subst, sym, ◌∙◌, refl, arith}
use Rattle.std.specs.List.{AllPairs, All}
use Rattle.std.specs.List.Sorted.{IsSorted, IsStableByKey, IsNonDecreasingBy, ties}
use Rattle.std.specs.Ordering.{nat_cmp, is_lt}
use Rattle.std.proofs.lemmas.Bool.{false≢true}
use Rattle.std.proofs.lemmas.Bool.Decides.{nat_tests}
use Rattle.std.proofs.lemmas.List.{length-map, get_or-map, take_all, take_more, length-take-le}
use Rattle.std.proofs.lemmas.List.Elements.{All-nil, All-cons, All-more, All-tail, filter_agree}
use Rattle.std.proofs.lemmas.List.Kept.{AllPairs-cons, AllPairs-filter}
use Rattle.fits_header.specs.declared.entry.Entry.{Entry}
use Rattle.fits_header.specs.Index.{IsSortedIndex, IsInOrder, is_named, entry_of, entries_from, AreSame}
use Rattle.fits_header.specs.Names.{AreNamed, IsName}
use Rattle.fits_card.specs.Card.{keyword_name}
use Rattle.fits_header.proofs.EntriesLemmas.{entries-append, entries-high}

-- one more
pub entries_more : (ms : List (List ℕ)) (i : ℕ) (d : List ℕ) → i < length ms → entries_from 1 (take i ms) ++ entry_of (get_or ms i d) (i + 1) ∷ [] ≡ entries_from 1 (take (i + 1) ms)
entries_more ms i d within =
    sym (ap (entries_from 1) (take_more ms i d within)
    ∙ (entries-append 1 (take i ms) (get_or ms i d ∷ [])
    ∙ ap (λ p. entries_from 1 (take i ms) ++ entry_of (get_or ms i d) p ∷ []) {x = 1 + length (take i ms)} {y = i + 1} (omega (arith, length-take-le i ms (omega arith)))))

-- the entries of so many cards, with one more
pub entries_push : (cards : List (List ℕ)) (es : List Entry) (e : Entry) (i : ℕ) (card : List ℕ) → i < length cards → es ≡ entries_from 1 (take i cards) → card ≡ get_or cards i card → e ≡ entry_of card (i + 1)
    → es ++ e ∷ [] ≡ entries_from 1 (take (i + 1) cards)
entries_push cards es e i card within was at is = rw (was, is ∙ ap (λ c. entry_of c (i + 1)) at) (entries_more cards i card within)

-- one more name is a name
pub named_push : (cards : List (List ℕ)) (i : ℕ) (card : List ℕ) → i < length cards → AreNamed (take i cards) → card ≡ get_or cards i card → IsName (keyword_name card) → AreNamed (take (i + 1) cards)
named_push cards i card within named at own = All-more (λ (c : List ℕ). IsName (keyword_name c)) cards i card within named (subst (λ c. IsName (keyword_name c)) at own)

-- in the end all are
pub named_all : (cards : List (List ℕ)) (i : ℕ) → length cards ≤ i → AreNamed (take i cards) → AreNamed cards
named_all cards i done named = subst AreNamed (take_all i cards done) named

pub ruleset open_steps = (entries_push, named_push, named_all)

-- the same name is a tie
same_name : (name : ℕ) (x y : Entry) → x.name ≡ name → ties (λ a b. is_lt (nat_cmp a.name b.name)) x y ≡ is_named name y
same_name name x y h = grind (arith, nat_tests)

-- a stable sort by name leaves the entries of each name as they were
pub same_from_stable : (es fs : List Entry) → IsStableByKey (λ (e : Entry). e.name) nat_cmp fs es → AreSame es fs
same_from_stable es fs stable name =
    let x : Entry = record { name = name; place = 0; has_value = false } in
    sym (filter_agree _ _ (λ y. same_name name x y refl) es) ∙ (stable x ∙ filter_agree _ _ (λ y. same_name name x y refl) fs)

-- at most the next is below
less : (p q : ℕ) → p + 1 ≤ q → p < q
less p q h = omega arith

-- the places of entries rise
pub entries-rise : (p : ℕ) (ms : List (List ℕ)) → AllPairs (λ (a b : Entry). a.place < b.place) (entries_from p ms)
entries-rise p [] = λ i j d l m. absurd (omega arith)
entries-rise p (m ∷ ms) =
    AllPairs-cons (λ (a b : Entry). a.place < b.place) (entry_of m p) (entries_from (p + 1) ms) (λ k d l. less p _ (entries-high (p + 1) (p + 1) ms (omega arith) k d l)) (entries-rise (p + 1) ms)

-- what holds of all that pass, by the first
all_of_cond : (P : Entry → Type 0) (p : Entry → Bool) (b : Bool) (e : Entry) (es : List Entry) → p e ≡ b → (All P (filter p es) → All (λ e. p e ≡ true → P e) es) → All P (cond b (e ∷ filter p es) (filter p es)) → All (λ e. p e ≡ true → P e) (e ∷ es)
all_of_cond P p true e es is more h = All-cons (λ e. p e ≡ true → P e) e es (λ t. h 0 e (omega arith)) (more (All-tail P e (filter p es) h))
all_of_cond P p false e es is more h = All-cons (λ e. p e ≡ true → P e) e es (λ t. absurd (false≢true (sym is ∙ t))) (more h)

-- what holds of all that pass a filter
all_of_filter : (P : Entry → Type 0) (p : Entry → Bool) (es : List Entry) → All P (filter p es) → All (λ e. p e ≡ true → P e) es
all_of_filter P p [] h = All-nil (λ e. p e ≡ true → P e)
all_of_filter P p (e ∷ es) h = all_of_cond P p (p e) e es refl (all_of_filter P p es) h

-- an entry of that name
named : (name : ℕ) (e : Entry) → name ≡ e.name → is_named name e ≡ true
named name e h = grind (arith, nat_tests)

-- pairs with one more are pairs
kept_pairs : (b : Bool) (e : Entry) (es : List Entry) → AllPairs (λ (a b : Entry). a.place < b.place) (cond b (e ∷ es) es) → AllPairs (λ (a b : Entry). a.place < b.place) es
kept_pairs true e es h = λ i j d l m. h (suc i) (suc j) d (omega arith) (omega arith)
kept_pairs false e es h = h

-- pairs of one name are in the order of their filter
pub pairs_by_name : (es : List Entry) → ((name : ℕ) → AllPairs (λ (a b : Entry). a.place < b.place) (filter (is_named name) es)) → AllPairs (λ (a b : Entry). a.name ≡ b.name → a.place < b.place) es
pairs_by_name [] h = λ i j d l m. absurd (omega arith)
pairs_by_name (e ∷ es) h =
    let own : is_named e.name e ≡ true = grind (arith, nat_tests) in
    let here : AllPairs (λ (a b : Entry). a.place < b.place) (e ∷ filter (is_named e.name) es) = rw own at (h e.name) in
    let behind : All (λ (b : Entry). is_named e.name b ≡ true → e.place < b.place) es =
    all_of_filter (λ (b : Entry). e.place < b.place) (is_named e.name) es (λ k d l. here 0 (suc k) d (omega arith) (omega arith)) in
    AllPairs-cons (λ (a b : Entry). a.name ≡ b.name → a.place < b.place) e es
    (λ k d l same. behind k d l (named e.name (get_or es k d) same))
    (pairs_by_name es (λ name. kept_pairs (is_named name e) e (filter (is_named name) es) (h name)))

-- by name, and in one name by place, is in order
in_order : (a b : Entry) → a.name ≤ b.name → (a.name ≡ b.name → a.place < b.place) → IsInOrder a b
in_order a b h g = grind (arith, nat_tests)

-- so what a stable sort gives is a sorted index
pub sorted_from_stable : (es : List Entry) (ms : List (List ℕ)) → IsNonDecreasingBy (λ (e : Entry). e.name) es → AreSame es (entries_from 1 ms) → IsSortedIndex es
sorted_from_stable es ms up same i j d less within =
    in_order (get_or es i d) (get_or es j d) (up i j d (omega arith) within)
    (pairs_by_name es (λ name. rw (same name) (AllPairs-filter (λ (a b : Entry). a.place < b.place) (is_named name) (entries_from 1 ms) (entries-rise 1 ms))) i j d less within)

-- in order, no name is above the next
names_up : (a b : Entry) → IsInOrder a b → is_lt (nat_cmp b.name a.name) ≡ false
names_up a b h = grind (arith, nat_tests)

-- the names of the index do not fall
pub sorted_names : (es : List Entry) → IsSortedIndex es → IsSorted nat_cmp (map (λ (e : Entry). e.name) es)
sorted_names es sorted k d low within =
    let e : Entry = record { name = d; place = 0; has_value = false } in
    let size = length-map es (λ (e : Entry). e.name) in
    rw (get_or-map (λ (e : Entry). e.name) es (k + 1) e d (omega arith), get_or-map (λ (e : Entry). e.name) es k e d (omega arith))
    (names_up (get_or es k e) (get_or es (k + 1) e) (sorted k (k + 1) e (omega arith) (omega arith)))
