-- The names of a header, each once, ascending.
use Rattle.std.proofs.Common.{◌≡◌, ℕ, suc, ◌+◌, ◌<◌, ◌≤◌, ◌==◌, ◌||◌, ◌^◌, nat_lt, nat_eq, Bool, true, false, cond, List, [], ◌∷◌, get_or, filter, map, ap, sym, ◌∙◌, refl, subst, arith, inl, inr}
use Rattle.std.specs.List.{All, AllPairs, dedup, list_any}
use Rattle.std.specs.List.Sorted.{IsStrictlyIncreasing}
use Rattle.std.specs.Int.{to_be_bytes, w64}
use Rattle.std.specs.Cmp.{nat_eq_equiv}
use Rattle.std.specs.Str.{bytes_eq}
use Rattle.std.proofs.lemmas.Bool.{cases_lt}
use Rattle.std.proofs.lemmas.Bool.Decides.{nat_tests}
use Rattle.std.proofs.lemmas.List.Elements.{All-nil, All-cons, All-tail}
use Rattle.std.proofs.lemmas.List.Kept.{AllPairs-cons, AllPairs-from_increasing, Contains-dedup_nat, Contains-from_dedup}
use Rattle.std.proofs.lemmas.Map.Views.{list_any-from_Contains, Contains-from_any}
use Rattle.fits_card.specs.Card.{keyword_name}
use Rattle.fits_header.specs.declared.entry.Entry.{Entry}
use Rattle.fits_header.specs.Index.{is_named, entries_from, IsIndexOf}
use Rattle.fits_header.specs.Names.{AreNamed, IsName, name_number, is_before, with_name, header_names}
use Rattle.fits_header.proofs.NumberLemmas.{before-number, same-number, name-bytes, bytes-name, bytes-number, number-fits}

-- ascending numbers with one more, where it goes, unless it is there
abbrev with_number : ℕ → List ℕ → List ℕ
with_number n [] = n ∷ []
with_number n (m ∷ ms) = cond (nat_lt n m) (n ∷ m ∷ ms) (cond (n == m) (m ∷ ms) (m ∷ with_number n ms))

-- the numbers of the cards' names, each once, ascending
abbrev pub numbers_of : List (List ℕ) → List ℕ
numbers_of [] = []
numbers_of (card ∷ cards) = with_number (name_number (keyword_name card)) (numbers_of cards)

-- the number is among these
abbrev has_number : ℕ → List ℕ → Bool
has_number n ms = list_any (nat_eq n) ms

-- what holds of the number and of the others
All-with_by : (P : ℕ → Type 0) (a b : Bool) (n m : ℕ) (ms : List ℕ) → P n → P m → All P ms → All P (with_number n ms) → All P (cond a (n ∷ m ∷ ms) (cond b (m ∷ ms) (m ∷ with_number n ms)))
All-with_by P true b n m ms here first others more = All-cons P n (m ∷ ms) here (All-cons P m ms first others)
All-with_by P false true n m ms here first others more = All-cons P m ms first others
All-with_by P false false n m ms here first others more = All-cons P m (with_number n ms) first more

-- what holds of a number and of all others holds of all with it
All-with : (P : ℕ → Type 0) (n : ℕ) (ms : List ℕ) → P n → All P ms → All P (with_number n ms)
All-with P n [] here others = All-cons P n [] here (All-nil P)
All-with P n (m ∷ ms) here others =
    All-with_by P (nat_lt n m) (n == m) n m ms here (others 0 m (omega arith)) (All-tail P m ms others) (All-with P n ms here (All-tail P m ms others))

-- each is smaller than all behind it
abbrev pub Rises : List ℕ → Type 0
Rises ns = AllPairs (λ (x y : ℕ). x < y) ns

-- the rest of rising numbers rises
pub rises_tail : (n : ℕ) (ns : List ℕ) → Rises (n ∷ ns) → Rises ns
rises_tail n ns h = λ i j d l m. h (suc i) (suc j) d (omega arith) (omega arith)

-- and lies above the first
pub rises_first : (n : ℕ) (ns : List ℕ) → Rises (n ∷ ns) → All (λ m. n < m) ns
rises_first n ns h = λ k d l. h 0 (suc k) d (omega arith) (omega arith)

-- below the first is below all
lower_all : (n m : ℕ) (ms : List ℕ) → n < m → All (λ k. m < k) ms → All (λ k. n < k) ms
lower_all n m ms less h = λ k d l. before n m (get_or ms k d) less (h k d l)
  where
    before : (n m p : ℕ) → n < m → m < p → n < p
    before n m p h g = omega arith

-- rising numbers with one more still rise
rises-with_by : (a b : Bool) (n m : ℕ) (ms : List ℕ) → nat_lt n m ≡ a → (n == m) ≡ b → Rises (m ∷ ms) → Rises (with_number n ms) → Rises (cond a (n ∷ m ∷ ms) (cond b (m ∷ ms) (m ∷ with_number n ms)))
rises-with_by true b n m ms is _ h more =
    let less : n < m = grind (arith, nat_tests) in
    AllPairs-cons (λ (x y : ℕ). x < y) n (m ∷ ms) (All-cons (λ k. n < k) m ms less (lower_all n m ms less (rises_first m ms h))) h
rises-with_by false true n m ms _ _ h more = h
rises-with_by false false n m ms is isnt h more =
    let less : m < n = grind (arith, nat_tests) in
    AllPairs-cons (λ (x y : ℕ). x < y) m (with_number n ms) (All-with (λ k. m < k) n ms less (rises_first m ms h)) more

-- numbers that rise do so with one more
rises-with : (n : ℕ) (ms : List ℕ) → Rises ms → Rises (with_number n ms)
rises-with n [] h = λ i j d l m. absurd (omega arith)
rises-with n (m ∷ ms) h = rises-with_by (nat_lt n m) (n == m) n m ms refl refl h (rises-with n ms (rises_tail m ms h))

-- three facts in another order
pub or_swap : (a b c : Bool) → (a || (b || c)) ≡ (b || (a || c))
or_swap true true c = refl
or_swap true false c = refl
or_swap false true c = refl
or_swap false false c = refl

-- a fact said twice
pub or_same : (a c : Bool) → (a || c) ≡ (a || (a || c))
or_same true c = refl
or_same false c = refl

-- a number is among those with one more where it is that one, or was there
has-with_by : (a b : Bool) (q n m : ℕ) (ms : List ℕ) → (n == m) ≡ b → has_number q (with_number n ms) ≡ (nat_eq q n || has_number q ms)
    → has_number q (cond a (n ∷ m ∷ ms) (cond b (m ∷ ms) (m ∷ with_number n ms))) ≡ (nat_eq q n || (nat_eq q m || has_number q ms))
has-with_by true b q n m ms is more = refl
has-with_by false true q n m ms is more =
    let same : n ≡ m = grind (arith, nat_tests) in
    or_same (nat_eq q m) (has_number q ms) ∙ ap (λ k. nat_eq q k || (nat_eq q m || has_number q ms)) (sym same)
has-with_by false false q n m ms is more = ap (λ b. nat_eq q m || b) more ∙ or_swap (nat_eq q m) (nat_eq q n) (has_number q ms)

-- which are there then
has-with : (q n : ℕ) (ms : List ℕ) → has_number q (with_number n ms) ≡ (nat_eq q n || has_number q ms)
has-with q n [] = refl
has-with q n (m ∷ ms) = has-with_by (nat_lt n m) (n == m) q n m ms refl (has-with q n ms)

-- a number below all isn't there
none_lower : (q : ℕ) (ms : List ℕ) → All (λ m. q < m) ms → has_number q ms ≡ false
none_lower q [] h = refl
none_lower q (m ∷ ms) h =
    let less : q < m = h 0 m (omega arith) in
    let t : nat_eq q m ≡ false = grind (arith, nat_tests) in
    rw t (none_lower q ms (All-tail (λ m. q < m) m ms h))

-- the first number is there
is_there : (q : ℕ) (ms : List ℕ) → has_number q (q ∷ ms) ≡ true
is_there q ms = let t : nat_eq q q ≡ true = grind (arith, nat_tests) in rw t refl

-- the first is the same
first_same : (x y : ℕ) (xs ys : List ℕ) → Rises (x ∷ xs) → Rises (y ∷ ys) → ((q : ℕ) → has_number q (x ∷ xs) ≡ has_number q (y ∷ ys)) → y ≤ x
first_same x y xs ys up rise same =
    elim (cases_lt x y) [
      | inl less ↦ let h : true ≡ false = sym (is_there x xs) ∙ (same x ∙ none_lower x (y ∷ ys) (All-cons (λ k. x < k) y ys less (lower_all x y ys less (rises_first y ys rise)))) in absurd (cc)
      | inr no_less ↦ no_less
    ]

-- two rising lists of the same numbers have the same ones behind the first
rest_by : (b : Bool) (q x : ℕ) (xs ys : List ℕ) → nat_eq q x ≡ b → All (λ k. x < k) xs → All (λ k. x < k) ys → (b || has_number q xs) ≡ (b || has_number q ys) → has_number q xs ≡ has_number q ys
rest_by true q x xs ys is low high h =
    let same : q ≡ x = grind (arith, nat_tests) in
    rw same (none_lower x xs low ∙ sym (none_lower x ys high))
rest_by false q x xs ys is low high h = h

-- rising lists of the same numbers are the same
rising_same : (xs ys : List ℕ) → Rises xs → Rises ys → ((q : ℕ) → has_number q xs ≡ has_number q ys) → xs ≡ ys
rising_same [] [] up rise same = refl
rising_same [] (y ∷ ys) up rise same = let h : false ≡ true = same y ∙ is_there y ys in absurd (cc)
rising_same (x ∷ xs) [] up rise same = let h : true ≡ false = sym (is_there x xs) ∙ same x in absurd (cc)
rising_same (x ∷ xs) (y ∷ ys) up rise same =
    let low : y ≤ x = first_same x y xs ys up rise same in
    let high : x ≤ y = first_same y x ys xs rise up (λ q. sym (same q)) in
    let first : x ≡ y = omega arith in
    let rise' : Rises (x ∷ ys) = subst (λ z. Rises (z ∷ ys)) (sym first) rise in
    let same' : (q : ℕ) → has_number q (x ∷ xs) ≡ has_number q (x ∷ ys) = λ q. same q ∙ ap (λ z. has_number q (z ∷ ys)) (sym first) in
    ap (λ z. z ∷ xs) first ∙ ap (λ zs. y ∷ zs) (rising_same xs ys (rises_tail x xs up) (rises_tail y ys rise)
    (λ q. rest_by (nat_eq q x) q x xs ys refl (rises_first x xs up) (rises_first x ys rise') (same' q)))

-- the numbers of cards rise
pub numbers-rise : (cards : List (List ℕ)) → Rises (numbers_of cards)
numbers-rise [] = λ i j d l m. absurd (omega arith)
numbers-rise (card ∷ cards) = rises-with (name_number (keyword_name card)) (numbers_of cards) (numbers-rise cards)

-- the entries have the number
abbrev is_some : ℕ → List Entry → Bool
is_some q es = list_any (is_named q) es

-- the two tests of equal numbers agree
same_eq : (q n : ℕ) → nat_eq q n ≡ (n == q)
same_eq q n = grind (arith, nat_tests)

-- a header has a number where an entry of it is there
has-entries : (q p : ℕ) (cards : List (List ℕ)) → has_number q (numbers_of cards) ≡ is_some q (entries_from p cards)
has-entries q p [] = refl
has-entries q p (card ∷ cards) =
    has-with q (name_number (keyword_name card)) (numbers_of cards)
    ∙ (ap (λ b. b || has_number q (numbers_of cards)) (same_eq q (name_number (keyword_name card))) ∙ ap (λ b. (name_number (keyword_name card) == q) || b) (has-entries q (p + 1) cards))

-- an entry of a number, with one entry more
some_by : (b : Bool) (q : ℕ) (e : Entry) (es : List Entry) → is_named q e ≡ b → is_some q (cond b (e ∷ filter (is_named q) es) (filter (is_named q) es)) ≡ (b || is_some q (filter (is_named q) es))
some_by true q e es is = rw is refl
some_by false q e es is = refl

-- a filter tells
some-filter : (q : ℕ) (es : List Entry) → is_some q (filter (is_named q) es) ≡ is_some q es
some-filter q [] = refl
some-filter q (e ∷ es) = some_by (is_named q e) q e es refl ∙ ap (λ b. is_named q e || b) (some-filter q es)

-- the names of entries, as numbers
has-names : (q : ℕ) (es : List Entry) → has_number q (map (λ (e : Entry). e.name) es) ≡ is_some q es
has-names q [] = refl
has-names q (e ∷ es) = ap (λ b. b || has_number q (map (λ (e : Entry). e.name) es)) (same_eq q e.name) ∙ ap (λ b. (e.name == q) || b) (has-names q es)

-- two tests that imply each other are equal
pub iff : (a b : Bool) → (a ≡ true → b ≡ true) → (b ≡ true → a ≡ true) → a ≡ b
iff true b h g = sym (h refl)
iff false true h g = g refl
iff false false h g = refl

-- equal by the test is equal
equal : (x y : ℕ) → nat_eq x y ≡ true → x ≡ y
equal x y h = grind (arith, nat_tests)

-- duplicates don't matter
has-dedup : (q : ℕ) (ns : List ℕ) → has_number q (dedup nat_eq ns) ≡ has_number q ns
has-dedup q ns =
    iff (has_number q (dedup nat_eq ns)) (has_number q ns)
    (λ h. list_any-from_Contains nat_eq_equiv q ns (Contains-from_dedup nat_eq ns q (Contains-from_any equal q (dedup nat_eq ns) h)))
    (λ h. list_any-from_Contains nat_eq_equiv q (dedup nat_eq ns) (Contains-dedup_nat ns q (Contains-from_any equal q ns h)))

-- a name comes among names as its number does among numbers
map-with_by : (a b : Bool) (name : List ℕ) (n m : ℕ) (ms : List ℕ) → to_be_bytes w64 n ≡ name → with_name name (map (to_be_bytes w64) ms) ≡ map (to_be_bytes w64) (with_number n ms)
    → cond a (name ∷ map (to_be_bytes w64) (m ∷ ms)) (cond b (map (to_be_bytes w64) (m ∷ ms)) (to_be_bytes w64 m ∷ with_name name (map (to_be_bytes w64) ms)))
    ≡ map (to_be_bytes w64) (cond a (n ∷ m ∷ ms) (cond b (m ∷ ms) (m ∷ with_number n ms)))
map-with_by true b name n m ms is more = ap (λ z. z ∷ map (to_be_bytes w64) (m ∷ ms)) (sym is)
map-with_by false true name n m ms is more = refl
map-with_by false false name n m ms is more = ap (λ zs. to_be_bytes w64 m ∷ zs) more

-- a name is put among names where its number is among theirs
map-with : (name : List ℕ) (ms : List ℕ) → IsName name → All (λ m. m < 2 ^ 64) ms → with_name name (map (to_be_bytes w64) ms) ≡ map (to_be_bytes w64) (with_number (name_number name) ms)
map-with name [] is fits = ap (λ z. z ∷ []) (sym (name-bytes name is))
map-with name (m ∷ ms) is fits =
    let n = name_number name in
    let first = to_be_bytes w64 m in
    let own : name_number first ≡ m = bytes-number m (fits 0 m (omega arith)) in
    let less : is_before name first ≡ nat_lt n m = before-number name first is (bytes-name m) ∙ ap (nat_lt n) own in
    let same : bytes_eq name first ≡ (n == m) = same-number name first is (bytes-name m) ∙ ap (λ k. n == k) own in
    ap (λ a. cond a (name ∷ map (to_be_bytes w64) (m ∷ ms)) (cond (bytes_eq name first) (map (to_be_bytes w64) (m ∷ ms)) (first ∷ with_name name (map (to_be_bytes w64) ms)))) less
    ∙ (ap (λ b. cond (nat_lt n m) (name ∷ map (to_be_bytes w64) (m ∷ ms)) (cond b (map (to_be_bytes w64) (m ∷ ms)) (first ∷ with_name name (map (to_be_bytes w64) ms)))) same
    ∙ map-with_by (nat_lt n m) (n == m) name n m ms (name-bytes name is) (map-with name ms is (All-tail (λ m. m < 2 ^ 64) m ms fits)))

-- the numbers of names have 64 bits
pub numbers-fit : (cards : List (List ℕ)) → AreNamed cards → All (λ m. m < 2 ^ 64) (numbers_of cards)
numbers-fit [] named = All-nil (λ m. m < 2 ^ 64)
numbers-fit (card ∷ cards) named =
    All-with (λ m. m < 2 ^ 64) (name_number (keyword_name card)) (numbers_of cards) (number-fits (keyword_name card) (named 0 card (omega arith))) (numbers-fit cards (All-tail (λ (card : List ℕ). IsName (keyword_name card)) card cards named))

-- the names of a header are those of its numbers
pub names-numbers : (cards : List (List ℕ)) → AreNamed cards → header_names cards ≡ map (to_be_bytes w64) (numbers_of cards)
names-numbers [] named = refl
names-numbers (card ∷ cards) named =
    let others = All-tail (λ (card : List ℕ). IsName (keyword_name card)) card cards named in
    ap (with_name (keyword_name card)) (names-numbers cards others) ∙ map-with (keyword_name card) (numbers_of cards) (named 0 card (omega arith)) (numbers-fit cards others)

-- the names that an index has
pub index-names : (es : List Entry) (cards : List (List ℕ)) → IsIndexOf es cards → IsStrictlyIncreasing (dedup nat_eq (map (λ (e : Entry). e.name) es))
    → map (to_be_bytes w64) (dedup nat_eq (map (λ (e : Entry). e.name) es)) ≡ header_names cards
index-names es cards index rise =
    let numbers = map (λ (e : Entry). e.name) es in
    let same : (q : ℕ) → has_number q (dedup nat_eq numbers) ≡ has_number q (numbers_of cards) = λ q.
    has-dedup q numbers ∙ (has-names q es ∙ (sym (some-filter q es) ∙ (ap (is_some q) (index.same q) ∙ (some-filter q (entries_from 1 cards) ∙ sym (has-entries q 1 cards))))) in
    ap (map (to_be_bytes w64)) (rising_same (dedup nat_eq numbers) (numbers_of cards) (AllPairs-from_increasing (dedup nat_eq numbers) rise) (numbers-rise cards) same)
    ∙ sym (names-numbers cards index.named)

pub ruleset name_steps = (index-names)
