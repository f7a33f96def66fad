-- The index through changes.
use Rattle.std.proofs.Common.{◌≡◌, ℕ, suc, ◌+◌, ◌-◌, ◌<◌, ◌≤◌, nat_lt, set, length-append, length-drop, true, false, not, List, [], ◌∷◌, ◌++◌, length, take, drop, get_or, map, filter, ap, sym, ◌∙◌, refl, append-nil, subst, arith, ◌⊎◌, inl, inr}
use Rattle.std.specs.List.{All}
use Rattle.std.specs.Prelude.{insert}
use Rattle.std.proofs.Math.Seq.{length-paste, paste, set_split}
use Rattle.fits_card.proofs.SpliceLemmas.{moved-on-before, moved-on-after}
use Rattle.std.specs.List.Sorted.{IsPartitionedBy}
use Rattle.std.proofs.lemmas.Bool.{cases_lt}
use Rattle.std.proofs.lemmas.Bool.Decides.{nat_tests}
use Rattle.std.proofs.lemmas.List.Elements.{All-cons, All-tail, All-map, filter-append, filter_passes}
use Rattle.std.proofs.lemmas.List.Kept.{AllPairs-cons, AllPairs-filter}
use Rattle.std.proofs.lemmas.List.{drop_all, take-append-le, take_all}
use Rattle.fits_header.specs.declared.entry.Entry.{Entry}
use Rattle.fits_header.specs.Index.{IsSortedIndex, IsInOrder, comes_before, added, is_named, shifted, stays, AreSame}
use Rattle.fits_header.proofs.FilterLemmas.{filter_all, filter_none, filter-filter, filter-map, filter_same_on, AllPairs-append}

-- the rest of a list moved on by one, and another item put there
moved-there : {X : Type 0} (xs : List X) (x : X) (at n : ℕ) → at ≤ length xs → n ≡ length xs - at → set (paste (xs ++ x ∷ []) (at + 1) (drop at (xs ++ x ∷ [])) n) at x ≡ insert xs at x
moved-there {X = X} xs x at n low is =
    let all = xs ++ x ∷ [] in
    let ys = paste all (at + 1) (drop at all) n in
    let next : suc at ≡ at + 1 = omega arith in
    let size = length-paste all (at + 1) (drop at all) n (omega (arith, length-append xs (x ∷ []))) (omega (arith, length-append xs (x ∷ []), length-drop at all)) in
    set_split ys at x (omega (arith, size, length-append xs (x ∷ [])))
    ∙ (ap (λ (us : List X). us ++ x ∷ drop (suc at) ys) (moved-on-before xs (x ∷ []) at 1 n low refl)
    ∙ ap (λ (us : List X). take at xs ++ x ∷ us) (ap (λ (k : ℕ). drop k ys) next ∙ moved-on-after xs (x ∷ []) at 1 n low refl is))

-- the same where it was put behind them first
pub put-there : {X : Type 0} (xs : List X) (x : X) (at len n : ℕ) → at ≤ length xs → len ≡ length xs → n ≡ length xs - at → set (paste (insert xs len x) (at + 1) (drop at (insert xs len x)) n) at x ≡ insert xs at x
put-there {X = X} xs x at len n low size is =
    let front : take len xs ≡ xs = take_all len xs (omega (arith, size)) in
    let behind : drop len xs ≡ [] = drop_all len xs (omega (arith, size)) in
    let last : insert xs len x ≡ xs ++ x ∷ [] = ap (λ (us : List X). us ++ x ∷ drop len xs) front ∙ ap (λ (us : List X). xs ++ x ∷ us) behind in
    ap (λ (all : List X). set (paste all (at + 1) (drop at all) n) at x) last ∙ moved-there xs x at n low is

pub ruleset put_steps = (put-there)

-- what comes before something comes before all that is no earlier
before-in_order : (n p : ℕ) (a b : Entry) → IsInOrder a b → comes_before n p b ≡ true → comes_before n p a ≡ true
before-in_order n p a b order h = grind (arith, nat_tests)

-- an entry that comes before is in order
in_order-before : (x e : Entry) → comes_before e.name e.place x ≡ true → IsInOrder x e
in_order-before x e h = grind (arith, nat_tests)

-- also with all that don't come before
in_order-through : (x e y : Entry) → comes_before e.name e.place x ≡ true → comes_before e.name e.place y ≡ false → IsInOrder x y
in_order-through x e y h g = grind (arith, nat_tests)

-- a sorted index is parted at every name and place
pub sorted-parted : (es : List Entry) (n p : ℕ) → IsSortedIndex es → IsPartitionedBy (comes_before n p) es
sorted-parted es n p sorted i j d up within h =
    elim (cases_lt i j) [
      | inl less ↦ before-in_order n p (get_or es i d) (get_or es j d) (sorted i j d less within) h
      | inr same ↦ subst (λ k. comes_before n p (get_or es k d) ≡ true) {x = j} (omega arith) h
    ]

-- a new entry at its place keeps it sorted
pub sorted-added : (es : List Entry) (e : Entry) → IsSortedIndex es → IsSortedIndex (added es e)
sorted-added es e sorted =
    let before = filter (comes_before e.name e.place) es in
    let behind = filter (λ x. not (comes_before e.name e.place x)) es in
    let first : All (λ x. comes_before e.name e.place x ≡ true) before = filter_passes (comes_before e.name e.place) es in
    let last : All (λ x. not (comes_before e.name e.place x) ≡ true) behind = filter_passes (λ x. not (comes_before e.name e.place x)) es in
    let fails : All (λ x. comes_before e.name e.place x ≡ false) behind = λ k d l. grind (arith, last k d l) in
    AllPairs-append IsInOrder before (e ∷ behind) (AllPairs-filter IsInOrder (comes_before e.name e.place) es sorted)
    (AllPairs-cons IsInOrder e behind fails (AllPairs-filter IsInOrder (λ x. not (comes_before e.name e.place x)) es sorted))
    (λ k d l. All-cons (IsInOrder (get_or before k d)) e behind (in_order-before (get_or before k d) e (first k d l))
    (λ j c m. in_order-through (get_or before k d) e (get_or behind j c) (first k d l) (fails j c m)))

-- two entries that stay keep their order
shifted-in_order : (place removed coming : ℕ) (a b : Entry) → stays place removed a ≡ true → stays place removed b ≡ true → IsInOrder a b → IsInOrder (shifted place removed coming a) (shifted place removed coming b)
shifted-in_order place removed coming a b sa sb order = grind (arith, nat_tests)

-- so all do
shifted-pairs : (place removed coming : ℕ) (es : List Entry) → All (λ x. stays place removed x ≡ true) es → IsSortedIndex es → IsSortedIndex (map (shifted place removed coming) es)
shifted-pairs place removed coming [] stay sorted = λ i j d l m. absurd (omega arith)
shifted-pairs place removed coming (x ∷ xs) stay sorted =
    AllPairs-cons IsInOrder (shifted place removed coming x) (map (shifted place removed coming) xs)
    (All-map (IsInOrder (shifted place removed coming x)) (shifted place removed coming) xs
    (λ k d l. shifted-in_order place removed coming x (get_or xs k d) (stay 0 d (omega arith)) (stay (suc k) d (omega arith)) (sorted 0 (suc k) d (omega arith) (omega arith))))
    (shifted-pairs place removed coming xs (All-tail (λ x. stays place removed x ≡ true) x xs stay) (λ i j d l m. sorted (suc i) (suc j) d (omega arith) (omega arith)))

-- entries in order stay so where some go and the others shift
pub sorted-shifted : (es : List Entry) (place removed coming : ℕ) → IsSortedIndex es → IsSortedIndex (map (shifted place removed coming) (filter (stays place removed) es))
sorted-shifted es place removed coming sorted =
    shifted-pairs place removed coming (filter (stays place removed) es) (filter_passes (stays place removed) es) (AllPairs-filter IsInOrder (stays place removed) es sorted)

-- what is written over a vector's front is all that it has
pub all_written : {X : Type 0} (xs ys : List X) (n : ℕ) → length xs ≡ n → take n (xs ++ drop (length xs) ys) ≡ xs
all_written xs ys n e = rw (← e) (take-append-le (length xs) xs (drop (length xs) ys) (omega arith) ∙ take_all (length xs) xs (omega arith))

-- what is the same of each name stays so where entries are taken out
pub same-stay : (es fs : List Entry) (place removed : ℕ) → AreSame es fs → AreSame (filter (stays place removed) es) (filter (stays place removed) fs)
same-stay es fs place removed same name =
    filter-filter (is_named name) (stays place removed) es ∙ (ap (filter (stays place removed)) (same name) ∙ filter-filter (stays place removed) (is_named name) fs)

-- and where places move
pub same-shift : (es fs : List Entry) (place removed coming : ℕ) → AreSame es fs → AreSame (map (shifted place removed coming) es) (map (shifted place removed coming) fs)
same-shift es fs place removed coming same name =
    filter-map (is_named name) (shifted place removed coming) es ∙ (ap (map (shifted place removed coming)) (same name) ∙ sym (filter-map (is_named name) (shifted place removed coming) fs))

-- among entries of one name, places alone count
of_name : (name : ℕ) (es : List Entry) → All (λ x. is_named name x ≡ true) (filter (is_named name) es)
of_name name es = filter_passes (is_named name) es

-- of one name the place decides
by_place : (name p : ℕ) (x : Entry) → is_named name x ≡ true → comes_before name p x ≡ nat_lt x.place p
by_place name p x h = grind (arith, nat_tests)

-- a lower name comes before
all_before : (name n p : ℕ) (x : Entry) → name < n → is_named name x ≡ true → comes_before n p x ≡ true
all_before name n p x less h = grind (arith, nat_tests)

-- a higher one doesn't
none_before : (name n p : ℕ) (x : Entry) → n < name → is_named name x ≡ true → comes_before n p x ≡ false
none_before name n p x less h = grind (arith, nat_tests)

-- entries of a name, separated by an entry of the same name: those of the places before, and those behind
parted_before : (name p : ℕ) (es us vs : List Entry) → filter (is_named name) es ≡ filter (is_named name) (us ++ vs) → All (λ x. nat_lt x.place p ≡ true) us → All (λ x. nat_lt x.place p ≡ false) vs
    → filter (is_named name) (filter (comes_before name p) es) ≡ filter (is_named name) us
parted_before name p es us vs same low high =
    filter-filter (is_named name) (comes_before name p) es
    ∙ (filter_same_on (comes_before name p) (λ x. nat_lt x.place p) (filter (is_named name) es) (λ k d l. by_place name p (get_or (filter (is_named name) es) k d) (of_name name es k d l))
    ∙ (ap (filter (λ x. nat_lt x.place p)) same
    ∙ (filter-filter (λ x. nat_lt x.place p) (is_named name) (us ++ vs)
    ∙ ap (filter (is_named name)) (filter-append (λ (x : Entry). nat_lt x.place p) us vs ∙ (rw (filter_all (λ (x : Entry). nat_lt x.place p) us low, filter_none (λ (x : Entry). nat_lt x.place p) vs high) (append-nil us))))))

-- the entries of a name from a place on
pub parted_behind : (name p : ℕ) (es us vs : List Entry) → filter (is_named name) es ≡ filter (is_named name) (us ++ vs) → All (λ x. nat_lt x.place p ≡ true) us → All (λ x. nat_lt x.place p ≡ false) vs
    → filter (is_named name) (filter (λ x. not (comes_before name p x)) es) ≡ filter (is_named name) vs
parted_behind name p es us vs same low high =
    filter-filter (is_named name) (λ x. not (comes_before name p x)) es
    ∙ (filter_same_on (λ x. not (comes_before name p x)) (λ x. not (nat_lt x.place p)) (filter (is_named name) es) (λ k d l. ap not (by_place name p (get_or (filter (is_named name) es) k d) (of_name name es k d l)))
    ∙ (ap (filter (λ x. not (nat_lt x.place p))) same
    ∙ (filter-filter (λ x. not (nat_lt x.place p)) (is_named name) (us ++ vs)
    ∙ ap (filter (is_named name)) (filter-append (λ (x : Entry). not (nat_lt x.place p)) us vs ∙ rw (filter_none (λ (x : Entry). not (nat_lt x.place p)) us (λ k d l. ap not (low k d l)), filter_all (λ (x : Entry). not (nat_lt x.place p)) vs (λ k d l. ap not (high k d l))) refl))))

-- an entry of another name is in no filter
not_named : (name : ℕ) (e : Entry) (es : List Entry) → is_named name e ≡ false → filter (is_named name) (e ∷ es) ≡ filter (is_named name) es
not_named name e es h = rw h refl

-- an entry of the name is among those of it
is_there : (name : ℕ) (e : Entry) (es : List Entry) → is_named name e ≡ true → filter (is_named name) (e ∷ es) ≡ e ∷ filter (is_named name) es
is_there name e es h = rw h refl

-- the filter of an entry's two sides, where its name is another
other_sides : (name n p : ℕ) (es : List Entry) → (name < n) ⊎ (n < name) → filter (is_named name) (filter (comes_before n p) es) ++ filter (is_named name) (filter (λ x. not (comes_before n p x)) es) ≡ filter (is_named name) es
other_sides name n p es (inl less) =
    rw (
      filter-filter (is_named name) (comes_before n p) es,
      filter-filter (is_named name) (λ x. not (comes_before n p x)) es,
      filter_all (comes_before n p) (filter (is_named name) es) (λ k d l. all_before name n p (get_or (filter (is_named name) es) k d) less (of_name name es k d l)),
      filter_none (λ x. not (comes_before n p x)) (filter (is_named name) es) (λ k d l. ap not (all_before name n p (get_or (filter (is_named name) es) k d) less (of_name name es k d l))),
    )
    (append-nil (filter (is_named name) es))
other_sides name n p es (inr more) =
    rw (
      filter-filter (is_named name) (comes_before n p) es,
      filter-filter (is_named name) (λ x. not (comes_before n p x)) es,
      filter_none (comes_before n p) (filter (is_named name) es) (λ k d l. none_before name n p (get_or (filter (is_named name) es) k d) more (of_name name es k d l)),
      filter_all (λ x. not (comes_before n p x)) (filter (is_named name) es) (λ k d l. ap not (none_before name n p (get_or (filter (is_named name) es) k d) more (of_name name es k d l))),
    )
    refl

-- the entries of other names are as before
same-added_other : (name : ℕ) (es us vs : List Entry) (e : Entry) → (name < e.name) ⊎ (e.name < name) → is_named name e ≡ false → filter (is_named name) es ≡ filter (is_named name) (us ++ vs)
    → filter (is_named name) (added es e) ≡ filter (is_named name) (us ++ e ∷ vs)
same-added_other name es us vs e apart h same =
    let before = filter (comes_before e.name e.place) es in
    let behind = filter (λ x. not (comes_before e.name e.place x)) es in
    filter-append (is_named name) before (e ∷ behind)
    ∙ (ap (λ ys. filter (is_named name) before ++ ys) (not_named name e behind h)
    ∙ (other_sides name e.name e.place es apart
    ∙ (same
    ∙ (filter-append (is_named name) us vs
    ∙ (ap (λ ys. filter (is_named name) us ++ ys) (sym (not_named name e vs h))
    ∙ sym (filter-append (is_named name) us (e ∷ vs)))))))

-- those of the new entry's name have it at its place
same-added_own : (es us vs : List Entry) (e : Entry) → filter (is_named e.name) es ≡ filter (is_named e.name) (us ++ vs) → All (λ x. nat_lt x.place e.place ≡ true) us → All (λ x. nat_lt x.place e.place ≡ false) vs
    → filter (is_named e.name) (added es e) ≡ filter (is_named e.name) (us ++ e ∷ vs)
same-added_own es us vs e same low high =
    let before = filter (comes_before e.name e.place) es in
    let behind = filter (λ x. not (comes_before e.name e.place x)) es in
    let own : is_named e.name e ≡ true = grind (arith, nat_tests) in
    filter-append (is_named e.name) before (e ∷ behind)
    ∙ (rw (is_there e.name e behind own, parted_before e.name e.place es us vs same low high, parted_behind e.name e.place es us vs same low high)
    (ap (λ ys. filter (is_named e.name) us ++ ys) (sym (is_there e.name e vs own)))
    ∙ sym (filter-append (is_named e.name) us (e ∷ vs)))

-- so a new entry keeps the entries of each name in the order of places
pub same-added : (es us vs : List Entry) (e : Entry) → AreSame es (us ++ vs) → All (λ x. nat_lt x.place e.place ≡ true) us → All (λ x. nat_lt x.place e.place ≡ false) vs → AreSame (added es e) (us ++ e ∷ vs)
same-added es us vs e same low high name =
    elim (cases_lt name e.name) [
      | inl less ↦ same-added_other name es us vs e (inl less) (grind (arith, nat_tests)) (same name)
      | inr more ↦ elim (cases_lt e.name name) [
        | inl less ↦ same-added_other name es us vs e (inr less) (grind (arith, nat_tests)) (same name)
        | inr equal ↦ subst (λ n. filter (is_named n) (added es e) ≡ filter (is_named n) (us ++ e ∷ vs)) {x = e.name} (omega arith) (same-added_own es us vs e (same e.name) low high)
      ]
    ]
