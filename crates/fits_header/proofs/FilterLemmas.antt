-- Filters, and lists in order.
use Rattle.std.proofs.Common.{◌≡◌, ℕ, zero, suc, ◌<◌, ◌≤◌, Bool, true, false, not, cond, ◌||◌, List, [], ◌∷◌, ◌++◌, length, take, drop, get_or, map, filter, ap, sym, ◌∙◌, refl, arith}
use Rattle.std.specs.List.{AllPairs, All, list_any}
use Rattle.std.proofs.lemmas.List.Elements.{All-append, All-tail, All-map}
use Rattle.std.proofs.lemmas.List.Kept.{AllPairs-cons}

-- a filter that passes all, or none
pub filter_all : {X : Type 0} (p : X → Bool) (xs : List X) → All (λ x. p x ≡ true) xs → filter p xs ≡ xs
filter_all p [] h = refl
filter_all p (x ∷ xs) h = rw (h 0 x (omega arith)) (ap (λ ys. x ∷ ys) (filter_all p xs (All-tail (λ x. p x ≡ true) x xs h)))

-- of elements that all fail none is left
pub filter_none : {X : Type 0} (p : X → Bool) (xs : List X) → All (λ x. p x ≡ false) xs → filter p xs ≡ []
filter_none p [] h = refl
filter_none p (x ∷ xs) h = rw (h 0 x (omega arith)) (filter_none p xs (All-tail (λ x. p x ≡ false) x xs h))

-- a filter of one of two lists
filter-cond : {X : Type 0} (p : X → Bool) (b : Bool) (xs ys : List X) → filter p (cond b xs ys) ≡ cond b (filter p xs) (filter p ys)
filter-cond p true xs ys = refl
filter-cond p false xs ys = refl

-- two tests in either order
swap_cond : {X : Type 0} (a b : Bool) (x : X) (xs ys : List X) → xs ≡ ys → cond a (cond b (x ∷ xs) xs) xs ≡ cond b (cond a (x ∷ ys) ys) ys
swap_cond true true x xs ys e = ap (λ zs. x ∷ zs) e
swap_cond true false x xs ys e = e
swap_cond false true x xs ys e = e
swap_cond false false x xs ys e = e

-- two filters in either order
pub filter-filter : {X : Type 0} (p q : X → Bool) (xs : List X) → filter p (filter q xs) ≡ filter q (filter p xs)
filter-filter p q [] = refl
filter-filter p q (x ∷ xs) =
    filter-cond p (q x) (x ∷ filter q xs) (filter q xs)
    ∙ (swap_cond (q x) (p x) x (filter p (filter q xs)) (filter q (filter p xs)) (filter-filter p q xs)
    ∙ sym (filter-cond q (p x) (x ∷ filter p xs) (filter p xs)))

-- a map of one of two lists
map-cond : {X Y : Type 0} (f : X → Y) (b : Bool) (xs ys : List X) → map f (cond b xs ys) ≡ cond b (map f xs) (map f ys)
map-cond f true xs ys = refl
map-cond f false xs ys = refl

-- a filter of what a function gives
pub filter-map : {X Y : Type 0} (p : Y → Bool) (f : X → Y) (xs : List X) → filter p (map f xs) ≡ map f (filter (λ x. p (f x)) xs)
filter-map p f [] = refl
filter-map p f (x ∷ xs) = ap (λ ys. cond (p (f x)) (f x ∷ ys) ys) (filter-map p f xs) ∙ sym (map-cond f (p (f x)) (x ∷ filter (λ x. p (f x)) xs) (filter (λ x. p (f x)) xs))

-- filters that agree on the list
pub filter_same_on : {X : Type 0} (p q : X → Bool) (xs : List X) → All (λ x. p x ≡ q x) xs → filter p xs ≡ filter q xs
filter_same_on p q [] h = refl
filter_same_on p q (x ∷ xs) h =
    ap (λ b. cond b (x ∷ filter p xs) (filter p xs)) (h 0 x (omega arith)) ∙ ap (λ ys. cond (q x) (x ∷ ys) ys) (filter_same_on p q xs (All-tail (λ x. p x ≡ q x) x xs h))

-- what passes first, and then what doesn't
pub take_filter : {X : Type 0} (p : X → Bool) (xs : List X) (i : ℕ) → ((k : ℕ) (d : X) → k < i → p (get_or xs k d) ≡ true) → ((k : ℕ) (d : X) → i ≤ k → k < length xs → p (get_or xs k d) ≡ false) → i ≤ length xs → take i xs ≡ filter p xs
take_filter p xs zero passes fails within = sym (filter_none p xs (λ k d l. fails k d (omega arith) l))
take_filter p [] (suc i) passes fails within = refl
take_filter p (x ∷ xs) (suc i) passes fails within =
    rw (passes 0 x (omega arith)) (ap (λ ys. x ∷ ys) (take_filter p xs i (λ k d l. passes (suc k) d (omega arith)) (λ k d l m. fails (suc k) d (omega arith) (omega arith)) (omega arith)))

-- behind a partition point stand those that fail
pub drop_filter : {X : Type 0} (p : X → Bool) (xs : List X) (i : ℕ) → ((k : ℕ) (d : X) → k < i → p (get_or xs k d) ≡ true) → ((k : ℕ) (d : X) → i ≤ k → k < length xs → p (get_or xs k d) ≡ false) → i ≤ length xs → drop i xs ≡ filter (λ x. not (p x)) xs
drop_filter p xs zero passes fails within = sym (filter_all (λ x. not (p x)) xs (λ k d l. ap not (fails k d (omega arith) l)))
drop_filter p [] (suc i) passes fails within = refl
drop_filter p (x ∷ xs) (suc i) passes fails within =
    rw (passes 0 x (omega arith)) (drop_filter p xs i (λ k d l. passes (suc k) d (omega arith)) (λ k d l m. fails (suc k) d (omega arith) (omega arith)) (omega arith))

-- lists in order, joined
pub AllPairs-append : {X : Type 0} (R : X → X → Type 0) (xs ys : List X) → AllPairs R xs → AllPairs R ys → All (λ x. All (R x) ys) xs → AllPairs R (xs ++ ys)
AllPairs-append R [] ys one two cross = two
AllPairs-append R (x ∷ xs) ys one two cross =
    AllPairs-cons R x (xs ++ ys) (All-append (R x) xs ys (λ k d l. one 0 (suc k) d (omega arith) (omega arith)) (cross 0 x (omega arith)))
    (AllPairs-append R xs ys (λ i j d l m. one (suc i) (suc j) d (omega arith) (omega arith)) two (All-tail (λ x. All (R x) ys) x xs cross))

-- pairs in order stay so
pub AllPairs-map : {X Y : Type 0} (R : X → X → Type 0) (S : Y → Y → Type 0) (f : X → Y) → ((a b : X) → R a b → S (f a) (f b)) → (xs : List X) → AllPairs R xs → AllPairs S (map f xs)
AllPairs-map R S f keeps [] h = λ i j d l m. absurd (omega arith)
AllPairs-map R S f keeps (x ∷ xs) h =
    AllPairs-cons S (f x) (map f xs) (All-map (S (f x)) f xs (λ k d l. keeps x (get_or xs k d) (h 0 (suc k) d (omega arith) (omega arith))))
    (AllPairs-map R S f keeps xs (λ i j d l m. h (suc i) (suc j) d (omega arith) (omega arith)))

-- whether a list has an element
abbrev is_some_list : {X : Type 0} → List X → Bool
is_some_list [] = false
is_some_list (x ∷ xs) = true

-- with one element more or not
some_step : {X : Type 0} (b : Bool) (x : X) (xs : List X) → (b || is_some_list xs) ≡ is_some_list (cond b (x ∷ xs) xs)
some_step true x xs = refl
some_step false x xs = refl

-- one passes exactly where the filter leaves some
any-filter : {X : Type 0} (p : X → Bool) (xs : List X) → list_any p xs ≡ is_some_list (filter p xs)
any-filter p [] = refl
any-filter p (x ∷ xs) = ap (λ b. p x || b) (any-filter p xs) ∙ some_step (p x) x (filter p xs)

-- lists of the same elements that pass
pub any-same : {X : Type 0} (p : X → Bool) (xs ys : List X) → filter p xs ≡ filter p ys → list_any p xs ≡ list_any p ys
any-same p xs ys same = any-filter p xs ∙ (ap is_some_list same ∙ sym (any-filter p ys))
