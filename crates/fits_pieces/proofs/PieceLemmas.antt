-- Lists of bytes one after the other, each of a size but the last.
use Rattle.std.proofs.Common.{◌≡◌, ◌≤◌, ◌<◌, ◌+◌, ◌-◌, ◌*◌, ℕ, zero, suc, List, [], ◌∷◌, ◌++◌, length, slice_index, min, take, drop, refl, arith, sym, ◌∙◌, ap, inl, inr, ◌⊎◌, append-nil}
use Rattle.std.specs.List.{flat_map, range_with_len}
use Rattle.std.proofs.lemmas.Bool.{cases_lt}
use Rattle.std.proofs.lemmas.List.{length-append, take_all, drop_all, take_at, drop_at, drop-drop}

-- so many lists from list a on, one after the other
abbrev pub parts : (ℕ → List ℕ) → ℕ → ℕ → List ℕ
parts f a n = flat_map f (range_with_len a n)

-- list j of them has as many bytes of all as a size lets it
abbrev pub ArePartsOf : ℕ → ℕ → (ℕ → List ℕ) → Type 0
ArePartsOf m total f = (j : ℕ) → length (f j) ≡ min m (total - m * j)

-- a list of no elements
none_of : (xs : List ℕ) → length xs ≡ 0 → xs ≡ []
none_of [] e = refl
none_of (x ∷ xs) e = absurd (omega (arith, e))

-- bytes before others are bytes with them
pub small-append : (xs ys : List ℕ) → ((k : ℕ) → slice_index xs k < 256) → ((k : ℕ) → slice_index ys k < 256) → (k : ℕ) → slice_index (xs ++ ys) k < 256
small-append [] ys p q k = q k
small-append (x ∷ xs) ys p q zero = p 0
small-append (x ∷ xs) ys p q (suc k) = small-append xs ys (λ j. p (suc j)) q k

-- they are bytes where each list's are
pub small-parts : (f : ℕ → List ℕ) (a n : ℕ) → ((j k : ℕ) → slice_index (f j) k < 256) → (k : ℕ) → slice_index (parts f a n) k < 256
small-parts f a zero h k = omega arith
small-parts f a (suc n) h k = small-append (f a) (parts f (a + 1) n) (h a) (small-parts f (a + 1) n h) k

-- two such lists are the same where theirs are
pub parts-same : (f g : ℕ → List ℕ) (a n : ℕ) → ((j : ℕ) → f j ≡ g j) → parts f a n ≡ parts g a n
parts-same f g a zero h = refl
parts-same f g a (suc n) h = ap (λ xs. xs ++ parts f (a + 1) n) (h a) ∙ ap (λ ys. g a ++ ys) (parts-same f g (a + 1) n h)

-- how long they are
pub length-parts : (m total : ℕ) (f : ℕ → List ℕ) (a n : ℕ) → ArePartsOf m total f → length (parts f a n) ≡ min (m * n) (total - m * a)
length-parts m total f a zero h = omega arith
length-parts m total f a (suc n) h =
    let ih = length-parts m total f (a + 1) n h in
    let more : m * suc n ≡ m * n + m = omega arith in
    let next : m * (a + 1) ≡ m * a + m = omega arith in
    omega (arith, length-append (f a) (parts f (a + 1) n), ih, h a, more, next)

-- the first of two lists is the front of both, where it is full or the other has no elements
front_is : (m : ℕ) (xs ys : List ℕ) → length xs ≤ m → (length xs ≡ m) ⊎ (ys ≡ []) → take m (drop (m * 0) (xs ++ ys)) ≡ xs
front_is m xs ys most h =
    let start : m * 0 ≡ 0 = omega arith in
    ap (λ i. take m (drop i (xs ++ ys))) start ∙ elim h [
      | inl full ↦ take_at xs ys m full
      | inr none ↦ ap (λ zs. take m (xs ++ zs)) none ∙ take_all m (xs ++ []) (omega (arith, length-append xs [], most)) ∙ append-nil xs
    ]

-- behind a list that is full the others begin
behind_full : (m k : ℕ) (xs ys : List ℕ) → length xs ≡ m → take m (drop (m * suc k) (xs ++ ys)) ≡ take m (drop (m * k) ys)
behind_full m k xs ys full =
    let more : m * suc k ≡ m + m * k = omega arith in
    ap (λ i. take m (drop i (xs ++ ys))) more ∙ ap (take m) (sym (drop-drop (m * k) m (xs ++ ys))) ∙ ap (λ zs. take m (drop (m * k) zs)) (drop_at xs ys m full)

-- behind one that isn't full there are none
behind_short : (m k : ℕ) (xs ys : List ℕ) → length xs ≤ m → ys ≡ [] → take m (drop (m * suc k) (xs ++ ys)) ≡ []
behind_short m k xs ys most none =
    let more : m * suc k ≡ m + m * k = omega arith in
    let few : length (xs ++ ys) ≤ m * suc k = omega (arith, length-append xs ys, ap length none, most, more) in
    ap (take m) (drop_all (m * suc k) (xs ++ ys) few) ∙ take_all m [] (omega arith)

-- where a list isn't full those after it have no elements
none_after : (m total : ℕ) (f : ℕ → List ℕ) (a k : ℕ) → ArePartsOf m total f → length (f a) < m → f (a + suc k) ≡ []
none_after m total f a k h short =
    let more : m * (a + suc k) ≡ m * a + m * k + m = omega arith in
    none_of (f (a + suc k)) (omega (arith, h a, h (a + suc k), short, more))

-- nor have all of them
rest_none : (m total : ℕ) (f : ℕ → List ℕ) (a n : ℕ) → ArePartsOf m total f → length (f a) < m → parts f (a + 1) n ≡ []
rest_none m total f a n h short =
    let next : m * (a + 1) ≡ m * a + m = omega arith in
    none_of (parts f (a + 1) n) (omega (arith, length-parts m total f (a + 1) n h, h a, next, short))

-- a part of them is the list there
pub part-parts : (m total : ℕ) (f : ℕ → List ℕ) (a n k : ℕ) → ArePartsOf m total f → k < n → take m (drop (m * k) (parts f a n)) ≡ f (a + k)
part-parts m total f a zero k h b = absurd (omega (arith, b))
part-parts m total f a (suc n) zero h b =
    let here : a ≡ a + 0 = omega arith in
    let most : length (f a) ≤ m = omega (arith, h a) in
    front_is m (f a) (parts f (a + 1) n) most (elim (cases_lt (length (f a)) m) [
      | inl short ↦ inr (rest_none m total f a n h short)
      | inr full ↦ inl (omega (arith, full, most))
    ]) ∙ ap f here
part-parts m total f a (suc n) (suc k) h b =
    let next : a + 1 + k ≡ a + suc k = omega arith in
    let most : length (f a) ≤ m = omega (arith, h a) in
    elim (cases_lt (length (f a)) m) [
      | inl short ↦ behind_short m k (f a) (parts f (a + 1) n) most (rest_none m total f a n h short) ∙ sym (none_after m total f a k h short)
      | inr full ↦ behind_full m k (f a) (parts f (a + 1) n) (omega (arith, full, most)) ∙ part-parts m total f (a + 1) n k h (omega (arith, b)) ∙ ap f next
    ]
