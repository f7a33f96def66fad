-- A list with other elements in the place of n from p on.
use Rattle.std.proofs.Common.{◌≡◌, ◌⊎◌, inl, inr, ℕ, ◌+◌, ◌-◌, ◌<◌, ◌≤◌, List, ◌++◌, length, get_or, take, drop, sym, ◌∙◌, ap, arith, append_assoc, length-append, length-take, length-drop}
use Rattle.std.proofs.lemmas.Bool.{cases_lt}
use Rattle.std.proofs.lemmas.List.{length-take-le, get_or_append_left, get_or-append_right, get_or-take, get_or-drop, take_at, drop_at, ext_get_or}

-- the list with these elements in the place of others
abbrev pub splice : ℕ → ℕ → List ℕ → List ℕ → List ℕ
splice p n y f = take p f ++ y ++ drop (p + n) f

module _ (p n : ℕ) (y f : List ℕ) (long : length y ≡ n) (within : p + n ≤ length f) where
  -- how long its front is
  front : length (take p f) ≡ p
  front = length-take-le p f (omega arith)

  -- and that with the new elements
  fronts : length (take p f ++ y) ≡ p + n
  fronts = omega (arith, length-append (take p f) y, front)

  pub length-splice : length (splice p n y f) ≡ length f
  length-splice = omega (arith, length-append (take p f ++ y) (drop (p + n) f), fronts, length-drop (p + n) f)

  pub splice_inside : (k : ℕ) → p ≤ k → k < p + n → get_or (splice p n y f) k 0 ≡ get_or y (k - p) 0
  splice_inside k low high =
      get_or_append_left (take p f ++ y) (drop (p + n) f) 0 k (omega (arith, fronts)) ∙ get_or-append_right (take p f) y p k 0 front low

  pub splice_outside : (k : ℕ) → (k < p) ⊎ (p + n ≤ k) → get_or (splice p n y f) k 0 ≡ get_or f k 0
  splice_outside k (inl low) =
      get_or_append_left (take p f ++ y) (drop (p + n) f) 0 k (omega (arith, fronts)) ∙ get_or_append_left (take p f) y 0 k (omega (arith, front)) ∙ get_or-take p f k 0 low
  splice_outside k (inr high) =
      let back : p + n + (k - (p + n)) ≡ k = omega arith in
      get_or-append_right (take p f ++ y) (drop (p + n) f) (p + n) k 0 fronts high ∙ get_or-drop (p + n) f (k - (p + n)) 0 ∙ ap (λ i. get_or f i 0) back

  -- the same, joined to the right
  split : splice p n y f ≡ take p f ++ (y ++ drop (p + n) f)
  split = append_assoc (take p f) y (drop (p + n) f)

  -- what was put there
  pub splice_here : take n (drop p (splice p n y f)) ≡ y
  splice_here =
      ap (λ (l : List ℕ). take n l) (ap (λ (l : List ℕ). drop p l) split ∙ drop_at (take p f) (y ++ drop (p + n) f) p front) ∙ take_at y (drop (p + n) f) n long

  -- the last that is put there stays
  pub splice_again : (z : List ℕ) → splice p n z (splice p n y f) ≡ splice p n z f
  splice_again z =
      let fore : take p (splice p n y f) ≡ take p f = ap (λ (l : List ℕ). take p l) split ∙ take_at (take p f) (y ++ drop (p + n) f) p front in
      let aft : drop (p + n) (splice p n y f) ≡ drop (p + n) f = drop_at (take p f ++ y) (drop (p + n) f) (p + n) fronts in
      ap (λ (l : List ℕ). l ++ z ++ drop (p + n) (splice p n y f)) fore ∙ ap (λ (l : List ℕ). take p f ++ z ++ l) aft

  -- what stands elsewhere
  pub splice_there : (q : ℕ) → (q + n ≤ p) ⊎ (p + n ≤ q) → take n (drop q (splice p n y f)) ≡ take n (drop q f)
  splice_there q apart = ext_get_or 0 (take n (drop q (splice p n y f))) (take n (drop q f)) sizes each
    where
      sizes : length (take n (drop q (splice p n y f))) ≡ length (take n (drop q f))
      sizes = omega (arith, length-take n (drop q (splice p n y f)), length-take n (drop q f), length-drop q (splice p n y f), length-drop q f, length-splice)

      beside : (k : ℕ) → k < n → (q + n ≤ p) ⊎ (p + n ≤ q) → (q + k < p) ⊎ (p + n ≤ q + k)
      beside k low (inl before) = inl (omega arith)
      beside k low (inr after) = inr (omega arith)

      each : (k : ℕ) → k < length (take n (drop q (splice p n y f))) → get_or (take n (drop q (splice p n y f))) k 0 ≡ get_or (take n (drop q f)) k 0
      each k low =
          let small : k < n = omega (arith, length-take n (drop q (splice p n y f))) in
          get_or-take n (drop q (splice p n y f)) k 0 small
          ∙ get_or-drop q (splice p n y f) k 0
          ∙ splice_outside (q + k) (beside k small apart)
          ∙ sym (get_or-drop q f k 0)
          ∙ sym (get_or-take n (drop q f) k 0 small)

-- two that don't meet are put there in either order
pub splice_comm : (p q n : ℕ) (y z f : List ℕ) → length y ≡ n → length z ≡ n → p + n ≤ q → q + n ≤ length f → splice p n y (splice q n z f) ≡ splice q n z (splice p n y f)
splice_comm p q n y z f long_y long_z apart within = ext_get_or 0 _ _ (first ∙ sym second) (λ k low. each k (cases_lt k p) (cases_lt k (p + n)) (cases_lt k q) (cases_lt k (q + n)))
  where
    size_z : length (splice q n z f) ≡ length f
    size_z = length-splice q n z f long_z within

    size_y : length (splice p n y f) ≡ length f
    size_y = length-splice p n y f long_y (omega arith)

    in_y : p + n ≤ length (splice q n z f)
    in_y = omega (arith, size_z)

    in_z : q + n ≤ length (splice p n y f)
    in_z = omega (arith, size_y)

    first : length (splice p n y (splice q n z f)) ≡ length f
    first = length-splice p n y (splice q n z f) long_y in_y ∙ size_z

    second : length (splice q n z (splice p n y f)) ≡ length f
    second = length-splice q n z (splice p n y f) long_z in_z ∙ size_y

    outside : (k : ℕ) → (k < p) ⊎ (p + n ≤ k) → (k < q) ⊎ (q + n ≤ k) → get_or (splice p n y (splice q n z f)) k 0 ≡ get_or (splice q n z (splice p n y f)) k 0
    outside k off_y off_z =
        splice_outside p n y (splice q n z f) long_y in_y k off_y
        ∙ splice_outside q n z f long_z within k off_z
        ∙ sym (splice_outside p n y f long_y (omega arith) k off_y)
        ∙ sym (splice_outside q n z (splice p n y f) long_z in_z k off_z)

    each : (k : ℕ) → (k < p) ⊎ (p ≤ k) → (k < p + n) ⊎ (p + n ≤ k) → (k < q) ⊎ (q ≤ k) → (k < q + n) ⊎ (q + n ≤ k) → get_or (splice p n y (splice q n z f)) k 0 ≡ get_or (splice q n z (splice p n y f)) k 0
    each k (inl a) b c d = outside k (inl a) (inl (omega arith))
    each k (inr a) (inl b) c d =
        splice_inside p n y (splice q n z f) long_y in_y k a b
        ∙ sym (splice_inside p n y f long_y (omega arith) k a b)
        ∙ sym (splice_outside q n z (splice p n y f) long_z in_z k (inl (omega arith)))
    each k (inr a) (inr b) (inl c) d = outside k (inr b) (inl c)
    each k (inr a) (inr b) (inr c) (inl d) =
        splice_outside p n y (splice q n z f) long_y in_y k (inr b)
        ∙ splice_inside q n z f long_z within k c d
        ∙ sym (splice_inside q n z (splice p n y f) long_z in_z k c d)
    each k (inr a) (inr b) (inr c) (inr d) = outside k (inr b) (inr d)
