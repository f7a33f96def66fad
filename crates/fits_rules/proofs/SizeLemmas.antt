-- Numbers of 64 bits on the way to a size.
use Rattle.std.proofs.Common.{◌≡◌, ℕ, ◌+◌, ◌*◌, ◌<◌, ◌≤◌, ◌^◌, List, [], ◌∷◌, ◌++◌, length, get_or, take, Option, Some, None, refl, ap, sym, ◌∙◌, ⊎_elim, IfSome, IfNone, SomeIff, arith}
use Rattle.std.proofs.lemmas.List.{take_more, take_all}
use Rattle.std.proofs.lemmas.Bool.{le-leb, lt-leb, cases_lt}
use Rattle.std.proofs.Math.Nat.{mul_comm, mul_assoc, le-mul_of_pos_right}
use Rattle.fits_rules.specs.Size.{product, array_values}
use Rattle.fits_rules.specs.SizeSteps.{limited}

-- a number of 64 bits
pub limited_within : (n : ℕ) → n ≤ 18446744073709551615 → Some n ≡ limited n
unfolding limited
limited_within n h = rw (le-leb n 18446744073709551615 h) refl

-- a larger one
pub limited_past : (n : ℕ) → 18446744073709551615 < n → None ≡ limited n
unfolding limited
limited_past n h = rw (lt-leb n 18446744073709551615 h) refl

-- what is known of a number by what became of it
limited_some : (m n : ℕ) → Some m ≡ limited n → (m ≡ n) × (n ≤ 18446744073709551615)
limited_some m n e = ⊎_elim (λ past. absurd (differ (e ∙ sym (limited_past n past)))) (λ within. (same (e ∙ sym (limited_within n within)), within)) (cases_lt 18446744073709551615 n)
  where
    differ : Some m ≡ None → ⊥
    differ d = cc

    same : Some m ≡ Some n → m ≡ n
    same d = cc

-- a larger number
limited_none : (n : ℕ) → None ≡ limited n → 18446744073709551615 < n
limited_none n e = ⊎_elim (λ past. past) (λ within. absurd (differ (e ∙ sym (limited_within n within)))) (cases_lt 18446744073709551615 n)
  where
    differ : None ≡ Some n → ⊥
    differ d = cc

-- a result that is there exactly where it has 64 bits
checked : (o : Option ℕ) (n : ℕ) → SomeIff o (n < 2 ^ 64) n → o ≡ limited n
checked None n h = limited_past n (⊎_elim (λ past. past) (λ within. absurd (h (omega arith))) (cases_lt 18446744073709551615 n))
checked (Some m) n h = ap Some h.1 ∙ limited_within n (omega (arith, h.0))

-- a factor
pub times_zero : (factor : ℕ) (number : Option ℕ) → factor ≡ 0 → (n : ℕ) → number ≡ limited n → Some 0 ≡ limited (factor * n)
times_zero factor number zero n e = limited_within 0 (omega arith) ∙ ap limited (sym (ap (λ f. f * n) zero ∙ none n))
  where
    none : (n : ℕ) → 0 * n ≡ 0
    none n = omega arith

-- a factor of a number of 64 bits
pub times_some : (factor m : ℕ) (number o : Option ℕ) → number ≡ Some m → SomeIff o (factor * m < 2 ^ 64) (factor * m) → (n : ℕ) → number ≡ limited n → o ≡ limited (factor * n)
times_some factor m number o is h n e = checked o (factor * m) h ∙ ap (λ k. limited (factor * k)) (limited_some m n (sym is ∙ e)).0

-- a factor of a larger number
pub times_none : (factor : ℕ) (number : Option ℕ) → number ≡ None → (factor ≡ 0 → ⊥) → (n : ℕ) → number ≡ limited n → None ≡ limited (factor * n)
times_none factor number is some n e =
    let past : 18446744073709551615 < n = limited_none n (sym is ∙ e) in
    let grows : n ≤ n * factor = le-mul_of_pos_right n (omega arith) in
    limited_past (factor * n) (omega (arith, mul_comm factor n))

pub ruleset times_steps = (times_zero, times_some, times_none)

-- more
pub plus_some : (more m : ℕ) (number o : Option ℕ) → number ≡ Some m → SomeIff o (more + m < 2 ^ 64) (more + m) → (n : ℕ) → number ≡ limited n → o ≡ limited (more + n)
plus_some more m number o is h n e = checked o (more + m) h ∙ ap (λ k. limited (more + k)) (limited_some m n (sym is ∙ e)).0

-- more than a larger number
pub plus_none : (more : ℕ) (number : Option ℕ) → number ≡ None → (n : ℕ) → number ≡ limited n → None ≡ limited (more + n)
plus_none more number is n e = limited_past (more + n) (omega (arith, limited_none n (sym is ∙ e)))

pub ruleset plus_steps = (plus_some, plus_none)

-- a product and one more factor
product-push : (xs : List ℕ) (y : ℕ) → product (xs ++ y ∷ []) ≡ y * product xs
product-push [] y = refl
product-push (x ∷ xs) y = ap (λ n. x * n) (product-push xs y) ∙ (sym (mul_assoc x y (product xs)) ∙ (ap (λ n. n * product xs) (mul_comm x y) ∙ mul_assoc y x (product xs)))

-- the product of one more axis
product-more : (axes : List ℕ) (i d : ℕ) → i < length axes → product (take (i + 1) axes) ≡ get_or axes i d * product (take i axes)
product-more axes i d within = ap product (take_more axes i d within) ∙ product-push (take i axes) (get_or axes i d)

-- one before the first factor
pub array_begin : Some 1 ≡ limited 1
array_begin = limited_within 1 (omega arith)

-- one more axis
pub array_more : (axes : List ℕ) (i d : ℕ) (number next : Option ℕ) → i < length axes → ((n : ℕ) → number ≡ limited n → next ≡ limited (get_or axes i d * n)) → number ≡ limited (product (take i axes)) → next ≡ limited (product (take (i + 1) axes))
array_more axes i d number next within times e = times (product (take i axes)) e ∙ ap limited (sym (product-more axes i d within))

-- all axes
pub array_end : (axes : List ℕ) (i : ℕ) (number : Option ℕ) → length axes ≤ i → 0 < length axes → number ≡ limited (product (take i axes)) → number ≡ limited (array_values axes)
array_end [] i number end some e = absurd (omega arith)
array_end (axis ∷ axes) i number end some e = e ∙ ap (λ xs. limited (product xs)) (take_all i (axis ∷ axes) end)

-- no axes
pub array_none : (axes : List ℕ) → length axes ≡ 0 → Some 0 ≡ limited (array_values axes)
array_none [] none = limited_within 0 (omega arith)
array_none (axis ∷ axes) none = absurd (omega arith)

pub ruleset array_steps = (array_begin, array_more, array_end, array_none)

-- what a caller sees
pub size_some : (n : ℕ) (o : Option ℕ) → o ≡ limited n → IfSome o (λ bytes. bytes ≡ n)
size_some n None e = tt
size_some n (Some m) e = (limited_some m n e).0

-- a larger size
pub size_none : (n : ℕ) (o : Option ℕ) → o ≡ limited n → IfNone o (18446744073709551615 < n)
size_none n None e = limited_none n e
size_none n (Some m) e = tt

pub ruleset size_steps = (size_some, size_none)
