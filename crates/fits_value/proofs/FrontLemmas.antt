-- Prefixes of lists: the longest prefix whose elements pass a test.
use Rattle.std.proofs.Common.{◌≡◌, ℕ, ◌+◌, Bool, true, false, cond, List, [], ◌∷◌, ◌++◌, length, drop, take, Option, None, Some, suc, refl, sym, ◌∙◌, subst, arith, inl, inr, ◌⊎◌}
use Rattle.std.specs.List.{prefix_len, list_all, take_while}
use Rattle.std.specs.Option.{option_map}
use Rattle.std.proofs.lemmas.List.Sums.{take_while-cons}
use Rattle.std.proofs.lemmas.Bool.{and_parts, and_from, cond-true, cond-false, cond_both}

-- which way a test went
pub chosen : {X : Type 0} (b : Bool) (x y z : X) → cond b x y ≡ z → ((b ≡ true) × (x ≡ z)) ⊎ ((b ≡ false) × (y ≡ z))
chosen true x y z e = inl (refl, e)
chosen false x y z e = inr (refl, e)

-- what a mapped value comes from
pub option_map_some : {X Y : Type 0} (f : X → Y) (o : Option X) (y : Y) → option_map f o ≡ Some y → (x : X) × (o ≡ Some x) × (f x ≡ y)
option_map_some f None y e = absurd (cc)
option_map_some f (Some x) y e = (x, refl, (cc))

-- the list is empty or its head fails the test
abbrev pub Stops : (ℕ → Bool) → List ℕ → Type 0
Stops p [] = Unit {0}
Stops p (b ∷ s) = p b ≡ false

-- a prefix that passes, before a list that stops, is the longest one that passes
pub prefix_len-front : (p : ℕ → Bool) (xs ys : List ℕ) → list_all p xs ≡ true → Stops p ys → prefix_len p (xs ++ ys) ≡ length xs
prefix_len-front p [] [] all stops = refl
prefix_len-front p [] (y ∷ ys) all stops = cond-false (p y) _ _ stops
prefix_len-front p (x ∷ xs) ys all stops =
    let both = and_parts (p x) (list_all p xs) all in
    let rest = prefix_len-front p xs ys both.1 stops in
    cond-true (p x) _ _ both.0 ∙ (rw rest (omega arith))

-- the longest prefix that passes does pass
pub prefix_passes : (p : ℕ → Bool) (xs : List ℕ) → list_all p (take (prefix_len p xs) xs) ≡ true
prefix_passes p [] = refl
prefix_passes p (x ∷ xs) =
    subst (λ (s : List ℕ). list_all p s ≡ true) (sym (take_while-cons p x xs))
    (cond_both (p x) (x ∷ take_while p xs) [] (λ s. list_all p s ≡ true) (λ e. and_from (p x) _ e (prefix_passes p xs)) (λ e. refl))

-- what stands after the longest prefix that passes stops
pub prefix_stops : (p : ℕ → Bool) (xs : List ℕ) → Stops p (drop (prefix_len p xs) xs)
prefix_stops p [] = tt
prefix_stops p (x ∷ xs) =
    cond_both (p x) (1 + prefix_len p xs) 0 (λ n. Stops p (drop n (x ∷ xs)))
    (λ e. let s : 1 + prefix_len p xs ≡ suc (prefix_len p xs) = omega arith in rw s (prefix_stops p xs))
    (λ e. e)
