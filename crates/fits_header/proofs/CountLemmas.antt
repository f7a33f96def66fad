-- How many entries there are.
use Rattle.std.proofs.Common.{◌≡◌, ℕ, suc, ◌+◌, ◌<◌, Bool, true, false, cond, List, [], ◌∷◌, ◌++◌, length, filter, ap, sym, ◌∙◌, refl, subst, arith, ◌⊎◌, inl, inr, length-append}
use Rattle.std.proofs.lemmas.Bool.{cases_lt}
use Rattle.std.proofs.lemmas.Bool.Decides.{nat_tests}
use Rattle.fits_header.specs.declared.entry.Entry.{Entry}
use Rattle.fits_header.specs.Index.{is_named, entries_from, AreSame, IsIndexOf}

-- a list without the first that passes
abbrev without : {X : Type 0} → (X → Bool) → List X → List X
without p [] = []
without p (x ∷ xs) = cond (p x) xs (x ∷ without p xs)

-- a filter's step, by its test
shorter_by : {X : Type 0} (p : X → Bool) (b : Bool) (x y : X) (xs ys : List X) → (filter p xs ≡ y ∷ ys → length xs ≡ length (without p xs) + 1)
    → cond b (x ∷ filter p xs) (filter p xs) ≡ y ∷ ys → suc (length xs) ≡ length (cond b xs (x ∷ without p xs)) + 1
shorter_by p true x y xs ys more h = omega arith
shorter_by p false x y xs ys more h = omega (arith, more h)

-- without it a list is shorter by one
shorter : {X : Type 0} (p : X → Bool) (xs : List X) (y : X) (ys : List X) → filter p xs ≡ y ∷ ys → length xs ≡ length (without p xs) + 1
shorter p [] y ys h = absurd (cc)
shorter p (x ∷ xs) y ys h = shorter_by p (p x) x y xs ys (shorter p xs y ys) h

-- the first that passes is taken out of those that pass
rest_by : {X : Type 0} (p : X → Bool) (b : Bool) (x y : X) (xs ys : List X) → p x ≡ b → (filter p xs ≡ y ∷ ys → filter p (without p xs) ≡ ys)
    → cond b (x ∷ filter p xs) (filter p xs) ≡ y ∷ ys → filter p (cond b xs (x ∷ without p xs)) ≡ ys
rest_by p true x y xs ys e more h = cc
rest_by p false x y xs ys e more h = rw e (more h)

-- what passes is what passed, but the first
rest_passes : {X : Type 0} (p : X → Bool) (xs : List X) (y : X) (ys : List X) → filter p xs ≡ y ∷ ys → filter p (without p xs) ≡ ys
rest_passes p [] y ys h = absurd (cc)
rest_passes p (x ∷ xs) y ys h = rest_by p (p x) x y xs ys refl (rest_passes p xs y ys) h

-- and those of another kind stay
others_by : {X : Type 0} (p q : X → Bool) (b : Bool) (x : X) (xs : List X) → (b ≡ true → q x ≡ false) → filter q (without p xs) ≡ filter q xs
    → filter q (cond b xs (x ∷ without p xs)) ≡ cond (q x) (x ∷ filter q xs) (filter q xs)
others_by p q true x xs apart more = rw (apart refl) refl
others_by p q false x xs apart more = ap (λ ys. cond (q x) (x ∷ ys) ys) more

-- another test passes what it did
others_pass : {X : Type 0} (p q : X → Bool) (xs : List X) → ((x : X) → p x ≡ true → q x ≡ false) → filter q (without p xs) ≡ filter q xs
others_pass p q [] apart = refl
others_pass p q (x ∷ xs) apart = others_by p q (p x) x xs (apart x) (others_pass p q xs apart)

-- an entry has its own name
own : (e : Entry) → is_named e.name e ≡ true
own e = grind (arith, nat_tests)

-- and no other
other : (m n : ℕ) (x : Entry) → (n < m) ⊎ (m < n) → is_named m x ≡ true → is_named n x ≡ false
other m n x (inl less) h = grind (arith, nat_tests)
other m n x (inr more) h = grind (arith, nat_tests)

-- one entry less of each
less_one : (e : Entry) (es fs : List Entry) → AreSame (e ∷ es) fs → AreSame es (without (is_named e.name) fs)
less_one e es fs same name =
    let first : filter (is_named e.name) fs ≡ e ∷ filter (is_named e.name) es = sym (same e.name) ∙ rw (own e) refl in
    let apart : (name < e.name) ⊎ (e.name < name) → filter (is_named name) es ≡ filter (is_named name) (without (is_named e.name) fs) =
    λ a. rw (other e.name name e a (own e)) at (same name) ∙ sym (others_pass (is_named e.name) (is_named name) fs (λ x h. other e.name name x a h)) in
    elim (cases_lt name e.name) [
      | inl less ↦ apart (inl less)
      | inr more ↦ elim (cases_lt e.name name) [
        | inl less ↦ apart (inr less)
        | inr equal ↦ subst (λ n. filter (is_named n) es ≡ filter (is_named n) (without (is_named e.name) fs)) {x = e.name} {y = name} (omega arith) (sym (rest_passes (is_named e.name) fs e (filter (is_named e.name) es) first))
      ]
    ]

-- lists of the same entries by name are of one length
pub length-same : (es fs : List Entry) → AreSame es fs → length es ≡ length fs
length-same [] [] same = refl
length-same [] (f ∷ fs) same = let h : [] ≡ f ∷ filter (is_named f.name) fs = same f.name ∙ rw (own f) refl in absurd (cc)
length-same (e ∷ es) fs same =
    let first : filter (is_named e.name) fs ≡ e ∷ filter (is_named e.name) es = sym (same e.name) ∙ rw (own e) refl in
    omega (arith, shorter (is_named e.name) fs e (filter (is_named e.name) es) first, length-same es (without (is_named e.name) fs) (less_one e es fs same))

-- as many entries as cards
pub length-entries : (p : ℕ) (cards : List (List ℕ)) → length (entries_from p cards) ≡ length cards
length-entries p [] = refl
length-entries p (card ∷ cards) = omega (arith, length-entries (p + 1) cards)

-- an index has an entry for each card
pub length-index : (es : List Entry) (cards : List (List ℕ)) → IsIndexOf es cards → length es ≡ length cards
length-index es cards index = length-same es (entries_from 1 cards) index.same ∙ length-entries 1 cards

pub ruleset index_steps = (length-index)

-- two runs of entries
pub length-two : (es : List Entry) (p q : ℕ) (xs ys : List (List ℕ)) → AreSame es (entries_from p xs ++ entries_from q ys) → length es ≡ length xs + length ys
length-two es p q xs ys same =
    length-same es (entries_from p xs ++ entries_from q ys) same
    ∙ (length-append (entries_from p xs) (entries_from q ys) ∙ omega (arith, length-entries p xs, length-entries q ys))
