-- The codes of a set, in an array with a filler after them, and one by one.
use Rattle.std.proofs.Common.{◌≡◌, ℕ, ◌+◌, ◌-◌, ◌<◌, ◌≤◌, Bool, cond, List, [], ◌∷◌, ◌++◌, length, take, drop, replicate, reverse, sym, ◌∙◌, ap, arith, length-append, length-take-le, take-append-drop}
use Rattle.std.specs.List.{filter}
use Rattle.std.proofs.Math.ListN.{set}
use Rattle.std.proofs.Math.Seq.{drop-append_seam}
use Rattle.std.proofs.lemmas.List.{reverse-append, reverse-reverse, drop-drop, drop-set-lt, drop-replicate, length-replicate}
use Rattle.std.proofs.lemmas.List.Elements.{filter-append}

-- the rest of an array that is filled up
filler : {X : Type 0} (codes : List X) (fill : X) (n m : ℕ) → n < m → length codes ≡ m → take n codes ++ replicate (m - n) fill ≡ codes → drop n codes ≡ replicate (m - n) fill
filler codes fill n m below size padded =
    let front = take n codes in
    let rest = replicate (m - n) fill in
    let long : length front ≡ n = length-take-le n codes (omega arith) in
    ap (drop n) (sym padded) ∙ (ap (λ (k : ℕ). drop k (front ++ rest)) (sym long) ∙ drop-append_seam front rest)

-- an array that is filled up is as long as it was to be
pub filled_size : {X : Type 0} (codes : List X) (fill : X) (n m : ℕ) → n ≤ m → length (take n codes) ≡ n → take n codes ++ replicate (m - n) fill ≡ codes → length codes ≡ m
filled_size {X = X} codes fill n m within size padded =
    sym (ap (λ (xs : List X). length xs) padded) ∙ omega (arith, length-append (take n codes) (replicate (m - n) fill), length-replicate (m - n) fill)

-- it stays filled up where an element is written after those that count
pub pushed : {X : Type 0} (codes : List X) (fill x : X) (n m : ℕ) → n < m → length codes ≡ m → take n codes ++ replicate (m - n) fill ≡ codes
    → take (n + 1) (set codes n x) ++ replicate (m - (n + 1)) fill ≡ set codes n x
pushed {X = X} codes fill x n m below size padded =
    let rest : drop (n + 1) (set codes n x) ≡ replicate (m - (n + 1)) fill =
    drop-set-lt (n + 1) codes n x (omega arith)
    ∙ (sym (drop-drop 1 n codes) ∙ (ap (drop 1) (filler codes fill n m below size padded) ∙ (drop-replicate 1 (m - n) fill ∙ ap (λ (k : ℕ). replicate k fill) (omega arith)))) in
    ap (λ (xs : List X). take (n + 1) (set codes n x) ++ xs) (sym rest) ∙ take-append-drop (n + 1) (set codes n x)

-- what is found of elements that were tried in turn, the last of them first
pub Found : {X : Type 0} → (X → Bool) → List X → List X → Type 0
Found p tried found = found ≡ filter p (reverse tried)

-- of none, nothing is found
pub found-none : {X : Type 0} (p : X → Bool) (found : List X) → found ≡ [] → Found p [] found
unfolding Found
found-none p found none = none

-- one more is found where it passes
pub found-more : {X : Type 0} (p : X → Bool) (x : X) (tried old new : List X) (holds : Bool) → new ≡ old ++ cond holds (x ∷ []) [] → holds ≡ p x → Found p tried old → Found p (x ∷ tried) new
unfolding Found
found-more {X = X} p x tried old new holds more same before =
    more
    ∙ (ap (λ (b : Bool). old ++ cond b (x ∷ []) []) same
    ∙ (ap (λ (ys : List X). ys ++ cond (p x) (x ∷ []) []) before
    ∙ sym (ap (λ (ys : List X). filter p ys) (reverse-append (x ∷ []) tried) ∙ filter-append p (reverse tried) (x ∷ []))))

-- what is found of all is what passes
pub found-all : {X : Type 0} (p : X → Bool) (all found : List X) → Found p (reverse all) found → found ≡ filter p all
unfolding Found
found-all {X = X} p all found before = before ∙ ap (λ (ys : List X). filter p ys) (reverse-reverse all)
