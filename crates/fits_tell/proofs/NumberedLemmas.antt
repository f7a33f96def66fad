-- Things one after another, each with its number.
use Rattle.std.proofs.Common.{◌≡◌, ℕ, ◌+◌, ◌<◌, List, [], ◌∷◌, ◌++◌, length, take, drop, get_or, ap, sym, ◌∙◌, append_assoc, arith}
use Rattle.std.proofs.lemmas.List.{append-nil, take-append-drop, take_more, length-take-le}
use Rattle.fits_tell.specs.Numbered.{numbered}

-- what comes of some, and of more
numbered-append : {X Y : Type 0} (f : ℕ → X → List Y) (n : ℕ) (xs ys : List X) → numbered f n (xs ++ ys) ≡ numbered f n xs ++ numbered f (n + length xs) ys
numbered-append f n [] ys = let number : n ≡ n + 0 = omega arith in ap (λ m. numbered f m ys) number
numbered-append f n (x ∷ xs) ys =
    let number : n + 1 + length xs ≡ n + length (x ∷ xs) = omega arith in
    ap (λ t. f n x ++ t) (numbered-append f (n + 1) xs ys ∙ ap (λ m. numbered f (n + 1) xs ++ numbered f m ys) number)
    ∙ sym (append_assoc (f n x) (numbered f (n + 1) xs) (numbered f (n + length (x ∷ xs)) ys))

-- of the first ones, and of one more
pub numbered-more : {X Y : Type 0} (f : ℕ → X → List Y) (xs : List X) (i : ℕ) (d : X) → i < length xs → numbered f 1 (take (i + 1) xs) ≡ numbered f 1 (take i xs) ++ f (i + 1) (get_or xs i d)
numbered-more f xs i d l =
    let it = get_or xs i d in
    let number : 1 + length (take i xs) ≡ i + 1 = omega (arith, length-take-le i xs (omega (arith, l))) in
    ap (numbered f 1) (take_more xs i d l)
    ∙ numbered-append f 1 (take i xs) (it ∷ [])
    ∙ ap (λ n. numbered f 1 (take i xs) ++ numbered f n (it ∷ [])) number
    ∙ ap (λ t. numbered f 1 (take i xs) ++ t) (append-nil (f (i + 1) it))

-- of the first ones, and of the others
pub numbered-split : {X Y : Type 0} (f : ℕ → X → List Y) (xs : List X) (i : ℕ) → numbered f 1 xs ≡ numbered f 1 (take i xs) ++ numbered f (1 + length (take i xs)) (drop i xs)
numbered-split f xs i = ap (numbered f 1) (sym (take-append-drop i xs)) ∙ numbered-append f 1 (take i xs) (drop i xs)

-- of none
pub numbered-none : {X Y : Type 0} (f : ℕ → X → List Y) (text : List Y) (xs : List X) → text ≡ [] → text ≡ numbered f 1 (take 0 xs)
numbered-none f text xs none = none

-- a text has what comes of one more
pub numbered-push : {X Y : Type 0} (f : ℕ → X → List Y) (text new : List Y) (xs : List X) (i : ℕ) (d : X) → i < length xs → text ≡ numbered f 1 (take i xs) → new ≡ text ++ f (i + 1) (get_or xs i d) → new ≡ numbered f 1 (take (i + 1) xs)
numbered-push f text new xs i d l so_far pushed = pushed ∙ ap (λ t. t ++ f (i + 1) (get_or xs i d)) so_far ∙ sym (numbered-more f xs i d l)

pub ruleset numbered_steps = (numbered-none, numbered-push)
