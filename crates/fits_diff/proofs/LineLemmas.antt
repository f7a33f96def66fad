-- Lines of cards, one after another.
use Rattle.std.proofs.Common.{◌≡◌, ℕ, ◌+◌, ◌-◌, ◌<◌, ◌≤◌, List, [], ◌∷◌, ◌++◌, length, take, drop, get_or, slice_index_or, ap, sym, ◌∙◌, append_assoc, arith}
use Rattle.std.proofs.lemmas.List.{append-nil, get_or-drop, length-take-le, take_more}
use Rattle.std.proofs.Common.{length-drop}
use Rattle.fits_tell.specs.Numbered.{numbered}

-- what comes of some, and of more
pub numbered-append : {X Y : Type 0} (f : ℕ → X → List Y) (n : ℕ) (xs ys : List X) → numbered f n (xs ++ ys) ≡ numbered f n xs ++ numbered f (n + length xs) ys
numbered-append f n [] ys = let number : n ≡ n + 0 = omega arith in ap (λ m. numbered f m ys) number
numbered-append f n (x ∷ xs) ys =
    let number : n + 1 + length xs ≡ n + length (x ∷ xs) = omega arith in
    ap (λ t. f n x ++ t) (numbered-append f (n + 1) xs ys ∙ ap (λ m. numbered f (n + 1) xs ++ numbered f m ys) number)
    ∙ sym (append_assoc (f n x) (numbered f (n + 1) xs) (numbered f (n + length (x ∷ xs)) ys))

-- of the first ones of those from an index on, and of one more
between-more : (f : ℕ → List ℕ → List ℕ) (cards : List (List ℕ)) (from index : ℕ) (card : List ℕ) → from ≤ index → index < length cards → card ≡ slice_index_or cards (index + 1 - 1) card
    → numbered f (from + 1) (take (index + 1 - from) (drop from cards)) ≡ numbered f (from + 1) (take (index - from) (drop from cards)) ++ f (index + 1) card
between-more f cards from index card ordered within is =
    let xs : List (List ℕ) = drop from cards in
    let k : ℕ = index - from in
    let next : index + 1 - from ≡ k + 1 = omega arith in
    let size : length xs ≡ length cards - from = length-drop from cards in
    let l : k < length xs = omega (arith, size) in
    let back : from + k ≡ index = omega arith in
    let at : index + 1 - 1 ≡ index = omega arith in
    let here : get_or xs k card ≡ card = get_or-drop from cards k card ∙ ap (λ i. get_or cards i card) (back ∙ sym at) ∙ sym is in
    let count : length (take k xs) ≡ k = length-take-le k xs (omega (arith, l)) in
    let number : from + 1 + length (take k xs) ≡ index + 1 = omega (arith, count) in
    ap (λ n. numbered f (from + 1) (take n xs)) next
    ∙ ap (numbered f (from + 1)) (take_more xs k card l ∙ ap (λ c. take k xs ++ c ∷ []) here)
    ∙ numbered-append f (from + 1) (take k xs) (card ∷ [])
    ∙ ap (λ n. numbered f (from + 1) (take k xs) ++ numbered f n (card ∷ [])) number
    ∙ ap (λ t. numbered f (from + 1) (take k xs) ++ t) (append-nil (f (index + 1) card))

-- a text has the line of one more
pub between-push : (f : ℕ → List ℕ → List ℕ) (cards : List (List ℕ)) (from index : ℕ) (card start line new : List ℕ) → from ≤ index → index < length cards → card ≡ slice_index_or cards (index + 1 - 1) card
    → line ≡ start ++ numbered f (from + 1) (take (index - from) (drop from cards)) → new ≡ line ++ f (index + 1) card → new ≡ start ++ numbered f (from + 1) (take (index + 1 - from) (drop from cards))
between-push f cards from index card start line new ordered within is so_far pushed =
    pushed ∙ ap (λ t. t ++ f (index + 1) card) so_far ∙ append_assoc start (numbered f (from + 1) (take (index - from) (drop from cards))) (f (index + 1) card)
    ∙ ap (λ t. start ++ t) (sym (between-more f cards from index card ordered within is))

-- none is there yet
pub between-none : (f : ℕ → List ℕ → List ℕ) (cards : List (List ℕ)) (from index : ℕ) (line : List ℕ) → index ≡ from → line ≡ line ++ numbered f (from + 1) (take (index - from) (drop from cards))
between-none f cards from index line is =
    let none : index - from ≡ 0 = omega (arith, is) in
    sym (ap (λ k. line ++ numbered f (from + 1) (take k (drop from cards))) none ∙ append-nil line)

pub ruleset between_steps = (between-none, between-push)
