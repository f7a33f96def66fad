-- The text of a card that is being written.
use Rattle.std.proofs.Common.{◌≡◌, ◌<◌, ◌≤◌, ℕ, ◌+◌, ◌-◌, List, [], ◌∷◌, ◌++◌, Option, Some, None, replicate, arith, length, take, sym, ◌∙◌, ap, append_assoc, length-append}
use Rattle.std.proofs.Math.Seq.{take-append_seam}
use Rattle.fits_value.specs.Written.{card_of, justified}

-- two parts stand before what follows them
pub two_parts : (n m : ℕ) (front bytes rest : List ℕ) → length front ≡ n → length bytes ≡ m → take (n + m) (front ++ (bytes ++ rest)) ≡ front ++ bytes
two_parts n m front bytes rest e f =
    let size : n + m ≡ length (front ++ bytes) = rw (sym e, sym f) (sym (length-append front bytes)) in
    ap (λ (k : ℕ). take k (front ++ (bytes ++ rest))) size ∙ (ap (λ (x : List ℕ). take (length (front ++ bytes)) x) (sym (append_assoc front bytes rest)) ∙ take-append_seam (front ++ bytes) rest)

-- how long a text is to which bytes were added
pub length_added : (front bytes text : List ℕ) → text ≡ front ++ bytes → length text ≡ length front + length bytes
length_added front bytes text is = ap length is ∙ length-append front bytes

-- the parts of a complex number, added one by one
pub pair_added : (e a b d f g real imaginary : List ℕ) → e ≡ [] → a ≡ e ++ 40 ∷ [] → b ≡ a ++ real → d ≡ b ++ 44 ∷ 32 ∷ [] → f ≡ d ++ imaginary → g ≡ f ++ 41 ∷ [] → g ≡ 40 ∷ ((real ++ 44 ∷ 32 ∷ imaginary) ++ 41 ∷ [])
pair_added e a b d f g real imaginary p q r s t u = rw (u, t, s, r, q, p) (ap (λ (x : List ℕ). 40 ∷ (x ++ 41 ∷ [])) (append_assoc real (44 ∷ 32 ∷ []) imaginary))

-- a card is no shorter than its value
card_holds : (lead value : List ℕ) (comment : Option (List ℕ)) → length value ≤ length (card_of lead (justified value) comment)
card_holds lead value None =
    let line = lead ++ justified value in
    omega (arith, length-append line (replicate (80 - length line) 32), length-append lead (justified value), length-append (replicate (20 - length value) 32) value)
card_holds lead value (Some comment) =
    let line = lead ++ justified value in
    let gap = replicate (1 + (30 - length line)) 32 in
    let text = line ++ gap ++ (47 ∷ comment) in
    omega (arith, length-append text (replicate (80 - length text) 32), length-append (line ++ gap) (47 ∷ comment), length-append line gap, length-append lead (justified value), length-append (replicate (20 - length value) 32) value)

-- the parts of a complex number that are too long for a card
pub pair_over : (lead real imaginary : List ℕ) (comment : Option (List ℕ)) → 80 < length real + length imaginary + 4 → 80 < length (card_of lead (justified (40 ∷ ((real ++ 44 ∷ 32 ∷ imaginary) ++ 41 ∷ []))) comment)
pair_over lead real imaginary comment h =
    omega (arith, h, card_holds lead (40 ∷ ((real ++ 44 ∷ 32 ∷ imaginary) ++ 41 ∷ [])) comment, length-append (real ++ 44 ∷ 32 ∷ imaginary) (41 ∷ []), length-append real (44 ∷ 32 ∷ imaginary))
