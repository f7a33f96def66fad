-- How far a list goes on with what passes a test, sixteen elements at a time.
use Rattle.std.proofs.Common.{◌≡◌, ℕ, ◌+◌, ◌≤◌, eqb, Bool, not, cond, List, map, length, drop, ap, ◌∙◌, arith}
use Rattle.std.specs.Int.{w64, trailing_zeros}
use Rattle.std.specs.List.{prefix_len}
use Rattle.std.specs.Simd.Lanes.{chunk, mask_l}
use Rattle.std.proofs.lemmas.Bool.{cond-true, eq-eqb}
use Rattle.std.proofs.lemmas.List.Folds.{prefix_len-append}
use Rattle.std.proofs.lemmas.List.Sums.{prefix_len-le-length}
use Rattle.std.proofs.lemmas.Simd.{chunk-drop, length-chunk, first_set_mask_l}

-- so many pass before the first lane that a mask has
pub counted : (stops p : ℕ → Bool) (s : List ℕ) (i mask : ℕ) → i + 16 ≤ length s → mask ≡ mask_l (map stops (chunk i 16 s)) → ((b : ℕ) → not (stops b) ≡ p b) → cond (eqb mask 0) 16 (trailing_zeros w64 mask) ≡ prefix_len p (chunk i 16 s)
counted stops p s i mask room is same =
    let passes : (λ (b : ℕ). not (stops b)) ≡ p = λ j b. same b j in
    ap (λ m. cond (eqb m 0) 16 (trailing_zeros w64 m)) is
    ∙ first_set_mask_l stops (chunk i 16 s) 16 (length-chunk i 16 s room) (omega arith)
    ∙ ap (λ (f : ℕ → Bool). prefix_len f (chunk i 16 s)) passes

-- the list goes on past a place as it does from there on
abbrev pub GoesOn : (ℕ → Bool) → List ℕ → ℕ → Type 0
GoesOn p s i = i + prefix_len p (drop i s) ≡ prefix_len p s

-- sixteen elements, and then the others
chunked : (p : ℕ → Bool) (s : List ℕ) (i : ℕ) → prefix_len p (drop i s) ≡ cond (eqb (prefix_len p (chunk i 16 s)) (length (chunk i 16 s))) (length (chunk i 16 s) + prefix_len p (drop (i + 16) s)) (prefix_len p (chunk i 16 s))
chunked p s i = ap (λ (x : List ℕ). prefix_len p x) (chunk-drop i 16 s) ∙ prefix_len-append p (chunk i 16 s) (drop (i + 16) s)

-- where all sixteen pass, it goes on past them
pub past_chunk : (p : ℕ → Bool) (s : List ℕ) (i : ℕ) → i + 16 ≤ length s → 16 ≤ prefix_len p (chunk i 16 s) → GoesOn p s i → GoesOn p s (i + 16)
past_chunk p s i room all on =
    let size = length-chunk i 16 s room in
    let whole : prefix_len p (chunk i 16 s) ≡ length (chunk i 16 s) = omega (arith, prefix_len-le-length p (chunk i 16 s)) in
    let on_from = chunked p s i ∙ cond-true _ _ _ (eq-eqb _ _ whole) in
    omega arith
