-- Parts of a list by their places.
use Rattle.std.proofs.Common.{◌≡◌, ℕ, ◌<◌, ◌+◌, ◌-◌, List, ◌∷◌, ◌++◌, length, drop, take, suc, refl, ap, arith}
use Rattle.std.proofs.Math.Seq.{take-append_seam, drop-append_seam}
use Rattle.std.proofs.lemmas.List.{length-drop, drop-drop}
use Rattle.fits_value.specs.Field.{part}

-- what stands between a prefix and a rest
pub part_is : (text front middle rest : List ℕ) (start end : ℕ) → text ≡ front ++ (middle ++ rest) → start ≡ length front → end ≡ length front + length middle
    → part text (record { start = start; end = end }) ≡ middle
part_is text front middle rest start end e s t =
    let size : end - start ≡ length middle = omega arith in
    rw (size, s, e, drop-append_seam front (middle ++ rest), take-append_seam middle rest) refl

-- a prefix of this length
pub take_is : (text front rest : List ℕ) (n : ℕ) → text ≡ front ++ rest → n ≡ length front → take n text ≡ front
take_is text front rest n e s = rw (s, e, take-append_seam front rest) refl

-- a place after which something stands
pub drop_some : (n : ℕ) (text : List ℕ) (b : ℕ) (s : List ℕ) → drop n text ≡ b ∷ s → n < length text
drop_some n text b s e =
    let size : length (drop n text) ≡ suc (length s) = ap length e in
    omega (arith, length-drop n text, size)

-- the parts of a list after its prefix
pub part-drop : (n a b : ℕ) (text : List ℕ) → part (drop n text) (record { start = a; end = b }) ≡ part text (record { start = n + a; end = n + b })
part-drop n a b text =
    let size : n + b - (n + a) ≡ b - a = omega arith in
    rw (size, drop-drop a n text) refl
