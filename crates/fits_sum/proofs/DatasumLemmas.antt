-- The bytes of the card of a DATASUM.
use Rattle.std.proofs.Common.{◌≡◌, ℕ, suc, ◌+◌, ◌-◌, ◌≤◌, List, ◌∷◌, ◌++◌, length, set, take, drop, replicate, codes, refl, ap, sym, ◌∙◌, arith}
use Rattle.std.specs.Prelude.{decimal}
use Rattle.std.proofs.lemmas.List.{append_assoc, drop-replicate, length-append, length-replicate, take-replicate}
use Rattle.fits_sum.specs.DatasumCard.{datasum_card}

-- the parts of the card, one after the other
card_bytes : (sum : ℕ) (text fill rest : List ℕ) (n : ℕ) → text ≡ decimal sum → length text ≤ 10 → n ≡ 8 - length text → fill ≡ replicate n 32 → rest ≡ replicate (69 - length text - n) 32
    → codes "DATASUM = '" ++ (text ++ (fill ++ set rest 0 39)) ≡ datasum_card sum
unfolding datasum_card
card_bytes sum text fill rest n digits few is e f =
    let more = 68 - length text - n in
    let back : 69 - length text - n ≡ suc more = omega (arith, few, is) in
    let tail : set rest 0 39 ≡ 39 ∷ replicate more 32 = rw (f, back) refl in
    let front : List ℕ = codes "DATASUM = '" ++ (text ++ (replicate n 32 ++ codes "'")) in
    let whole : length front ≡ 12 + length text + n =
    omega (arith, length-append (codes "DATASUM = '") (text ++ (replicate n 32 ++ codes "'")), length-append text (replicate n 32 ++ codes "'"), length-append (replicate n 32) (codes "'"), length-replicate {A = ℕ} n 32) in
    let left : 80 - length front ≡ more = omega (arith, whole) in
    let joined : codes "DATASUM = '" ++ (text ++ (replicate n 32 ++ (39 ∷ replicate more 32))) ≡ front ++ replicate more 32 =
    sym (append_assoc (codes "DATASUM = '") (text ++ (replicate n 32 ++ codes "'")) (replicate more 32)
    ∙ ap (λ xs. codes "DATASUM = '" ++ xs) (append_assoc text (replicate n 32 ++ codes "'") (replicate more 32) ∙ ap (λ xs. text ++ xs) (append_assoc (replicate n 32) (codes "'") (replicate more 32)))) in
    rw (tail, e, ← digits, ← is, left) joined

-- the same of the parts that were written
pub datasum_bytes : (sum : ℕ) (a t first second fill rest : List ℕ) (n : ℕ) → a ≡ codes "DATASUM = '" → t ≡ decimal sum → length t ≤ 10 → n ≡ 8 - length t
    → first ≡ drop 11 (replicate 80 32) → second ≡ drop (length t) first → fill ≡ take n second → rest ≡ drop n second → a ++ (t ++ (fill ++ set rest 0 39)) ≡ datasum_card sum
datasum_bytes sum a t first second fill rest n e digits few is p q u v =
    let one : first ≡ replicate 69 32 = p ∙ drop-replicate 11 80 32 in
    let two : second ≡ replicate (69 - length t) 32 = q ∙ (ap (drop (length t)) one ∙ drop-replicate (length t) 69 32) in
    let cut : fill ≡ replicate n 32 = u ∙ (ap (take n) two ∙ take-replicate n (69 - length t) 32 (omega (arith, few, is))) in
    let left : rest ≡ replicate (69 - length t - n) 32 = v ∙ (ap (drop n) two ∙ drop-replicate n (69 - length t) 32) in
    rw e (card_bytes sum t fill rest n digits few is cut left)

pub ruleset card_steps = (datasum_bytes)
