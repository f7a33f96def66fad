-- How ones'-complement sums fold.
use Rattle.std.proofs.Common.{◌≡◌, ℕ, zero, suc, ◌+◌, ◌-◌, ◌%◌, ◌==◌, false, refl, arith, sym, ◌∙◌, ap}
use Rattle.std.proofs.lemmas.Bool.Decides.{nat_tests}
use Rattle.fits_sum.specs.OnesComplement.{ones_complement}
use Rattle.fits_sum.specs.Laws.{SumsFold, ComplementsMakeAllOnes}

-- the sum of a total above 0
pub ones_complement-suc : (n total : ℕ) → total ≡ suc n → ones_complement total ≡ n % 4294967295 + 1
ones_complement-suc n total h =
    let e : (suc n == 0) ≡ false = grind (arith, nat_tests) in
    let m : suc n - 1 ≡ n = omega arith in
    ap ones_complement h ∙ rw (e, m) refl

-- a total may be folded in parts
pub ones_complement-add : SumsFold
ones_complement-add zero zero = refl
ones_complement-add zero (suc b) =
    let left = ones_complement-suc b (0 + suc b) (omega arith) in
    let part = ones_complement-suc b (suc b) refl in
    let right = ones_complement-suc (b % 4294967295) (0 + (b % 4294967295 + 1)) (omega arith) in
    let same : b % 4294967295 + 1 ≡ b % 4294967295 % 4294967295 + 1 = omega arith in
    left ∙ same ∙ sym (ap (λ (z : ℕ). ones_complement (0 + z)) part ∙ right)
ones_complement-add (suc a) zero =
    let left = ones_complement-suc a (suc a + 0) (omega arith) in
    let part = ones_complement-suc a (suc a) refl in
    let right = ones_complement-suc (a % 4294967295) (a % 4294967295 + 1 + 0) (omega arith) in
    let same : a % 4294967295 + 1 ≡ a % 4294967295 % 4294967295 + 1 = omega arith in
    left ∙ same ∙ sym (ap (λ (z : ℕ). ones_complement (z + 0)) part ∙ right)
ones_complement-add (suc a) (suc b) =
    let left = ones_complement-suc (a + b + 1) (suc a + suc b) (omega arith) in
    let first = ones_complement-suc a (suc a) refl in
    let second = ones_complement-suc b (suc b) refl in
    let right = ones_complement-suc (a % 4294967295 + b % 4294967295 + 1) (a % 4294967295 + 1 + (b % 4294967295 + 1)) (omega arith) in
    let same : (a + b + 1) % 4294967295 + 1 ≡ (a % 4294967295 + b % 4294967295 + 1) % 4294967295 + 1 = omega arith in
    left ∙ same ∙ sym (ap (λ (z : ℕ). ones_complement (z + ones_complement (suc b))) first
    ∙ ap (λ (z : ℕ). ones_complement (a % 4294967295 + 1 + z)) second ∙ right)

-- a total and its sum's complement make all ones
pub complements_make_all_ones : ComplementsMakeAllOnes
complements_make_all_ones zero = refl
complements_make_all_ones (suc n) =
    let part = ones_complement-suc n (suc n) refl in
    let whole = ones_complement-suc (n + (4294967295 - (n % 4294967295 + 1))) (suc n + (4294967295 - (n % 4294967295 + 1))) (omega arith) in
    let all : (n + (4294967295 - (n % 4294967295 + 1))) % 4294967295 + 1 ≡ 4294967295 = omega arith in
    ap (λ (z : ℕ). ones_complement (suc n + (4294967295 - z))) part ∙ whole ∙ all
