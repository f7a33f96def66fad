-- A place that is halved, beside a power of two that is doubled.
use Rattle.std.proofs.Common.{◌≡◌, ◌≤◌, ◌*◌, ◌/◌, ◌^◌, ℕ, zero, suc, ◌<◌, arith, ap, sym, inl, inr, ◌∙◌}
use Rattle.std.proofs.lemmas.Bool.{cases_eq, cases_lt}
use Rattle.std.proofs.lemmas.Bool.Decides.{nat_tests}
use Rattle.fits_plane.specs.Tree.{most_above, IsLeastPower}
use Rattle.std.proofs.Math.Nat.{one-le-pow, pow-suc, mul-le-mul_left, pow-le-pow_right}

-- a power that a place is multiplied by is no more than the product
pub power_alone : (k place leaf : ℕ) → 1 ≤ place → 2 ^ k * place ≤ leaf → 2 ^ k ≤ leaf
power_alone k place leaf some h = let more = mul-le-mul_left (2 ^ k) some in omega (arith, more, h)

-- half the place, twice the power
pub halves : (k m place leaf : ℕ) → m ≡ suc k → 2 ^ k * place ≤ leaf → 2 ^ m * (place / 2) ≤ leaf
halves k m place leaf e h =
    let two : 2 ^ m ≡ 2 ^ k * 2 = ap (λ n. 2 ^ n) e ∙ pow-suc 2 k in
    let half : 2 * (place / 2) ≤ place = omega arith in
    let more = mul-le-mul_left (2 ^ k) half in
    rw two (omega (arith, more, h))

-- powers grow
pub pow_up : (d e : ℕ) → e ≤ d → 2 ^ e ≤ 2 ^ d
pow_up d e h = let some : 0 < 2 = omega arith in pow-le-pow_right some h

-- a doubled power that was too small is still the least
pub doubled : (used n m d : ℕ) → n ≡ 2 ^ d → ((e : ℕ) → used ≤ 2 ^ e → d ≤ e) → n < used → m ≡ n * 2 → (x : ℕ) × (m ≡ 2 ^ x) × ((e : ℕ) → used ≤ 2 ^ e → x ≤ e)
doubled used n m d p least small e = (
  suc d,
  e ∙ ap (λ k. k * 2) p ∙ sym (pow-suc 2 d),
  λ f h. elim (cases_lt d f) [
    | inl lt ↦ omega (arith, lt)
    | inr ge ↦ let down = pow_up d f ge in absurd (omega (arith, down, h, small, p))
  ],
)

-- the root has nothing above it
above_root : (k d place : ℕ) → place ≡ 1 → 2 ^ k ≤ place → k ≤ most_above d place
above_root zero d place e h = omega arith
above_root (suc k) d place e h = let up = pow_up (suc k) 1 (omega arith) in absurd (omega (arith, e, h, up))

-- a path from below the leaves' end is short
pub few_above : (k n d place : ℕ) → n ≤ 2 ^ d → place < 2 * n → 2 ^ k ≤ place → k ≤ most_above d place
few_above k n d place u b h = elim (cases_eq place 1) [
  | inl root ↦ above_root k d place root h
  | inr ne ↦
      let short : k ≤ d = elim (cases_lt d k) [
        | inl lt ↦ let up = pow_up k (suc d) (omega (arith, lt)) in let two = pow-suc 2 d in absurd (omega (arith, up, h, b, u, two))
        | inr ge ↦ ge
      ] in
      grind (arith, nat_tests)
]

-- no more stand above any place
pub most_above_le : (d place : ℕ) → most_above d place ≤ d
most_above_le d place = grind (arith, nat_tests)

-- it is no less than 1
pub power_some : (m n : ℕ) → IsLeastPower m n → 1 ≤ n
power_some m n h = let some = one-le-pow h.depth 2 (omega arith) in omega (arith, h.power, some)

-- the least power is no more than any that is enough
pub least_power : (depth n used d : ℕ) → n ≡ 2 ^ depth → ((e : ℕ) → used ≤ 2 ^ e → depth ≤ e) → used ≤ 2 ^ d → n ≤ 2 ^ d
least_power depth n used d p least u = let up = pow_up d depth (least d u) in omega (arith, up, p)
