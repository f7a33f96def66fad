-- Mixes of old and new bytes.
use Rattle.std.proofs.Common.{◌≡◌, ℕ, suc, ◌+◌, ◌<◌, ◌==◌, Bool, true, false, ◌&&◌, ◌||◌, List, [], ◌∷◌, length, get_or, drop, refl, ap, arith}
use Rattle.std.proofs.lemmas.List.{drop_more}
use Rattle.std.proofs.lemmas.Bool.Decides.{nat_tests}
use Rattle.fits_redo.specs.Blocks.{is_mix}

-- two tests that both hold
pub both : (a b : Bool) → (a && b) ≡ true → (a ≡ true) × (b ≡ true)
both true b h = (refl, h)
both false b h = (h, absurd (cc))

-- so does what joins them
pub and_both : (a b : Bool) → a ≡ true → b ≡ true → (a && b) ≡ true
and_both a b e f = rw (e, f) refl

-- a mix is as long as both
pub mix_lengths : (old new mix : List ℕ) → is_mix old new mix ≡ true → (length mix ≡ length old) × (length new ≡ length old)
mix_lengths [] [] [] h = (refl, refl)
mix_lengths [] [] (m ∷ mix) h = absurd (cc)
mix_lengths [] (n ∷ new) mix h = absurd (cc)
mix_lengths (o ∷ old) [] mix h = absurd (cc)
mix_lengths (o ∷ old) (n ∷ new) [] h = absurd (cc)
mix_lengths (o ∷ old) (n ∷ new) (m ∷ mix) h =
    let rest = mix_lengths old new mix (both (m == o || m == n) (is_mix old new mix) h).1 in
    (ap suc rest.0, ap suc rest.1)

-- a byte is itself, or another
is_new : (o n : ℕ) → (n == o || n == n) ≡ true
is_new o n = grind (arith, nat_tests)

-- the new bytes are one
pub mix_new : (old new : List ℕ) → length old ≡ length new → is_mix old new new ≡ true
mix_new [] [] same = refl
mix_new [] (n ∷ new) same = absurd (omega arith)
mix_new (o ∷ old) [] same = absurd (omega arith)
mix_new (o ∷ old) (n ∷ new) same = and_both (n == o || n == n) (is_mix old new new) (is_new o n) (mix_new old new (omega arith))

-- the same of the old one
is_old : (o n : ℕ) → (o == o || o == n) ≡ true
is_old o n = grind (arith, nat_tests)

-- so are the old ones
pub mix_old : (old new : List ℕ) → length old ≡ length new → is_mix old new old ≡ true
mix_old [] [] same = refl
mix_old [] (n ∷ new) same = absurd (omega arith)
mix_old (o ∷ old) [] same = absurd (omega arith)
mix_old (o ∷ old) (n ∷ new) same = and_both (o == o || o == n) (is_mix old new old) (is_old o n) (mix_old old new (omega arith))

-- a byte of a mix of a mix
step : (o n m y : ℕ) → (m == o || m == n) ≡ true → (y == m || y == n) ≡ true → (y == o || y == n) ≡ true
step o n m y first second = grind (arith, nat_tests)

-- and so is a mix of one with the new bytes
pub mix_again : (old new mix more : List ℕ) → is_mix old new mix ≡ true → is_mix mix new more ≡ true → is_mix old new more ≡ true
mix_again [] [] [] more first second = second
mix_again [] [] (m ∷ mix) more first second = absurd (cc)
mix_again [] (n ∷ new) mix more first second = absurd (cc)
mix_again (o ∷ old) [] mix more first second = absurd (cc)
mix_again (o ∷ old) (n ∷ new) [] more first second = absurd (cc)
mix_again (o ∷ old) (n ∷ new) (m ∷ mix) [] first second = absurd (cc)
mix_again (o ∷ old) (n ∷ new) (m ∷ mix) (y ∷ more) first second =
    let one = both (m == o || m == n) (is_mix old new mix) first in
    let two = both (y == m || y == n) (is_mix mix new more) second in
    and_both (y == o || y == n) (is_mix old new more) (step o n m y one.0 two.0) (mix_again old new mix more one.1 two.1)

-- what is left of a scan, one byte on
pub mix_next : (old new mix : List ℕ) (i : ℕ) → i < length old → i < length new → i < length mix
    → is_mix (drop i old) (drop i new) (drop i mix) ≡ ((get_or mix i 0 == get_or old i 0 || get_or mix i 0 == get_or new i 0) && is_mix (drop (i + 1) old) (drop (i + 1) new) (drop (i + 1) mix))
mix_next old new mix i a b c = λ k. is_mix (drop_more old i 0 a k) (drop_more new i 0 b k) (drop_more mix i 0 c k)
