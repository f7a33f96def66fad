-- Where the elements of a list stand once one is gone.
use Rattle.std.proofs.Common.{◌≡◌, ℕ, ◌<◌, ◌≤◌, List, [], ◌∷◌, refl, arith, zero, suc}
use Rattle.std.specs.List.{remove, slice_get}

-- what stands before what goes stays
pub get_before : {X : Type 0} (xs : List X) (k i : ℕ) → i < k → slice_get (remove xs k) i ≡ slice_get xs i
get_before xs zero i l = absurd (omega (arith, l))
get_before [] (suc k) i l = refl
get_before (x ∷ xs) (suc k) zero l = refl
get_before (x ∷ xs) (suc k) (suc i) l = get_before xs k i (omega (arith, l))

-- and what stands behind it comes one nearer
pub get_behind : {X : Type 0} (xs : List X) (k i : ℕ) → k ≤ i → slice_get (remove xs k) i ≡ slice_get xs (suc i)
get_behind [] zero i l = refl
get_behind [] (suc k) i l = refl
get_behind (x ∷ xs) zero i l = refl
get_behind (x ∷ xs) (suc k) zero l = absurd (omega (arith, l))
get_behind (x ∷ xs) (suc k) (suc i) l = get_behind xs k i (omega (arith, l))
