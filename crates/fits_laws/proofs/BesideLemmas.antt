-- Lists beside one another, where an element changes, comes or goes in both.
use Rattle.std.proofs.Common.{◌≡◌, ℕ, zero, suc, List, [], ◌∷◌, map, refl, subst, Some}
use Rattle.std.specs.List.{slice_get, insert, remove}
use Rattle.fits_session.specs.Edit.{changed_at}
use Rattle.fits_laws.specs.Sums.{Beside}

-- where the elements at an index change
pub beside_changed : {X Y : Type 0} (R : X → Y → Type 0) (i : ℕ) (f : X → X) (g : Y → Y) (xs : List X) (ys : List Y)
    → ((x : X) (y : Y) → slice_get xs i ≡ Some x → slice_get ys i ≡ Some y → R x y → R (f x) (g y)) → Beside R xs ys → Beside R (changed_at i f xs) (changed_at i g ys)
beside_changed R i f g [] [] own p = p
beside_changed R i f g [] (y ∷ ys) own p = absurd p
beside_changed R i f g (x ∷ xs) [] own p = absurd p
beside_changed R zero f g (x ∷ xs) (y ∷ ys) own p = (own x y refl refl p.0, p.1)
beside_changed R (suc i) f g (x ∷ xs) (y ∷ ys) own p = (p.0, beside_changed R i f g xs ys (λ u v a b. own u v a b) p.1)

-- where one is put into both
pub beside_inserted : {X Y : Type 0} (R : X → Y → Type 0) (i : ℕ) (x : X) (y : Y) (xs : List X) (ys : List Y) → R x y → Beside R xs ys → Beside R (insert xs i x) (insert ys i y)
beside_inserted R zero x y xs ys own p = (own, p)
beside_inserted R (suc i) x y [] [] own p = (own, p)
beside_inserted R (suc i) x y [] (v ∷ ys) own p = absurd p
beside_inserted R (suc i) x y (u ∷ xs) [] own p = absurd p
beside_inserted R (suc i) x y (u ∷ xs) (v ∷ ys) own p = (p.0, beside_inserted R i x y xs ys own p.1)

-- and where one goes
pub beside_left : {X Y : Type 0} (R : X → Y → Type 0) (i : ℕ) (xs : List X) (ys : List Y) → Beside R xs ys → Beside R (remove xs i) (remove ys i)
beside_left R zero [] [] p = p
beside_left R (suc i) [] [] p = p
beside_left R i [] (y ∷ ys) p = absurd p
beside_left R i (x ∷ xs) [] p = absurd p
beside_left R zero (x ∷ xs) (y ∷ ys) p = p.1
beside_left R (suc i) (x ∷ xs) (y ∷ ys) p = (p.0, beside_left R i xs ys p.1)

-- elements at the same index
pub beside_at : {X Y : Type 0} (R : X → Y → Type 0) (i : ℕ) (x : X) (xs : List X) (ys : List Y) → slice_get xs i ≡ Some x → Beside R xs ys → (y : Y) × (slice_get ys i ≡ Some y) × R x y
beside_at R i x [] [] at p = absurd (cc)
beside_at R i x [] (y ∷ ys) at p = absurd p
beside_at R i x (u ∷ xs) [] at p = absurd p
beside_at R zero x (u ∷ xs) (y ∷ ys) at p = let same : u ≡ x = cc in (y, refl, subst (λ z. R z y) same p.0)
beside_at R (suc i) x (u ∷ xs) (y ∷ ys) at p = beside_at R i x xs ys at p.1

-- lists that are made of one
pub beside_made : {X Y Z : Type 0} (R : Y → Z → Type 0) (f : X → Y) (g : X → Z) (xs : List X) → ((x : X) → R (f x) (g x)) → Beside R (map f xs) (map g xs)
beside_made R f g [] own = tt
beside_made R f g (x ∷ xs) own = (own x, beside_made R f g xs own)

-- a list beside one that is made of it
pub beside_map : {X Y : Type 0} (R : X → Y → Type 0) (f : X → Y) (xs : List X) → ((x : X) → R x (f x)) → Beside R xs (map f xs)
beside_map R f [] own = tt
beside_map R f (x ∷ xs) own = (own x, beside_map R f xs own)
