-- The tests of numbers: each says what it asks.
use Rattle.std.proofs.Common.{◌≡◌, ◌↔◌, ℕ, zero, suc, Bool, true, false, IsTrue, List, [], ◌∷◌, refl, arith, ℤ}
use Rattle.std.specs.Prelude.{int_le, ◌-ℤ◌, ◌≤ℤ◌}
use Rattle.std.specs.List.{list_all}
use Rattle.std.proofs.lemmas.Bool.{and_parts, and_from}
use Rattle.std.proofs.lemmas.Int.{ints}
use Rattle.fits_pixels.specs.Pixels.{AreStorable, can_store, can_store_all, CanStoreDecides, CanStoreAllDecides}

-- two tests of the same
pub same_test : (s t : Bool) (P : Type 0) → IsTrue s ↔ P → IsTrue t ↔ P → s ≡ t
same_test true true P f g = refl
same_test false false P f g = refl
same_test true false P f g = absurd (cc (g.1 (f.0 refl)))
same_test false true P f g = absurd (cc (f.1 (g.0 refl)))

-- no more than another
pub at_most : (a b : ℤ) → int_le a b ≡ true → a ≤ℤ b
at_most a b e = grind (arith, ints)

-- and so by the test
at_most_yes : (a b : ℤ) → a ≤ℤ b → int_le a b ≡ true
at_most_yes a b h = grind (arith, ints)

-- both
pub can_store_decides : CanStoreDecides
unfolding can_store
can_store_decides width number = (
  λ e. let both = and_parts _ _ e in record { least = at_most _ _ both.0; greatest = at_most _ _ both.1 },
  λ s. and_from _ _ (at_most_yes _ _ s.least) (at_most_yes _ _ s.greatest),
)

-- each of some values
all_are : (width : ℕ) (offset : ℤ) (values : List ℤ) → list_all (λ value. can_store width (value -ℤ offset)) values ≡ true → AreStorable width offset values
all_are width offset [] e k b = absurd (omega (arith, b))
all_are width offset (v ∷ values) e zero b = let both = and_parts _ _ e in (can_store_decides width (v -ℤ offset)).0 both.0
all_are width offset (v ∷ values) e (suc k) b = all_are width offset values (and_parts _ _ e).1 k (omega (arith, b))

-- and so by the test
are_all : (width : ℕ) (offset : ℤ) (values : List ℤ) → AreStorable width offset values → list_all (λ value. can_store width (value -ℤ offset)) values ≡ true
are_all width offset [] s = refl
are_all width offset (v ∷ values) s =
    and_from _ _ ((can_store_decides width (v -ℤ offset)).1 (s 0 (omega arith))) (are_all width offset values (λ k b. s (suc k) (omega (arith, b))))

-- both
pub can_store_all_decides : CanStoreAllDecides
unfolding can_store_all
can_store_all_decides width offset values = (λ e. all_are width offset values e, λ s. are_all width offset values s)
