use Rattle.std.proofs.Common.{◌≡◌, ◌↔◌, IsTrue, true, false, ℤ, arith, inl, inr, subst, get_or, pos, rules, FitsSigned, to_z, of_z}
use Rattle.std.specs.Prelude.{◌-ℤ◌}
use Rattle.std.specs.Int.{w128}
use Rattle.std.proofs.lemmas.Bool.{cases_lt}
use Rattle.std.proofs.lemmas.Int.{to_z-of_z}
use Rattle.fits_pixels.specs.Pixels.{IsStorable, AreStorable}
use Rattle.fits_pixels.proofs.TestLemmas.{same_test, can_store_all_decides}
use Rattle.fits_pixels.proofs.pixels.are_storable.Goals as goal

pub loop-i-preserved : goal.loop-i-preserved
loop-i-preserved c = λ k b. elim (cases_lt k c.loop-i.i) [
  | inl lt ↦ c.loop-i.invariant k lt
  | inr ge ↦
      let here : c.loop-i.i ≡ k = omega (arith, b, ge) in
      let offset : ℤ = to_z w128 (of_z w128 c.args.offset) in
      let value : ℤ = get_or c.args.values.now c.loop-i.i (pos 0) in
      let f : FitsSigned w128 value = search rules in
      let stored = subst (λ x. IsStorable c.args.width (x -ℤ offset)) (to_z-of_z w128 value f) (c.stores.ensures.0 c.if-not-stores.false) in
      subst (λ m. IsStorable c.args.width (get_or c.args.values.now m (pos 0) -ℤ offset)) here stored
]

pub returns-then-not-stores-clause-value : goal.returns-then-not-stores-clause-value
returns-then-not-stores-clause-value c =
    let means : IsTrue false ↔ AreStorable c.args.width c.args.offset c.args.values.now = search rules in
    same_test _ _ _ means (can_store_all_decides c.args.width c.args.offset c.args.values.now)

pub returns-clause-value : goal.returns-clause-value
returns-clause-value c =
    let means : IsTrue true ↔ AreStorable c.args.width c.args.offset c.args.values.now = search rules in
    same_test _ _ _ means (can_store_all_decides c.args.width c.args.offset c.args.values.now)
