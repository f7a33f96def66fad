use Rattle.std.proofs.Common.{◌≡◌, ◌+◌, ◌-◌, ◌∙◌, ℕ, List, to_z, of_z, arith, refl, inr}
use Rattle.std.specs.Int.{w64}
use Rattle.std.proofs.lemmas.Int.{to_z-of_z, ints}
use Rattle.fits_pixels.specs.Pixels.{pixel}
use Rattle.fits_pixels.proofs.ApartLemmas.{sum_turn}
use Rattle.fits_pixels.proofs.SignedLemmas.{pixel_within}
use Rattle.fits_pixels.proofs.signed.added.Goals as goal

pub pixel_at-requires-clause-width : goal.pixel_at-requires-clause-width
pixel_at-requires-clause-width c = inr c.requires.signed

pub pixel_at-requires-clause-within : goal.pixel_at-requires-clause-within
pixel_at-requires-clause-within c = pixel_within c.args.width c.loop-i.i c.args.held _ c.requires.signed c.loop-i-test.true c.requires.within

pub loop-i-preserved : goal.loop-i-preserved
loop-i-preserved c =
    let xs : List ℕ = c.args.block.now in
    let w : ℕ = c.args.width in
    let i : ℕ = c.loop-i.i in
    let here : to_z w64 (of_z w64 c.pixel_at.result) ≡ pixel w xs i = to_z-of_z w64 c.pixel_at.result (record { sfits = c.pixel_at.type_inv }) ∙ c.pixel_at.ensures in
    record {
      sum = sum_turn w i (c.args.held - i) (i + 1) (c.args.held - (i + 1)) xs _ _ _ (omega arith) refl c.loop-i.invariant.sum (omega (arith, ints, here, c.loop-i.invariant.bound, c.requires));
      bound = omega (arith, ints, c.loop-i.invariant.bound, c.requires);
    }

pub returns-clause-value : goal.returns-clause-value
returns-clause-value c =
    let none : c.args.held - c.loop-i.i ≡ 0 = omega arith in
    let s = rw none at c.loop-i.invariant.sum in
    omega (arith, ints, s)
