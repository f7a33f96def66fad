use Rattle.std.proofs.Common.{◌≡◌, ◌+◌, ◌-◌, ◌∙◌, ℕ, ℤ, None, List, pos, arith, refl}
use Rattle.std.proofs.lemmas.Int.{ints}
use Rattle.fits_pixels.specs.Pixels.{pixels, pixel}
use Rattle.fits_pixels.proofs.PixelLemmas.{length-pixels}
use Rattle.fits_pixels.proofs.ScanLemmas.{scanned_turn, scanned_result, range_8, least_8, greatest_8, sum_8}
use Rattle.fits_pixels.proofs.pixels_8.scan_defined.Goals as goal

pub loop-i-preserved : goal.loop-i-preserved
loop-i-preserved c =
    let xs : List ℕ = c.args.block.now in
    let i : ℕ = c.loop-i.i in
    let x : ℕ = c.read-x.result in
    let here : pos x ≡ pixel 1 xs i = c.read-x.ensures in
    record {
      scanned = scanned_turn 1 i (c.args.held - i) (i + 1) (c.args.held - (i + 1)) xs (omega arith) refl refl c.loop-i.invariant.scanned
          (least_8 _ c.loop-i.least x _ c.min-least.ensures here) (greatest_8 _ c.loop-i.greatest x _ c.max-greatest.ensures here) (sum_8 c.loop-i.sum _ x _ c.from-sum.ensures here);
      bound = let r = c.read-x.type_inv in omega (arith, c.loop-i.invariant.bound, c.from-sum.ensures, r);
    }

pub returns : goal.returns
returns c =
    let xs : List ℕ = c.args.block.now in
    let none : c.args.held - c.loop-i.i ≡ 0 = omega arith in
    let all : List ℤ = pixels 1 xs 0 c.args.held in
    let s = rw none at c.loop-i.invariant.scanned in
    c.found.ensures ∙ scanned_result None _ _ _ _ _ _ _ _ _ _ all s (range_8 xs 0 c.args.held (λ k. let f = c.type_inv.block k in omega (arith, f))) (omega (arith, length-pixels 1 0 c.args.held xs))
    (omega (arith, ints, c.from.ensures)) (omega (arith, ints, c.from-2.ensures)) (omega (arith, ints, c.from-3.ensures))
