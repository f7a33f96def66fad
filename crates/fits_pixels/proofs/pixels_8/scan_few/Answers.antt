use Rattle.std.proofs.Common.{◌≡◌, ◌+◌, ◌-◌, ◌∙◌, ℕ, ℤ, Some, List, pos, ap, arith, refl}
use Rattle.std.proofs.lemmas.Int.{ints}
use Rattle.fits_pixels.specs.Pixels.{pixels, pixel}
use Rattle.fits_pixels.proofs.PixelLemmas.{length-pixels}
use Rattle.fits_pixels.proofs.ScanLemmas.{scanned_skip, scanned_use, scanned_result, range_8, least_8, greatest_8, sum_8}
use Rattle.fits_pixels.proofs.pixels_8.scan_few.Goals as goal
use Rattle.fits_pixels.proofs.pixels_8.scan_few.Goals.{then-x-blank, else-x-blank}

pub loop-i-preserved : goal.loop-i-preserved
loop-i-preserved c =
    let xs : List ℕ = c.args.block.now in
    let i : ℕ = c.loop-i.i in
    let x : ℕ = c.read-x.result in
    let here : pos x ≡ pixel 1 xs i = c.read-x.ensures in
    let r = c.read-x.type_inv in
    elim c.if-x-blank.branch [
      | then-x-blank w ↦ record {
        scanned = scanned_skip 1 i (c.args.held - i) (i + 1) (c.args.held - (i + 1)) xs (omega arith) refl here (ap pos w.if-x-blank.true) c.loop-i.invariant.scanned
            (ap pos w.least-is) (ap pos w.greatest-is) (ap pos w.sum-is) (omega (arith, w.blanks-is));
        bound = omega (arith, c.loop-i.invariant.bound, w.sum-is);
        few = omega (arith, c.loop-i.invariant.few, w.blanks-is);
      }
      | else-x-blank w ↦ record {
        scanned = scanned_use 1 i (c.args.held - i) (i + 1) (c.args.held - (i + 1)) xs (omega arith) refl here (λ e. w.if-x-blank.false (omega (arith, ints, e))) c.loop-i.invariant.scanned
            (ap pos w.least-is ∙ least_8 _ c.loop-i.least x _ w.min-least.ensures refl) (ap pos w.greatest-is ∙ greatest_8 _ c.loop-i.greatest x _ w.max-greatest.ensures refl)
            (ap pos w.sum-is ∙ sum_8 c.loop-i.sum _ x _ w.from-sum.ensures refl) w.blanks-is;
        bound = omega (arith, c.loop-i.invariant.bound, w.sum-is, w.from-sum.ensures, r);
        few = omega (arith, c.loop-i.invariant.few, w.blanks-is);
      }
    ]

pub returns : goal.returns
returns c =
    let xs : List ℕ = c.args.block.now in
    let none : c.args.held - c.loop-i.i ≡ 0 = omega arith in
    let all : List ℤ = pixels 1 xs 0 c.args.held in
    let s = rw none at c.loop-i.invariant.scanned in
    c.found.ensures ∙ scanned_result (Some (pos c.args.blank)) _ _ _ _ _ _ _ _ _ _ all s (range_8 xs 0 c.args.held (λ k. let f = c.type_inv.block k in omega (arith, f))) (omega (arith, length-pixels 1 0 c.args.held xs, c.loop-i.invariant.few))
    (omega (arith, ints, c.from.ensures)) (omega (arith, ints, c.from-2.ensures)) (omega (arith, ints, c.from-3.ensures))
