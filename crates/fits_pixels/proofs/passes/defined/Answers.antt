use Rattle.std.proofs.Common.{◌≡◌, ◌+◌, ◌-◌, ◌∙◌, ℕ, None, List, arith, refl, ap}
use Rattle.std.specs.Prelude.{int_lt}
use Rattle.std.specs.Int.{int_min, int_max}
use Rattle.std.proofs.lemmas.Int.{ints}
use Rattle.fits_pixels.specs.Pixels.{pixels}
use Rattle.fits_pixels.specs.Scan.{negative_count}
use Rattle.fits_pixels.proofs.ApartLemmas.{ranged_none, ranged_turn}
use Rattle.fits_pixels.proofs.HalfLemmas.{negatives_turn, test_le}
use Rattle.fits_pixels.proofs.SignedLemmas.{nearest_bottom, nearest_count, nearest_top, ordered, extremes_found, few_held, range_signed}
use Rattle.fits_pixels.proofs.passes.defined.Goals as goal

pub loop-i-init : goal.loop-i-init
loop-i-init g c =
    let w : ℕ = g.P.SignedPixel.width in
    let signed = g.met.P.SignedPixel.signed in
    let all : c.args.held - 0 ≡ c.args.held = omega arith in
    let zero = c.nearest-zero.ensures ∙ nearest_count w 0 signed (omega arith) in
    record {
      ranged = ranged_none _ _ _ _ _ _ _ _ (c.nearest-least.ensures ∙ nearest_top w signed) (c.nearest-greatest.ensures ∙ nearest_bottom w signed) refl (ap (pixels w c.args.block.now 0) all);
      negatives = omega (arith, ints, zero, ap (λ k. negative_count (pixels w c.args.block.now 0 k)) all);
      some = omega (arith, ints, zero);
      few = omega (arith, ints, zero);
    }

pub with-negatives-requires : goal.with-negatives-requires
with-negatives-requires g c =
    let few = few_held g.P.SignedPixel.width c.args.held _ g.met.P.SignedPixel.signed c.requires.within c.requires.short in
    omega (arith, ints, few, c.loop-i.invariant.few, c.loop-i-test.true)

pub loop-i-preserved : goal.loop-i-preserved
loop-i-preserved g c =
    let p = g.P.SignedPixel in
    let xs : List ℕ = c.args.block.now in
    let i : ℕ = c.loop-i.i in
    let v = c.loop-i.invariant in
    let o = ordered p.number g.P.PartialEq.eq g.P.PartialOrd.partial_cmp g.P.Ord.cmp g.met.P.SignedPixel.order g.met.P.Ord.matches_partial_cmp g.met.P.Ord.matches_eq in
    let zero = c.nearest-zero.ensures ∙ nearest_count p.width 0 g.met.P.SignedPixel.signed (omega arith) in
    let sign = c.lt.ensures ∙ o.less c.read-x.result c.nearest-zero.result ∙ ap (int_lt (p.number c.read-x.result)) zero in
    let one = test_le c.lt.result in
    record {
      ranged = ranged_turn p.width i (c.args.held - i) (i + 1) (c.args.held - (i + 1)) xs (omega arith) refl v.ranged
          (o.least _ _ _ c.min-least.ensures ∙ ap (int_min (p.number c.loop-i.least)) c.read-x.ensures)
          (o.greatest _ _ _ c.max-greatest.ensures ∙ ap (int_max (p.number c.loop-i.greatest)) c.read-x.ensures);
      negatives = negatives_turn p.width i (c.args.held - i) (i + 1) (c.args.held - (i + 1)) xs _ _ _ _ _ (omega arith) refl c.read-x.ensures v.negatives sign c.with-negatives.ensures;
      some = omega (arith, ints, v.some, c.with-negatives.ensures);
      few = omega (arith, ints, v.few, c.with-negatives.ensures, one);
    }

pub returns : goal.returns
returns g c =
    let w : ℕ = g.P.SignedPixel.width in
    let xs : List ℕ = c.args.block.now in
    let none : c.args.held - c.loop-i.i ≡ 0 = omega arith in
    let s = rw none at c.loop-i.invariant.ranged in
    let n = rw none at c.loop-i.invariant.negatives in
    extremes_found None None _ _ _ _ _ (pixels w xs 0 c.args.held) _ s (range_signed w g.met.P.SignedPixel.signed xs 0 c.args.held (λ k. let f = c.type_inv.block k in omega (arith, f))) refl
    (omega (arith, ints, c.wide.ensures)) (omega (arith, ints, c.wide-2.ensures)) (omega (arith, ints, n, c.wide-3.ensures, c.loop-i.invariant.some)) (omega arith)
