use Rattle.std.proofs.Common.{cond, ◌<◌, ◌≡◌, ◌≢◌, ◌≤◌, pos, cond, ◌+◌, ◌-◌, ◌∙◌, ℕ, ℤ, Some, List, arith, refl, ap, sym, length}
use Rattle.std.specs.Prelude.{◌+ℤ◌, int_lt, unsigned_abs}
use Rattle.std.specs.Int.{int_min, int_max, w64}
use Rattle.std.proofs.lemmas.Int.{ints, to_z-of_z}
use Rattle.fits_pixels.specs.Pixels.{pixels, pixel}
use Rattle.fits_pixels.proofs.ApartLemmas.{ranged_lead, negatives_lead, lead_le, past_first, least_stays, greatest_stays, least_bound, greatest_bound, ranged_skip, ranged_use}
use Rattle.fits_pixels.proofs.HalfLemmas.{negatives_turn, test_le}
use Rattle.fits_pixels.proofs.SignedLemmas.{nearest, nearest_bottom, nearest_count, nearest_stored, nearest_top, ordered, extremes_found, few_held, range_signed}
use Rattle.fits_pixels.proofs.passes.beside.Goals as goal
use Rattle.fits_pixels.proofs.passes.beside.Goals.{then-eq, else-eq}

pub loop-i-init : goal.loop-i-init
loop-i-init g c =
    let p = g.P.SignedPixel in
    let xs : List ℕ = c.args.block.now in
    let first : ℕ = c.leading_blanks-first.result in
    let signed = g.met.P.SignedPixel.signed in
    let all : first + (c.args.held - first) ≡ c.args.held = omega (arith, c.leading_blanks-first.ensures.within) in
    let held : c.args.held ≤ 1440 = few_held p.width c.args.held (length xs) signed c.requires.within c.requires.short in
    let within : first ≤ 1440 = omega (arith, c.leading_blanks-first.ensures.within, held) in
    let is : p.number c.nearest-blanks.result ≡ pos first = c.nearest-blanks.ensures ∙ ap (nearest p.width) (omega (arith, ints, within)) ∙ nearest_count p.width first signed within in
    let count : unsigned_abs (p.number c.nearest-blanks.result) ≡ first = omega (arith, ints, is) in
    let named = c.nearest-named.ensures ∙ ap (nearest p.width) (to_z-of_z w64 c.args.blank c.ranges.blank) ∙ nearest_stored p.width c.args.blank c.requires.storable in
    let some = ap (λ z. cond (int_lt z (pos 0)) first 0) (to_z-of_z w64 c.args.blank c.ranges.blank) in
    let few = lead_le (int_lt c.args.blank (pos 0)) first _ refl in
    let negatives : ℕ = cond (int_lt c.args.blank (pos 0)) first 0 in
    let signs : p.number c.nearest-negatives.result ≡ pos negatives
    = c.nearest-negatives.ensures ∙ ap (nearest p.width) (omega (arith, ints, c.negative_blanks.ensures, some)) ∙ nearest_count p.width negatives signed (omega (arith, few, within)) in
    let leading : (k : ℕ) → k < first → pixel p.width xs k ≡ c.args.blank = λ k l. c.leading_blanks-first.ensures.blank k l ∙ named in
    let lead = negatives_lead p.width c.args.blank xs first (c.args.held - first) c.args.held leading all in
    record {
      ranged = rw (c.nearest-least.ensures ∙ nearest_top p.width signed, c.nearest-greatest.ensures ∙ nearest_bottom p.width signed, count) (ranged_lead p.width _ _ _ xs first (c.args.held - first) c.args.held c.leading_blanks-first.ensures.blank all);
      some = omega (arith, ints, is);
      few = omega (arith, ints, is);
      negatives = omega (arith, ints, lead, signs);
      some_negatives = omega (arith, ints, signs);
      few_negatives = omega (arith, ints, signs, few);
      from = omega arith;
      low = λ l. absurd (omega (arith, l));
      high = λ l. absurd (omega (arith, l));
    }

pub negative_blanks-requires : goal.negative_blanks-requires
negative_blanks-requires g c =
    let held = few_held g.P.SignedPixel.width c.args.held _ g.met.P.SignedPixel.signed c.requires.within c.requires.short in
    omega (arith, held, c.leading_blanks-first.ensures.within)

pub with-blanks-requires : goal.with-blanks-requires
with-blanks-requires g c =
    let held = few_held g.P.SignedPixel.width c.args.held _ g.met.P.SignedPixel.signed c.requires.within c.requires.short in
    omega (arith, ints, held, c.loop-i.invariant.few, c.loop-i-test.true)

pub with-negatives-requires : goal.with-negatives-requires
with-negatives-requires g c =
    let held = few_held g.P.SignedPixel.width c.args.held _ g.met.P.SignedPixel.signed c.requires.within c.requires.short in
    omega (arith, ints, held, c.loop-i.invariant.few_negatives, c.loop-i-test.true)

pub loop-i-preserved : goal.loop-i-preserved
loop-i-preserved g c =
    let p = g.P.SignedPixel in
    let xs : List ℕ = c.args.block.now in
    let i : ℕ = c.loop-i.i in
    let first : ℕ = c.leading_blanks-first.result in
    let v = c.loop-i.invariant in
    let here : p.number c.read-x.result ≡ pixel p.width xs i = c.read-x.ensures in
    let fill : ℤ = p.number c.pixel_or_zero-fill.result in
    let low : ℤ = p.number c.loop-i.least in
    let high : ℤ = p.number c.loop-i.greatest in
    let o = ordered p.number g.P.PartialEq.eq g.P.PartialOrd.partial_cmp g.P.Ord.cmp g.met.P.SignedPixel.order g.met.P.Ord.matches_partial_cmp g.met.P.Ord.matches_eq in
    let zero = c.nearest-zero.ensures ∙ nearest_count p.width 0 g.met.P.SignedPixel.signed (omega arith) in
    let sign = c.lt.ensures ∙ o.less c.read-x.result c.nearest-zero.result ∙ ap (int_lt (p.number c.read-x.result)) zero in
    let one = test_le c.lt.result in
    let count = negatives_turn p.width i (c.args.held - i) (i + 1) (c.args.held - (i + 1)) xs _ _ _ _ _ (omega arith) refl here v.negatives sign c.with-negatives.ensures in
    elim c.if-eq.branch [
      | then-eq w ↦
          let named : p.number c.read-x.result ≡ p.number c.nearest-named.result = o.same _ _ (sym c.eq.ensures ∙ w.if-eq.true) in
          let past = past_first p.width first i c.args.held xs _ c.leading_blanks-first.ensures.stops v.from (omega (arith, c.loop-i-test.true)) (sym here ∙ named) in
          let least = o.least _ _ _ c.min-least.ensures ∙ ap (λ u. int_min low (p.number u)) w.used-is ∙ least_stays low fill (v.low past) in
          let greatest = o.greatest _ _ _ c.max-greatest.ensures ∙ ap (λ u. int_max high (p.number u)) w.used-is ∙ greatest_stays high fill (v.high past) in
          let more : p.number c.if-eq.blanks ≡ p.number c.loop-i.blanks +ℤ pos 1 = ap p.number w.blanks-is ∙ w.with-blanks.ensures in
          let blanks : unsigned_abs (p.number c.if-eq.blanks) ≡ unsigned_abs (p.number c.loop-i.blanks) + 1 = omega (arith, ints, more, v.some) in
          record {
            ranged = ranged_skip p.width i (c.args.held - i) (i + 1) (c.args.held - (i + 1)) xs (omega arith) refl here named v.ranged least greatest blanks;
            some = omega (arith, ints, more, v.some);
            few = omega (arith, ints, more, v.few);
            negatives = count;
            some_negatives = omega (arith, ints, v.some_negatives, c.with-negatives.ensures);
            few_negatives = omega (arith, ints, v.few_negatives, c.with-negatives.ensures, one);
            from = omega (arith, v.from);
            low = λ l. omega (arith, ints, least, v.low past);
            high = λ l. omega (arith, ints, greatest, v.high past);
          }
      | else-eq w ↦
          let other : p.number c.read-x.result ≢ p.number c.nearest-named.result = λ e. absurd (let z = sym w.if-eq.false ∙ c.eq.ensures ∙ o.equal _ _ e in (cc z)) in
          let least = o.least _ _ _ c.min-least.ensures ∙ ap (λ u. int_min low (p.number u)) w.used-is in
          let greatest = o.greatest _ _ _ c.max-greatest.ensures ∙ ap (λ u. int_max high (p.number u)) w.used-is in
          let same : p.number c.if-eq.blanks ≡ p.number c.loop-i.blanks = ap p.number w.blanks-is in
          let is_fill : first ≡ i → p.number c.read-x.result ≡ fill
          = λ e. here ∙ ap (pixel p.width xs) (sym e) ∙ sym (c.pixel_or_zero-fill.ensures (omega (arith, e, c.loop-i-test.true))) in
          record {
            ranged = ranged_use p.width i (c.args.held - i) (i + 1) (c.args.held - (i + 1)) xs (omega arith) refl here other v.ranged least greatest (ap unsigned_abs same);
            some = omega (arith, ints, same, v.some);
            few = omega (arith, ints, same, v.few);
            negatives = count;
            some_negatives = omega (arith, ints, v.some_negatives, c.with-negatives.ensures);
            few_negatives = omega (arith, ints, v.few_negatives, c.with-negatives.ensures, one);
            from = omega (arith, v.from);
            low = λ l. omega (arith, ints, least, least_bound first i low fill _ v.from v.low is_fill);
            high = λ l. omega (arith, ints, greatest, greatest_bound first i high fill _ v.from v.high is_fill);
          }
    ]

pub returns : goal.returns
returns g c =
    let w : ℕ = g.P.SignedPixel.width in
    let xs : List ℕ = c.args.block.now in
    let none : c.args.held - c.loop-i.i ≡ 0 = omega arith in
    let v = c.loop-i.invariant in
    let s = rw none at v.ranged in
    let n = rw none at v.negatives in
    extremes_found (Some (g.P.SignedPixel.number c.nearest-named.result)) (Some c.args.blank) _ _ _ _ _ (pixels w xs 0 c.args.held) _ s (range_signed w g.met.P.SignedPixel.signed xs 0 c.args.held (λ k. let f = c.type_inv.block k in omega (arith, f))) (ap Some (sym (c.nearest-named.ensures ∙ ap (nearest w) (to_z-of_z w64 c.args.blank c.ranges.blank) ∙ nearest_stored w c.args.blank c.requires.storable)))
    (omega (arith, ints, c.wide.ensures)) (omega (arith, ints, c.wide-2.ensures)) (omega (arith, ints, n, c.wide-3.ensures, v.some_negatives)) (omega (arith, ints, c.wide-4.ensures, v.some))
