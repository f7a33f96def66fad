use Rattle.std.proofs.Common.{◌≡◌, ◌≤◌, ◌<◌, ◌+◌, ◌*◌, ◌∙◌, ℕ, List, take, length, map, get_or, ap, arith, sym, subst, w8, Fits}
use Rattle.std.specs.Prelude.{pos, replicate}
use Rattle.std.specs.Simd.Lanes.{chunk, sel_l, Each1}
use Rattle.std.proofs.lemmas.Int.{ints}
use Rattle.std.proofs.lemmas.List.{length-map, length-take}
use Rattle.std.proofs.lemmas.Simd.{chunk-fits, below_from_Fits, length-chunk}
use Rattle.fits_sum.proofs.ColumnLemmas.{columns_grow, columns_fit, length-columns}
use Rattle.fits_pixels.specs.Pixels.{pixels}
use Rattle.fits_pixels.proofs.PixelLemmas.{length-pixels}
use Rattle.fits_pixels.proofs.ScanLemmas.{range_8}
use Rattle.fits_pixels.proofs.LaneLemmas.{or_top, or_none, is_hit, hits, put_in, put_all, lowest-more, highest-more, sum-more, hits-le, or_none_small, is_hit_small, pixels-bytes, lanes_found, length-sel, length-less}
use Rattle.fits_pixels.proofs.pixels_8.scan_lanes.Goals as goal

-- 255 in place of BLANK's number, as the lanes have it
abbrev tops_of : ℕ → List ℕ → List ℕ
tops_of b xs = sel_l (hits b xs) (replicate 16 255) xs

-- 0 in place of BLANK's number
abbrev used_of : ℕ → List ℕ → List ℕ
used_of b xs = sel_l (hits b xs) (replicate 16 0) xs

-- 1 for BLANK's number
abbrev marks_of : ℕ → List ℕ → List ℕ
marks_of b xs = let one : List ℕ = replicate 16 1 in let none : List ℕ = replicate 16 0 in sel_l (hits b xs) one none

-- the sixteen bytes of a turn, and what is made of them
record Turn (b : ℕ) (v : List ℕ) : Type 0 where
  long : length v ≡ 16
  tops : tops_of b v ≡ map (or_top b) v
  used : used_of b v ≡ map (or_none b) v
  marks : marks_of b v ≡ map (is_hit b) v
  tops_long : length (tops_of b v) ≡ 16
  used_long : length (used_of b v) ≡ 16
  marks_long : length (marks_of b v) ≡ 16
  used_small : Each1 (λ x. x < 256) (used_of b v)
  marks_small : Each1 (λ x. x < 256) (marks_of b v)

-- a turn has them
turn : (block : List ℕ) (b i : ℕ) → 16 * i + 16 ≤ length block → ((k : ℕ) → Fits w8 (get_or block k 0)) → Turn b (chunk (16 * i) 16 block)
turn block b i room fits =
    let v : List ℕ = chunk (16 * i) 16 block in
    let long = length-chunk (16 * i) 16 block room in
    let tops = put_in b 255 v long in
    let used = put_in b 0 v long in
    let marks = put_all b 1 0 v long in
    record {
      long = long;
      tops = tops;
      used = used;
      marks = marks;
      tops_long = ap length tops ∙ length-map v (or_top b) ∙ long;
      used_long = ap length used ∙ length-map v (or_none b) ∙ long;
      marks_long = ap length marks ∙ length-map v (is_hit b) ∙ long;
      used_small = subst (Each1 (λ (x : ℕ). x < 256)) (sym used) (or_none_small b v (below_from_Fits w8 _ (chunk-fits w8 (16 * i) 16 block fits)));
      marks_small = subst (Each1 (λ (x : ℕ). x < 256)) (sym marks) (is_hit_small b v);
    }

pub overflow_add-sums : goal.overflow_add-sums
overflow_add-sums c =
    let t = turn c.args.block.now c.args.blank c.loop-i.i (omega (arith, c.requires, c.loop-i-test.true)) c.type_inv.block in
    columns_fit (255 * c.loop-i.i) c.loop-i.sums _ (omega (arith, c.requires, c.loop-i-test.true)) c.loop-i.invariant.sums_low t.used_small

pub overflow_add-counts : goal.overflow_add-counts
overflow_add-counts c =
    let t = turn c.args.block.now c.args.blank c.loop-i.i (omega (arith, c.requires, c.loop-i-test.true)) c.type_inv.block in
    columns_fit (255 * c.loop-i.i) c.loop-i.counts _ (omega (arith, c.requires, c.loop-i-test.true)) c.loop-i.invariant.counts_low t.marks_small

pub loop-i-preserved : goal.loop-i-preserved
loop-i-preserved c =
    let block : List ℕ = c.args.block.now in
    let b : ℕ = c.args.blank in
    let i : ℕ = c.loop-i.i in
    let v = c.loop-i.invariant in
    let t = turn block b i (omega (arith, c.requires, c.loop-i-test.true)) c.type_inv.block in
    let low = length-less c.loop-i.least _ (v.least_long ∙ sym t.tops_long) in
    let high = length-less c.loop-i.greatest _ (v.greatest_long ∙ sym t.used_long) in
    record {
      least = lowest-more b i block c.loop-i.least _ (v.least_long ∙ sym t.tops_long) t.tops v.least;
      greatest = highest-more b i block c.loop-i.greatest _ (v.greatest_long ∙ sym t.used_long) t.used v.greatest;
      sum = sum-more (or_none b) i block c.loop-i.sums _ (v.sums_long ∙ sym t.used_long) t.used v.sum;
      count = sum-more (is_hit b) i block c.loop-i.counts _ (v.counts_long ∙ sym t.marks_long) t.marks v.count;
      least_long = length-sel _ c.loop-i.least _ low (low ∙ v.least_long ∙ sym t.tops_long) ∙ low ∙ v.least_long;
      greatest_long = length-sel _ _ c.loop-i.greatest (high ∙ v.greatest_long ∙ sym t.used_long) high ∙ high ∙ v.greatest_long;
      sums_long = length-columns c.loop-i.sums _ (t.used_long ∙ sym v.sums_long) ∙ v.sums_long;
      counts_long = length-columns c.loop-i.counts _ (t.marks_long ∙ sym v.counts_long) ∙ v.counts_long;
      sums_low = columns_grow (255 * i) (255 * (i + 1)) c.loop-i.sums _ (omega arith) v.sums_low t.used_small;
      counts_low = columns_grow (255 * i) (255 * (i + 1)) c.loop-i.counts _ (omega arith) v.counts_low t.marks_small;
    }

-- all sixteens were scanned
pub overflow_sub-sixteens : goal.overflow_sub-sixteens
overflow_sub-sixteens c =
    let few = hits-le c.args.blank (take (16 * c.loop-i.i) c.args.block.now) in
    omega (arith, few, c.lanes_sum-blanks.ensures, c.loop-i.invariant.count, length-take (16 * c.loop-i.i) c.args.block.now)

pub returns : goal.returns
returns c =
    let xs : List ℕ = c.args.block.now in
    let n : ℕ = 16 * c.args.sixteens in
    let v = c.loop-i.invariant in
    let done : 16 * c.loop-i.i ≡ n = omega (arith, c.loop-i.auto, c.loop-i-test.false) in
    let ys : List ℕ = take (16 * c.loop-i.i) xs in
    let all = pixels-bytes xs 0 n (omega (arith, c.requires)) ∙ ap (λ k. map pos (take k xs)) (sym done) in
    let few = hits-le c.args.blank ys in
    c.found.ensures ∙ lanes_found c.args.blank ys (pixels 1 xs 0 n) c.least_lane.result c.greatest_lane.result c.lanes_sum.result c.lanes_sum-blanks.result _ _ _ _
    all (range_8 xs 0 n (λ k. let f = c.type_inv.block k in omega (arith, f))) (omega (arith, length-pixels 1 0 n xs, few, c.lanes_sum-blanks.ensures, v.count, length-take (16 * c.loop-i.i) xs, done))
    (c.least_lane.ensures ∙ v.least) (c.greatest_lane.ensures ∙ v.greatest) (c.lanes_sum.ensures ∙ v.sum) (c.lanes_sum-blanks.ensures ∙ v.count)
    (omega (arith, ints, c.from.ensures)) (omega (arith, ints, c.from-2.ensures)) (omega (arith, ints, c.from-3.ensures))
