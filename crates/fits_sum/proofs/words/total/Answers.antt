use Rattle.std.proofs.lemmas.Grind.{common_steps}
use Rattle.std.proofs.Common.{◌≡◌, ◌<◌, ◌*◌, ◌+◌, ℕ, List, arith, ap, ◌∙◌, drop, take, length, slice_index, w8, Fits}
use Rattle.std.proofs.lemmas.List.{length-take, length-drop}
use Rattle.std.proofs.lemmas.Slice.{between_to_end}
use Rattle.std.proofs.lemmas.Simd.{chunk-fits, below_from_Fits}
use Rattle.std.specs.List.{between}
use Rattle.std.specs.Simd.Lanes.{chunk, Each1}
use Rattle.fits_sum.specs.Words.{word_total}
use Rattle.fits_sum.proofs.WordLemmas.{word_total-part, word_total-le}
use Rattle.fits_sum.proofs.ColumnLemmas.{word_total-zip2, columns_grow, columns_fit, length-columns}
use Rattle.fits_sum.proofs.words.total.Goals as goal

-- the 64 bytes of chunk i are bytes
bytes : (block : List ℕ) (i : ℕ) → ((k : ℕ) → Fits w8 (slice_index block k)) → length block ≡ 2880 → Each1 (λ y. y < 256) (chunk 0 64 (between (64 * i) 2880 block))
bytes block i fits e =
    let same = ap (take 64) (between_to_end block (64 * i) 2880 (omega arith)) in
    rw same (below_from_Fits w8 _ (chunk-fits w8 (64 * i) 64 block fits))

pub overflow_add-columns : goal.overflow_add-columns
overflow_add-columns c =
    columns_fit (255 * c.loop-i.i) c.loop-i.columns _ (omega arith) c.loop-i.invariant.low
    (bytes c.args.block.now c.loop-i.i (λ k. record { fits = c.fits-block k }) c.told-block)

pub loop-i-preserved : goal.loop-i-preserved
loop-i-preserved c =
    let block : List ℕ = c.args.block.now in
    let i : ℕ = c.loop-i.i in
    let same = ap (take 64) (between_to_end block (64 * i) 2880 (omega arith)) in
    let w = ap word_total same in
    let part = word_total-part 16 block (64 * i) 64 (64 * (i + 1)) (omega arith) (omega arith) (omega arith) in
    let long : length (chunk 0 64 (between (64 * i) 2880 block)) ≡ 64 = ap length same ∙ omega (arith, length-take 64 (drop (64 * i) block), length-drop (64 * i) block) in
    record {
      sum = ap (λ (t : ℕ). t + word_total (drop (64 * (i + 1)) block)) (word_total-zip2 16 c.loop-i.columns _ (omega arith) (omega (arith, long))) ∙ omega arith;
      long = length-columns c.loop-i.columns _ (omega (arith, long)) ∙ c.loop-i.invariant.long;
      low = columns_grow (255 * i) (255 * (i + 1)) c.loop-i.columns _ (omega arith) c.loop-i.invariant.low (bytes block i (λ k. record { fits = c.fits-block k }) c.told-block);
    }

pub returns-clause-within : goal.returns-clause-within
returns-clause-within c = omega (arith, c.columns_total.ensures, c.loop-i.invariant.sum, word_total-le 720 c.args.block.now (omega arith) (λ k l. c.fits-block k))

-- said, so that a body that breaks it is refused at once
pub returns-clause-value : goal.returns-clause-value
returns-clause-value c = grind (arith, common_steps)
