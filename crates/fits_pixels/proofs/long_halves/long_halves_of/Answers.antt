use Rattle.std.proofs.Common.{◌≡◌, ◌*◌, ◌+◌, ◌-◌, ◌/◌, ◌∙◌, ℕ, List, arith, ap, drop, length, refl}
use Rattle.std.proofs.lemmas.Slice.{between_to_end}
use Rattle.byteorder.specs.Endian.{big_from}
use Rattle.fits_sum.proofs.WordLemmas.{word_total-at}
use Rattle.fits_pixels.proofs.HalfLemmas.{long_halved, eights_turn}
use Rattle.fits_pixels.proofs.long_halves.long_halves_of.Goals as goal

pub loop-i-preserved : goal.loop-i-preserved
loop-i-preserved c =
    let xs : List ℕ = c.args.block.now in
    let i : ℕ = c.loop-i.i in
    let v = c.loop-i.invariant in
    let long : c.read_u64-long.result ≡ big_from 0 8 (drop (8 * i) xs) = c.read_u64-long.ensures ∙ ap (big_from 0 8) (between_to_end xs (8 * i) (length xs) (omega arith)) in
    let here = long_halved xs i c.read_u64-long.result (λ k. let f = c.type_inv.block k in omega (arith, f)) long in
    let first = word_total-at xs (8 * i) (8 * i + 4) (omega arith) (omega arith) in
    let second = word_total-at xs (8 * i + 4) (8 * (i + 1)) (omega arith) (omega arith) in
    record {
      words = omega (arith, v.words, first, second, here.high, here.low);
      eights = eights_turn xs i (length xs / 8 - i) (i + 1) (length xs / 8 - (i + 1)) (4294967296 * c.loop-i.high + c.loop-i.low) _ _ (omega arith) refl v.eights (omega (arith, here.is));
      high = omega (arith, v.high, c.read_u64-long.type_inv);
      low = omega (arith, v.low);
    }
