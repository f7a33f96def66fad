use Rattle.std.proofs.Common.{◌≡◌, ◌*◌, ◌+◌, ◌-◌, ◌/◌, ◌∙◌, ℕ, List, arith, ap, drop, length, refl}
use Rattle.std.proofs.lemmas.Slice.{between_to_end}
use Rattle.byteorder.specs.Endian.{big_from}
use Rattle.fits_sum.proofs.WordLemmas.{word_total-at}
use Rattle.fits_pixels.proofs.HalfLemmas.{halved, fours_turn, twos_turn}
use Rattle.fits_pixels.proofs.halves.halves_of.Goals as goal

pub loop-i-preserved : goal.loop-i-preserved
loop-i-preserved c =
    let xs : List ℕ = c.args.block.now in
    let i : ℕ = c.loop-i.i in
    let v = c.loop-i.invariant in
    let word : c.read_u32-word.result ≡ big_from 0 4 (drop (4 * i) xs) = c.read_u32-word.ensures ∙ ap (big_from 0 4) (between_to_end xs (4 * i) (length xs) (omega arith)) in
    let here = halved xs i c.read_u32-word.result (λ k. let f = c.type_inv.block k in omega (arith, f)) word in
    let at = word_total-at xs (4 * i) (4 * (i + 1)) (omega arith) (omega arith) in
    record {
      words = omega (arith, v.words, at, word);
      fours = fours_turn xs i (length xs / 4 - i) (i + 1) (length xs / 4 - (i + 1)) (65536 * c.loop-i.high + c.loop-i.low) _ _ (omega arith) refl v.fours (omega (arith, here.is));
      twos = twos_turn xs (2 * i) (length xs / 2 - 2 * i) (2 * (i + 1)) (length xs / 2 - 2 * (i + 1)) (c.loop-i.high + c.loop-i.low) _ _ (omega (arith, c.requires)) (omega arith) v.twos (omega (arith, here.high, here.low));
      high = omega (arith, v.high, c.read_u32-word.type_inv);
      low = omega (arith, v.low);
    }
