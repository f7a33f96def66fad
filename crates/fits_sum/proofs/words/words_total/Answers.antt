use Rattle.std.proofs.Common.{◌≡◌, ◌*◌, ◌+◌, arith, ap, ◌∙◌, drop, length}
use Rattle.std.proofs.lemmas.Slice.{between_to_end}
use Rattle.byteorder.specs.Endian.{big_number}
use Rattle.fits_sum.proofs.WordLemmas.{word_total-at}
use Rattle.fits_sum.proofs.words.words_total.Goals as goal

pub loop-i-preserved : goal.loop-i-preserved
loop-i-preserved c =
    let bytes = c.args.bytes.now in
    let rest = between_to_end bytes (4 * c.loop-i.i) (length bytes) (omega arith) in
    let word : c.read_u32.result ≡ big_number 4 (drop (4 * c.loop-i.i) bytes) = c.read_u32.ensures ∙ ap (big_number 4) rest in
    let e = word_total-at bytes (4 * c.loop-i.i) (4 * (c.loop-i.i + 1)) (omega arith) (omega arith) in
    record { sum = omega arith; low = omega arith }
