use Rattle.std.proofs.Common.{◌≡◌, ◌<◌, ◌∙◌, ◌*◌, ◌+◌, ◌^◌, ℕ, List, length, ap, arith, drop}
use Rattle.std.specs.Int.{w32, cast_signed}
use Rattle.std.proofs.lemmas.Slice.{between_to_end}
use Rattle.std.proofs.lemmas.Int.{to_z-of_z}
use Rattle.byteorder.specs.Endian.{big_from}
use Rattle.byteorder.specs.Numbers.{big_from-lt}
use Rattle.fits_pixels.proofs.PixelLemmas.{big_from-drop}
use Rattle.fits_pixels.proofs.ScanLemmas.{signed_32}
use Rattle.fits_pixels.proofs.pixels_32.I32SignedPixel.read.Goals as goal

pub returns : goal.returns
returns c =
    let xs : List ℕ = c.args.block.now in
    let at : ℕ = c.args.i * 4 in
    let turned : 4 * c.args.i ≡ at = omega arith in
    let z : at + 0 ≡ at = omega arith in
    let n : ℕ = big_from at 4 xs in
    let small : n < 256 ^ 4 = big_from-lt at 4 xs (λ k. let f = c.type_inv.block k in omega (arith, f)) in
    to_z-of_z w32 c.read_i32.result (record { sfits = c.read_i32.type_inv })
    ∙ c.read_i32.ensures
    ∙ ap (λ ys. cast_signed w32 (big_from 0 4 ys)) (between_to_end xs (4 * c.args.i) (length xs) (omega arith) ∙ ap (λ k. drop k xs) turned)
    ∙ ap (cast_signed w32) (big_from-drop at 0 4 xs ∙ ap (λ k. big_from k 4 xs) z)
    ∙ signed_32 n (omega (arith, small))
