-- Sums and texts computed by hand and by others: the definitions give the same.
use Rattle.std.proofs.Common.{◌≡◌, [], ◌∷◌, refl}
use Rattle.std.specs.Prelude.{codes}
use Rattle.fits_sum.specs.ChecksumText.{least_move, characters_of, checksum_text, zeros}
use Rattle.fits_sum.specs.OnesComplement.{ones_complement}
use Rattle.fits_sum.specs.Words.{word_total}

-- Appendix J's example: the complement of 868229149 is 0xCC3FDFE2
example_of_the_standard : checksum_text 868229149 ≡ codes "hcHjjc9ghcEghc9g"
unfolding characters_of least_move
example_of_the_standard = refl

-- the text of all ones is sixteen `0`
all_ones_is_zeros : checksum_text 4294967295 ≡ zeros
unfolding characters_of least_move
all_ones_is_zeros = refl

-- and sixteen `0` are
zeros_are : zeros ≡ codes "0000000000000000"
zeros_are = refl

-- the text of 0
text_of_zero : checksum_text 0 ≡ codes "orrrrooooooooooo"
unfolding characters_of least_move
text_of_zero = refl

-- pairs that move by 4 and by 7
moved_pairs : checksum_text 3570717908 ≡ codes "3AAAA6666AAAA333"
unfolding characters_of least_move
moved_pairs = refl

-- the text of an HDU of one header block without data
text_of_an_empty_primary : checksum_text 44507573 ≡ codes "BpFiDoFgBoFgBoFg"
unfolding characters_of least_move
text_of_an_empty_primary = refl

-- an array of 32 bits, -1 and 1: the carry is put back in
two_pixels : word_total (255 ∷ 255 ∷ 255 ∷ 255 ∷ 0 ∷ 0 ∷ 0 ∷ 1 ∷ []) ≡ 4294967296
two_pixels = refl

-- its sum
two_pixels_sum : ones_complement 4294967296 ≡ 1
two_pixels_sum = refl

-- an array of 16 bits, 1, with its fill
one_pixel : word_total (0 ∷ 1 ∷ 0 ∷ 0 ∷ []) ≡ 65536
one_pixel = refl

-- 0 and all ones are kept apart
zero_sum : ones_complement 0 ≡ 0
zero_sum = refl

-- all ones are their own sum
all_ones_sum : ones_complement 4294967295 ≡ 4294967295
all_ones_sum = refl
