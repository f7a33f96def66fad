-- The texts of a stamp are plain.
use Rattle.std.proofs.Common.{◌≡◌, ℕ, ◌^◌, ◌<◌, length, refl, arith}
use Rattle.fits_sum.specs.ChecksumText.{checksum_text, zeros}
use Rattle.fits_sum.proofs.TextLemmas.{texts_are_letters_and_digits}
use Rattle.fits_image.proofs.PlainTextLemmas.{IsPlain}

-- sixteen `0` are plain
pub zeros_plain : IsPlain zeros
zeros_plain = record { letters = refl; some = omega arith; few = omega arith }

-- a checksum text has sixteen characters
pub text_long : (sum : ℕ) → sum < 2 ^ 32 → length (checksum_text sum) ≡ 16
text_long sum small = (texts_are_letters_and_digits sum small).0

-- and is plain
pub text_plain : (sum : ℕ) → sum < 2 ^ 32 → IsPlain (checksum_text sum)
text_plain sum small = let p = texts_are_letters_and_digits sum small in record { letters = p.1; some = omega (arith, p.0); few = omega (arith, p.0) }
