-- The offsets that the standard names for unsigned integers and signed bytes (FITS Standard 4.0, section 5.2.5, table 11).
use Rattle.std.proofs.Common.{◌≡◌, Bool, ◌*◌, true, false, refl, pos, negsuc}
use Rattle.fits_image.specs.Kind.{convention, kind_of, offset_of, width_of}
use Rattle.fits_image.specs.declared.kind.Kind.TheVariants.{U8, I8, I16, U16, I32, U32, I64, U64}

-- BITPIX 8 and BZERO -128: signed bytes
signed_bytes : (convention 8 ≡ negsuc 127) × (kind_of 8 true ≡ I8)
signed_bytes = (refl, refl)

-- BITPIX 16 and BZERO 32768: unsigned
unsigned_of_16_bits : (convention 16 ≡ pos 32768) × (kind_of 16 true ≡ U16)
unsigned_of_16_bits = (refl, refl)

-- BITPIX 32 and BZERO 2147483648: unsigned
unsigned_of_32_bits : (convention 32 ≡ pos 2147483648) × (kind_of 32 true ≡ U32)
unsigned_of_32_bits = (refl, refl)

-- BITPIX 64 and BZERO 9223372036854775808: unsigned
unsigned_of_64_bits : (convention 64 ≡ pos 9223372036854775808) × (kind_of 64 true ≡ U64)
unsigned_of_64_bits = (refl, refl)

-- without these offsets bytes are unsigned, and the others signed
as_stored : (kind_of 8 false ≡ U8) × (kind_of 16 false ≡ I16) × (kind_of 32 false ≡ I32) × (kind_of 64 false ≡ I64)
as_stored = (refl, refl, refl, refl)

-- a kind has the convention's offset where its image does, or 0
offsets : (offset_of (kind_of 8 true) ≡ convention 8) × (offset_of (kind_of 16 true) ≡ convention 16)
    × (offset_of (kind_of 32 true) ≡ convention 32) × (offset_of (kind_of 64 true) ≡ convention 64)
    × (offset_of U8 ≡ pos 0) × (offset_of I16 ≡ pos 0) × (offset_of I32 ≡ pos 0) × (offset_of I64 ≡ pos 0)
offsets = (refl, refl, refl, refl, refl, refl, refl, refl)

-- a pixel has as many bytes as BITPIX asks
widths : (offset : Bool) → (width_of (kind_of 8 offset) * 8 ≡ 8) × (width_of (kind_of 16 offset) * 8 ≡ 16)
    × (width_of (kind_of 32 offset) * 8 ≡ 32) × (width_of (kind_of 64 offset) * 8 ≡ 64)
widths true = (refl, refl, refl, refl)
widths false = (refl, refl, refl, refl)
