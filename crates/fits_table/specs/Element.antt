-- The types of a binary table's elements (FITS Standard 4.0, section 7.3.1, table 18).
use Rattle.std.specs.Prelude.{ℕ, ◌+◌, ◌*◌, ◌/◌, ◌==◌, Option}
use Rattle.std.specs.List.{find}
use Rattle.fits_table.specs.declared.element.Element.{Element}
use Rattle.fits_table.specs.declared.element.Element.TheVariants.{Logical, Bit, Byte, Integer16, Integer32, Integer64, Character, Single, Double, SingleComplex, DoubleComplex}
use Rattle.fits_table.specs.declared.element.TheConstants.{ELEMENTS}

-- the letter of a type: L X B I J K A E D C M (table 18)
abbrev pub element_letter : Element → ℕ
element_letter Logical = 76
element_letter Bit = 88
element_letter Byte = 66
element_letter Integer16 = 73
element_letter Integer32 = 74
element_letter Integer64 = 75
element_letter Character = 65
element_letter Single = 69
element_letter Double = 68
element_letter SingleComplex = 67
element_letter DoubleComplex = 77

-- the type of a letter
unfoldable pub element_of : ℕ → Option Element
element_of letter = find (λ element. element_letter element == letter) ELEMENTS

-- how many bytes so many elements take in a row: bits stand eight to a byte, the last byte perhaps with fewer (table 18)
abbrev pub elements_width : Element → ℕ → ℕ
elements_width Logical count = count
elements_width Bit count = (count + 7) / 8
elements_width Byte count = count
elements_width Integer16 count = 2 * count
elements_width Integer32 count = 4 * count
elements_width Integer64 count = 8 * count
elements_width Character count = count
elements_width Single count = 4 * count
elements_width Double count = 8 * count
elements_width SingleComplex count = 8 * count
elements_width DoubleComplex count = 16 * count
