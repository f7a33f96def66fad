-- How the fields of an ASCII table are written (FITS Standard 4.0, section 7.2.1, table 15).
use Rattle.std.specs.Prelude.{ℕ, ◌==◌, Option}
use Rattle.std.specs.List.{find}
use Rattle.fits_table.specs.declared.format.Format.{Format}
use Rattle.fits_table.specs.declared.format.Format.TheVariants.{Text, Whole, Fixed, Exponential, DoubleExponential}
use Rattle.fits_table.specs.declared.format.TheConstants.{FORMATS}

-- the letter of a format: A I F E D (table 15)
abbrev pub format_letter : Format → ℕ
format_letter Text = 65
format_letter Whole = 73
format_letter Fixed = 70
format_letter Exponential = 69
format_letter DoubleExponential = 68

-- the format of a letter
unfoldable pub format_of : ℕ → Option Format
format_of letter = find (λ format. format_letter format == letter) FORMATS
