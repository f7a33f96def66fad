-- What `list` prints, and with -l (own; FITS Standard 4.0, sections 3.1 and 4.4.1).
use Rattle.std.specs.Prelude.{ℕ, ◌+◌, Bool, List, ◌++◌, codes, ℤ, [], ◌∷◌, length, Result, Ok, Err}
use Rattle.std.specs.Fmt.{decimal, signed_decimal}
use Rattle.fits_passing.specs.declared.offsets.HduOffsets.{HduOffsets}
use Rattle.fits_rules.specs.Shape.{shape_of}
use Rattle.fits_rules.specs.declared.class.Class.{Class}
use Rattle.fits_rules.specs.declared.class.Class.TheVariants.{Primary, Groups, Image, Table, Other}
use Rattle.fits_rules.specs.declared.array_shape.Shape.{Shape}
use Rattle.fits_passing.specs.Hdu.{HduParts}
use Rattle.fits_passing.specs.declared.outline.Outline.{Outline}
use Rattle.fits_passing.specs.File.{FileParts, offsets_from, is_primary_hdu}
use Rattle.fits_tell.specs.Called.{called_words}
use Rattle.fits_tell.specs.declared.called_outline.CalledOutline.{CalledOutline}

-- the offsets of an HDU: where its header begins, its data begin and it ends
abbrev pub offsets_text : HduOffsets → List ℕ
offsets_text at = decimal at.header_start ++ (codes " " ++ (decimal at.data_start ++ (codes " " ++ decimal at.hdu_end)))

-- a class as it is printed
abbrev pub class_text : Class → List ℕ
class_text Primary = codes "PRIMARY"
class_text Groups = codes "GROUPS"
class_text Image = codes "IMAGE"
class_text Table = codes "TABLE"
class_text Other = codes "OTHER"

-- further axes, each after an x
abbrev pub more_axes_text : List ℕ → List ℕ
more_axes_text [] = []
more_axes_text (axis ∷ axes) = codes "x" ++ (decimal axis ++ more_axes_text axes)

-- axes, separated by x, or - for none
abbrev pub axes_text : List ℕ → List ℕ
axes_text [] = codes "-"
axes_text (axis ∷ axes) = decimal axis ++ more_axes_text axes

-- `hdu N CLASS bitpix B axes `
abbrev pub line_front : ℕ → Class → ℤ → List ℕ
line_front number class bitpix =
    codes "hdu " ++ (decimal number ++ (codes " " ++ (class_text class ++ (codes " bitpix " ++ (signed_decimal bitpix ++ codes " axes ")))))

-- ` cards C at HEADER DATA END`, with these words before ` at`
abbrev pub line_back : ℕ → List ℕ → HduOffsets → List ℕ
line_back cards words at = codes " cards " ++ (decimal cards ++ (words ++ (codes " at " ++ (offsets_text at ++ codes "\n"))))

-- `hdu N CLASS bitpix B axes A cards C at HEADER DATA END`, with these words before ` at`
unfoldable pub hdu_line : ℕ → ℕ → List ℕ → HduOffsets → Shape → List ℕ
hdu_line number cards words at shape = line_front number shape.class shape.bitpix ++ (axes_text shape.axes ++ line_back cards words at)

-- the line of an HDU that has a shape
abbrev pub line_of : ℕ → ℕ → List ℕ → HduOffsets → Result Shape ℕ → List ℕ
line_of number cards words at (Ok shape) = hdu_line number cards words at shape
line_of number cards words at (Err place) = []

-- the lines of HDUs from this number on, with their offsets, and with the words that each has
abbrev pub hdu_lines : (Bool → List (List ℕ) → List ℕ) → ℕ → List HduParts → List HduOffsets → List ℕ
hdu_lines words number [] offsets = []
hdu_lines words number (hdu ∷ hdus) [] = []
hdu_lines words number (hdu ∷ hdus) (at ∷ offsets) =
    line_of number (length hdu.header.cards) (words (is_primary_hdu number) hdu.header.cards) at (shape_of (is_primary_hdu number) hdu.header.cards)
    ++ hdu_lines words (number + 1) hdus offsets

-- no words
abbrev pub no_words : Bool → List (List ℕ) → List ℕ
no_words primary cards = []

-- one line for each HDU of a file
unfoldable pub listing : FileParts → List ℕ
listing file = hdu_lines no_words 1 file.hdus (offsets_from 0 file.hdus)

-- the same, and what each is called
unfoldable pub long_listing : FileParts → List ℕ
long_listing file = hdu_lines called_words 1 file.hdus (offsets_from 0 file.hdus)

-- where an HDU stands that begins here, by its outline
abbrev pub outlined_offsets : ℕ → Outline → HduOffsets
outlined_offsets start it = record { header_start = start; data_start = start + it.header_len; hdu_end = start + it.header_len + it.data_len }

-- the line of the HDU of this number that begins here, by its outline, and with these words
abbrev pub outlined_line : List ℕ → ℕ → ℕ → Outline → List ℕ
outlined_line words number start it = hdu_line number it.card_count words (outlined_offsets start it) it.shape

-- how many bytes it has
abbrev pub outlined_len : Outline → ℕ
outlined_len it = it.header_len + it.data_len

-- the line without words
abbrev pub plain_line : ℕ → ℕ → Outline → List ℕ
plain_line number start it = outlined_line [] number start it

-- the line with those of what it is called
abbrev pub called_line : ℕ → ℕ → CalledOutline → List ℕ
called_line number start it = outlined_line it.words.items number start it.outline

-- how many bytes that HDU has
abbrev pub called_len : CalledOutline → ℕ
called_len it = outlined_len it.outline
