-- What TFORMn says of a column (FITS Standard 4.0, sections 7.2.1, 7.3.1 and 7.3.5).
use Rattle.std.specs.Prelude.{◌≡◌, ℕ, ◌*◌, ◌<◌, ◌≤◌, List, [], ◌∷◌, ◌++◌, codes}
use Rattle.fits_table.specs.Element.{element_letter, elements_width}
use Rattle.fits_table.specs.Format.{format_letter}
use Rattle.fits_table.specs.Numeral.{IsNumeral}
use Rattle.fits_table.specs.declared.descriptor.Descriptor.{Descriptor}
use Rattle.fits_table.specs.declared.descriptor.Descriptor.TheVariants.{Narrow, Wide}
use Rattle.fits_table.specs.declared.element.Element.{Element}
use Rattle.fits_table.specs.declared.form.Form.{Form}
use Rattle.fits_table.specs.declared.form.Form.TheVariants.{Field, Elements, Array}
use Rattle.fits_table.specs.declared.format.Format.{Format}
use Rattle.fits_table.specs.declared.format.Format.TheVariants.{Text, Whole}
use Rattle.fits_table.specs.declared.table_kind.TableKind.{TableKind}
use Rattle.fits_table.specs.declared.table_kind.TableKind.TheVariants.{Ascii, Binary}

-- what follows the width: nothing after A and I, a point and the number of decimals after F, E and D (table 15)
abbrev pub HasDecimals : Format → List ℕ → ℕ → Type 0
HasDecimals Text rest decimals = (rest ≡ []) × (decimals ≡ 0)
HasDecimals Whole rest decimals = (rest ≡ []) × (decimals ≡ 0)
HasDecimals format rest decimals = (digits : List ℕ) × (rest ≡ codes "." ++ digits) × IsNumeral digits decimals

-- Aw, Iw, Fw.d, Ew.d or Dw.d (7.2.1, table 15); the decimals and their point leave room in the field (own)
pub record IsField (text : List ℕ) (format : Format) (width decimals : ℕ) : Type 0 where
  pub digits : List ℕ
  pub rest : List ℕ
  pub is_width : IsNumeral digits width
  pub has_decimals : HasDecimals format rest decimals
  pub room : decimals < width
  pub parts : text ≡ format_letter format ∷ digits ++ rest

-- the repeat count r: digits, or nothing, which stands for 1 (7.3.1)
abbrev pub IsCount : List ℕ → ℕ → Type 0
IsCount [] count = count ≡ 1
IsCount digits count = IsNumeral digits count

-- rTa: a count, the letter of a type, and additional characters, whatever they are (7.3.1, table 18)
pub record AreElements (text : List ℕ) (count : ℕ) (element : Element) : Type 0 where
  pub digits : List ℕ
  pub additional : List ℕ
  pub is_count : IsCount digits count
  pub parts : text ≡ digits ++ element_letter element ∷ additional

-- the letter of a descriptor: P or Q (table 18)
abbrev pub descriptor_letter : Descriptor → ℕ
descriptor_letter Narrow = 80
descriptor_letter Wide = 81

-- rPt(e), rQt(e): a count of 0 or 1, the letter of the descriptor and that of the elements' type (7.3.5).
-- The most elements that a row has are among the additional characters, and may be left out (own)
pub record IsArray (text : List ℕ) (count : ℕ) (descriptor : Descriptor) (element : Element) : Type 0 where
  pub digits : List ℕ
  pub additional : List ℕ
  pub is_count : IsCount digits count
  pub at_most_one : count ≤ 1
  pub parts : text ≡ digits ++ descriptor_letter descriptor ∷ element_letter element ∷ additional

-- TFORMn of a table of this kind says this form
abbrev pub IsForm : TableKind → List ℕ → Form → Type 0
IsForm Ascii text (Field format width decimals) = IsField text format width decimals
IsForm Binary text (Elements count element) = AreElements text count element
IsForm Binary text (Array count descriptor element) = IsArray text count descriptor element
IsForm kind text form = ⊥

-- how many bytes a descriptor takes (table 18)
abbrev pub descriptor_width : Descriptor → ℕ
descriptor_width Narrow = 8
descriptor_width Wide = 16

-- how many bytes of a row the column takes (7.2.1, 7.3.1)
unfoldable pub form_width : Form → ℕ
form_width (Field format width decimals) = width
form_width (Elements count element) = elements_width element count
form_width (Array count descriptor element) = count * descriptor_width descriptor
