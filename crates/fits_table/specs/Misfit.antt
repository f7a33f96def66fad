-- Keywords that a column can't have (FITS Standard 4.0, sections 7.2.2, 7.3.2 and 7.3.4). A value that can't be read, and no value at
-- all, aren't judged here (own).
use Rattle.std.specs.Prelude.{ℕ, ◌&&◌, ◌||◌, Bool, true, false, not, nat_le, is_some, List, Option, None, Some}
use Rattle.std.specs.List.{list_any}
use Rattle.std.specs.Option.{option_map_or}
use Rattle.fits_codes.specs.Alone.{kind_said}
use Rattle.fits_codes.specs.Keywords.{suits}
use Rattle.fits_rules.specs.Reads.{string_said}
use Rattle.fits_rules.specs.Size.{product}
use Rattle.fits_value.specs.declared.reading.ValueKind.{ValueKind}
use Rattle.fits_value.specs.declared.reading.ValueKind.TheVariants as kind
use Rattle.fits_table.specs.Content.{content_of}
use Rattle.fits_table.specs.Dimensions.{dimensions_of}
use Rattle.fits_table.specs.Display.{is_display}
use Rattle.fits_table.specs.declared.column_leads.ColumnLeads.{ColumnLeads}
use Rattle.fits_table.specs.declared.content.Content.{Content}
use Rattle.fits_table.specs.declared.content.Content.TheVariants.{Characters, Logicals, Integers, Reals}
use Rattle.fits_table.specs.declared.display.Display.{Display}
use Rattle.fits_table.specs.declared.display.Display.TheVariants as display
use Rattle.fits_table.specs.declared.display.TheConstants.{DISPLAYS}
use Rattle.fits_table.specs.declared.form.Form.{Form}
use Rattle.fits_table.specs.declared.form.Form.TheVariants.{Field, Elements, Array}

-- integers stand in the column (7.3.2)
abbrev pub is_integers : Content → Bool
is_integers Integers = true
is_integers content = false

-- numbers do: not characters, logical values or bits (7.2.2, 7.3.2)
abbrev pub is_numbers : Content → Bool
is_numbers Integers = true
is_numbers Reals = true
is_numbers content = false

-- TNULLn may have a value of this type: a string in an ASCII table; an integer in a column of integers, and none in another (7.2.2, 7.3.2)
abbrev pub null_suits : Form → ValueKind → Bool
null_suits (Field format width decimals) type = suits kind.Str type
null_suits form type = is_integers (content_of form) && suits kind.Integer type

-- TSCALn and TZEROn may: a number in a column of numbers, and none in another (7.2.2, 7.3.2)
abbrev pub scale_suits : Form → ValueKind → Bool
scale_suits form type = is_numbers (content_of form) && suits kind.Real type

-- TDIMn may have this text: as many elements as the repeat count at most, those of an array in the heap being counted there;
-- the fields of an ASCII table are no arrays (7.3.2)
abbrev pub dimensions_suit : Form → List ℕ → Bool
dimensions_suit (Field format width decimals) text = false
dimensions_suit (Elements count element) text = option_map_or (λ sizes. nat_le (product sizes) count) (dimensions_of text) false
dimensions_suit (Array count descriptor element) text = is_some (dimensions_of text)

-- values are displayed so: characters by A, logical values by L, integers and bits by all others, reals by these without
-- B, O and Z, which are for integers only (tables 16 and 20)
abbrev pub may_display : Content → Display → Bool
may_display Characters display.Text = true
may_display Logicals display.Logical = true
may_display Characters way = false
may_display Logicals way = false
may_display content display.Text = false
may_display content display.Logical = false
may_display Reals display.Binary = false
may_display Reals display.Octal = false
may_display Reals display.Hexadecimal = false
may_display content way = true

-- TDISPn may have this text (7.2.2, 7.3.4)
abbrev pub display_suits : Form → List ℕ → Bool
display_suits form text = list_any (λ way. may_display (content_of form) way && is_display text way) DISPLAYS

-- a value is there
abbrev pub is_defined : Option ValueKind → Bool
is_defined None = false
is_defined (Some kind.Undefined) = false
is_defined (Some type) = true

-- a value is there whose type isn't suited
abbrev pub kind_misfits : (ValueKind → Bool) → Option (List ℕ) → Bool
kind_misfits suit None = false
kind_misfits suit (Some card) = option_map_or (λ type. not (suit type)) (kind_said card) false

-- a value is there that is no string, or whose text isn't suited
abbrev pub text_misfits : (List ℕ → Bool) → Option (List ℕ) → Bool
text_misfits suit None = false
text_misfits suit (Some card) = option_map_or (λ text. not (suit text)) (string_said card) (is_defined (kind_said card))

-- E31: a TDIM, TNULL, TSCAL, TZERO or TDISP that a column of this form can't have
abbrev pub has_misfit : Form → ColumnLeads → Bool
has_misfit form leads =
    text_misfits (dimensions_suit form) leads.dimensions || text_misfits (display_suits form) leads.display
    || kind_misfits (null_suits form) leads.null || kind_misfits (scale_suits form) leads.scale || kind_misfits (scale_suits form) leads.zero
