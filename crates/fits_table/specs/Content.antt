-- What stands in a column, as far as rules of its keywords ask (FITS Standard 4.0, tables 15 and 18).
use Rattle.fits_table.specs.declared.content.Content.{Content}
use Rattle.fits_table.specs.declared.content.Content.TheVariants.{Characters, Logicals, Bits, Integers, Reals}
use Rattle.fits_table.specs.declared.element.Element.{Element}
use Rattle.fits_table.specs.declared.element.Element.TheVariants as element
use Rattle.fits_table.specs.declared.form.Form.{Form}
use Rattle.fits_table.specs.declared.form.Form.TheVariants.{Field, Elements, Array}
use Rattle.fits_table.specs.declared.format.Format.{Format}
use Rattle.fits_table.specs.declared.format.Format.TheVariants as format

-- what a field of this format holds (table 15)
abbrev pub format_content : Format → Content
format_content format.Text = Characters
format_content format.Whole = Integers
format_content format = Reals

-- what elements of this type are, a complex number being of reals (table 18)
abbrev pub element_content : Element → Content
element_content element.Logical = Logicals
element_content element.Bit = Bits
element_content element.Byte = Integers
element_content element.Integer16 = Integers
element_content element.Integer32 = Integers
element_content element.Integer64 = Integers
element_content element.Character = Characters
element_content element = Reals

-- what a column of this form holds, in its rows or in the heap
abbrev pub content_of : Form → Content
content_of (Field format width decimals) = format_content format
content_of (Elements count element) = element_content element
content_of (Array count descriptor element) = element_content element
