-- A text says one form, the one that is read.
use Rattle.std.proofs.Common.{◌≡◌, ℕ, List, Some, ap, sym, ◌∙◌}
use Rattle.fits_table.specs.Form.{IsForm, form_width}
use Rattle.fits_table.specs.Laws.{FormsAreReadExactly, FormsHaveOneWidth}
use Rattle.fits_table.specs.FormSteps.{form_of}
use Rattle.fits_table.specs.declared.form.Form.{Form}
use Rattle.fits_table.specs.declared.form.Form.TheVariants.{Field, Elements, Array}
use Rattle.fits_table.specs.declared.table_kind.TableKind.{TableKind}
use Rattle.fits_table.specs.declared.table_kind.TableKind.TheVariants.{Ascii, Binary}
use Rattle.fits_table.proofs.FieldLemmas.{field_read, field_found}
use Rattle.fits_table.proofs.ElementsLemmas.{elements_read, array_read, binary_found}

-- a form that is said is read
form_read : (kind : TableKind) (text : List ℕ) (form : Form) → IsForm kind text form → form_of kind text ≡ Some form
form_read Ascii text (Field format width decimals) is = field_read text format width decimals is
form_read Ascii text (Elements count element) is = absurd is
form_read Ascii text (Array count descriptor element) is = absurd is
form_read Binary text (Field format width decimals) is = absurd is
form_read Binary text (Elements count element) is = elements_read text count element is
form_read Binary text (Array count descriptor element) is = array_read text count descriptor element is

-- a form that is read is said
form_found : (kind : TableKind) (text : List ℕ) (form : Form) → form_of kind text ≡ Some form → IsForm kind text form
form_found Ascii text form e = field_found text form e
form_found Binary text form e = binary_found text form e

-- both
pub exactly : FormsAreReadExactly
exactly kind text form = (form_read kind text form, form_found kind text form)

-- the form that is read is one
same_form : (one other : Form) → Some one ≡ Some other → one ≡ other
same_form one other e = cc

-- and so is its width
pub one_width : FormsHaveOneWidth
one_width kind text one other is also = ap form_width (same_form one other (sym (form_read kind text one is) ∙ form_read kind text other also))

pub ruleset laws = (exactly, one_width)
