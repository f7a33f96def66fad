-- The forms of columns of ASCII tables.
use Rattle.std.proofs.Common.{◌≡◌, ℕ, ◌<◌, ◌==◌, ltb, List, [], ◌∷◌, ◌++◌, Option, None, Some, option_and_then, refl, ap, sym, ◌∙◌, subst, inl, inr}
use Rattle.std.specs.Prelude.{codes}
use Rattle.std.specs.List.{take_while, prefix_len}
use Rattle.std.proofs.lemmas.Bool.{cond-true, lt-ltb, ltb-true, eqb-true}
use Rattle.std.proofs.lemmas.List.{take-append-drop}
use Rattle.std.proofs.lemmas.Option.{option_and_then_some}
use Rattle.fits_value.specs.Characters.{is_digit}
use Rattle.fits_value.specs.NumberSteps.{after_digits}
use Rattle.fits_value.proofs.FrontLemmas.{Stops, chosen}
use Rattle.fits_value.proofs.NumberLemmas.{front_taken}
use Rattle.fits_table.specs.Form.{HasDecimals, IsField, IsForm}
use Rattle.fits_table.specs.FormSteps.{no_decimals, point_decimals, decimals_of, roomy, field_of, ascii_form}
use Rattle.fits_table.specs.Format.{format_letter, format_of}
use Rattle.fits_table.specs.Numeral.{IsNumeral, numeral}
use Rattle.fits_table.specs.declared.form.Form.{Form}
use Rattle.fits_table.specs.declared.form.Form.TheVariants.{Field}
use Rattle.fits_table.specs.declared.format.Format.{Format}
use Rattle.fits_table.specs.declared.format.Format.TheVariants as format
use Rattle.fits_table.specs.declared.table_kind.TableKind.TheVariants.{Ascii}
use Rattle.fits_table.proofs.LetterLemmas.{format_found, format_read}
use Rattle.fits_table.proofs.NumeralLaws.{numeral_read, numeral_found}

-- decimals after a point are read, and the point ends the width
point_read : (rest : List ℕ) (decimals : ℕ) → (digits : List ℕ) × (rest ≡ codes "." ++ digits) × IsNumeral digits decimals → (point_decimals rest ≡ Some decimals) × Stops is_digit rest
point_read rest decimals (digits, e, is) = rw e (numeral_read digits decimals is, refl)

-- where nothing follows there are none
nothing_read : (rest : List ℕ) (decimals : ℕ) → (rest ≡ []) × (decimals ≡ 0) → (no_decimals rest ≡ Some decimals) × Stops is_digit rest
nothing_read rest decimals (e, none) = rw (e, none) (refl, tt)

-- the decimals of a format
decimals_read : (form : Format) (rest : List ℕ) (decimals : ℕ) → HasDecimals form rest decimals → (decimals_of form rest ≡ Some decimals) × Stops is_digit rest
decimals_read format.Text rest decimals has = nothing_read rest decimals has
decimals_read format.Whole rest decimals has = nothing_read rest decimals has
decimals_read format.Fixed rest decimals has = point_read rest decimals has
decimals_read format.Exponential rest decimals has = point_read rest decimals has
decimals_read format.DoubleExponential rest decimals has = point_read rest decimals has

-- the width and the decimals of a format
sizes_read : (form : Format) (digits rest : List ℕ) (width decimals : ℕ) → IsNumeral digits width → HasDecimals form rest decimals → decimals < width → field_of form (digits ++ rest) ≡ Some (Field form width decimals)
sizes_read form digits rest width decimals is has room =
    let behind = decimals_read form rest decimals has in
    let taken = front_taken is_digit digits rest is.digits.0 behind.1 in
    let roomy_of : (given : List ℕ) → ℕ → Option Form = λ given width. option_and_then (roomy form width) (decimals_of form given) in
    ap (λ front. option_and_then (roomy_of (after_digits (digits ++ rest))) (numeral front)) (sym taken.0)
    ∙ (ap (option_and_then (roomy_of (after_digits (digits ++ rest)))) (numeral_read digits width is)
    ∙ (ap (λ given. roomy_of given width) (sym taken.1)
    ∙ (ap (option_and_then (roomy form width)) behind.0
    ∙ cond-true (ltb decimals width) (Some (Field form width decimals)) None (lt-ltb decimals width room))))

-- a field is read
pub field_read : (text : List ℕ) (form : Format) (width decimals : ℕ) → IsField text form width decimals → ascii_form text ≡ Some (Field form width decimals)
unfolding ascii_form
field_read text form width decimals is =
    ap ascii_form is.parts
    ∙ (ap (option_and_then (λ form. field_of form (is.digits ++ is.rest))) (format_read form)
    ∙ sizes_read form is.digits is.rest width decimals is.is_width is.has_decimals is.room)

-- decimals that are read stand after a point
point_found : (rest : List ℕ) (decimals : ℕ) → point_decimals rest ≡ Some decimals → (digits : List ℕ) × (rest ≡ codes "." ++ digits) × IsNumeral digits decimals
point_found [] decimals e = absurd (let none : ◌≡◌ {A = Option ℕ} None (Some decimals) = e in cc)
point_found (byte ∷ rest) decimals e = elim (chosen (byte == 46) (numeral rest) None (Some decimals) e) [
  | inl point ↦ (rest, ap (λ (b : ℕ). b ∷ rest) (eqb-true byte 46 point.0), numeral_found rest decimals point.1)
  | inr other ↦ absurd (let none : ◌≡◌ {A = Option ℕ} None (Some decimals) = other.1 in cc)
]

-- or there are none
nothing_found : (rest : List ℕ) (decimals : ℕ) → no_decimals rest ≡ Some decimals → (rest ≡ []) × (decimals ≡ 0)
nothing_found [] decimals e = (refl, cc)
nothing_found (byte ∷ rest) decimals e = absurd (let none : ◌≡◌ {A = Option ℕ} None (Some decimals) = e in cc)

-- those of a format
decimals_found : (form : Format) (rest : List ℕ) (decimals : ℕ) → decimals_of form rest ≡ Some decimals → HasDecimals form rest decimals
decimals_found format.Text rest decimals e = nothing_found rest decimals e
decimals_found format.Whole rest decimals e = nothing_found rest decimals e
decimals_found format.Fixed rest decimals e = point_found rest decimals e
decimals_found format.Exponential rest decimals e = point_found rest decimals e
decimals_found format.DoubleExponential rest decimals e = point_found rest decimals e

-- a field that is read of its parts
sizes_found : (letter : ℕ) (text : List ℕ) (form : Format) (width decimals : ℕ) (read : Form) → format_letter form ≡ letter → IsNumeral (take_while is_digit text) width → HasDecimals form (after_digits text) decimals
    → roomy form width decimals ≡ Some read → IsForm Ascii (letter ∷ text) read
sizes_found letter text form width decimals read is is_width has e = elim (chosen (ltb decimals width) (Some (Field form width decimals)) None (Some read) e) [
  | inl fits ↦
      let same : ◌≡◌ {A = Form} (Field form width decimals) read = (let some : ◌≡◌ {A = Option Form} (Some (Field form width decimals)) (Some read) = fits.1 in cc) in
      let whole : text ≡ take_while is_digit text ++ after_digits text = sym (take-append-drop (prefix_len is_digit text) text) in
      let field : IsField (letter ∷ text) form width decimals = record {
        digits = take_while is_digit text;
        rest = after_digits text;
        is_width = is_width;
        has_decimals = has;
        room = ltb-true decimals width fits.0;
        parts = ap (λ (first : ℕ). first ∷ text) (sym is) ∙ ap (λ (behind : List ℕ). format_letter form ∷ behind) whole;
      } in
      subst (IsForm Ascii (letter ∷ text)) same field
  | inr other ↦ absurd (let none : ◌≡◌ {A = Option Form} None (Some read) = other.1 in cc)
]

-- what is read of an ASCII table's TFORMn is so
pub field_found : (text : List ℕ) (read : Form) → ascii_form text ≡ Some read → IsForm Ascii text read
unfolding ascii_form
field_found [] read e = absurd (let none : ◌≡◌ {A = Option Form} None (Some read) = e in cc)
field_found (letter ∷ text) read e =
    option_and_then_some (λ form. field_of form text) (format_of letter) read e (λ form named sized.
    option_and_then_some (λ width. option_and_then (roomy form width) (decimals_of form (after_digits text))) (numeral (take_while is_digit text)) read sized (λ width is_width behind.
    option_and_then_some (roomy form width) (decimals_of form (after_digits text)) read behind (λ decimals has fits.
    sizes_found letter text form width decimals read (format_found letter form named) (numeral_found (take_while is_digit text) width is_width) (decimals_found form (after_digits text) decimals has) fits)))
