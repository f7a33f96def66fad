-- What is found of an HDU.
use Rattle.std.specs.Prelude.{◌≡◌, ℕ, Bool, true, false, not, nat_eq, drop, List, [], ◌∷◌, ◌++◌, map, Option, Ok}
use Rattle.std.specs.List.{filter, list_all}
use Rattle.fits_rules.specs.Class.{is_primary}
use Rattle.fits_rules.specs.Shape.{shape_of}
use Rattle.fits_rules.specs.Size.{data_size}
use Rattle.fits_rules.specs.declared.array_shape.Shape.{Shape}
use Rattle.fits_codes.specs.declared.code.Code.{Code}
use Rattle.fits_codes.specs.declared.code.Code.TheVariants.{BadDataFill, WrongDatasum, WrongChecksum}
use Rattle.fits_header.specs.Findings.{card_findings, counts_of, found_at, header_codes_of}
use Rattle.fits_header.specs.declared.counts.Counts.{Counts}
use Rattle.fits_header.specs.declared.finding.Finding.{Finding}
use Rattle.fits_passing.specs.ExtensionName.{extension_name, name_codes}
use Rattle.fits_passing.specs.Hdu.{HduParts}
use Rattle.fits_passing.specs.Layout.{fill_byte}
use Rattle.fits_passing.specs.Sums.{verdicts_of}
use Rattle.fits_passing.specs.declared.called.ExtensionName.{ExtensionName}
use Rattle.fits_passing.specs.declared.verdict.Verdict.{Verdict}
use Rattle.fits_passing.specs.declared.verdict.Verdict.TheVariants.{Wrong}
use Rattle.fits_passing.specs.declared.verdicts.Verdicts.{Verdicts}

-- the data fill is what it should be: spaces in an ASCII table, else zeros (3.3.2, 7.2)
unfoldable pub is_filled : Shape → List ℕ → Bool
is_filled shape unit = list_all (nat_eq (fill_byte shape.class)) (drop (data_size shape) unit)

-- the verdict is that something is wrong
abbrev pub is_wrong : Verdict → Bool
is_wrong Wrong = true
is_wrong verdict = false

-- the data and the sums have what a code names
abbrev pub has_data_code : Bool → Verdicts → Code → Bool
-- E22: a byte of the data fill is another one (3.3.2)
has_data_code filled verdicts BadDataFill = not filled
-- W23: DATASUM isn't the sum of the data unit (4.4.2.7)
has_data_code filled verdicts WrongDatasum = is_wrong verdicts.datasum
-- W24: CHECKSUM doesn't make the sum of the HDU all ones (4.4.2.7)
has_data_code filled verdicts WrongChecksum = is_wrong verdicts.checksum
has_data_code filled verdicts code = false

-- those of the codes that data and sums can have, by number
unfoldable pub data_codes : Bool → Verdicts → List Code
data_codes filled verdicts = filter (has_data_code filled verdicts) (BadDataFill ∷ WrongDatasum ∷ WrongChecksum ∷ [])

-- the codes of an HDU as a whole, by number: those of its header, of its data and of its sums
abbrev pub whole_codes : Shape → HduParts → List Code
whole_codes shape hdu = header_codes_of shape hdu.header ++ data_codes (is_filled shape hdu.data_unit) (verdicts_of hdu)

-- what is found of an HDU of this shape, which is called as another is or isn't: of it as a whole, at place 0, and then of its cards
unfoldable pub hdu_findings : Shape → HduParts → Bool → List Finding
hdu_findings shape hdu repeated = found_at 0 (whole_codes shape hdu ++ name_codes repeated) ++ card_findings shape hdu.header.cards

-- how many errors and warnings that is
unfoldable pub hdu_counts : Shape → HduParts → Bool → Counts
hdu_counts shape hdu repeated = counts_of (map (λ (finding : Finding). finding.code) (hdu_findings shape hdu repeated))

-- this is found of an HDU, by the shape that its cards describe: the codes of it as a whole but for its name's, what is found of its
-- cards, and what it is called
pub record AreFindings (whole : List Code) (of_cards : List Finding) (name : Option ExtensionName) (hdu : HduParts) : Type 0 where
  pub shape : Shape
  pub described : shape_of (is_primary shape.class) hdu.header.cards ≡ Ok shape
  pub codes : whole ≡ whole_codes shape hdu
  pub cards : of_cards ≡ card_findings shape hdu.header.cards
  pub called : name ≡ extension_name (is_primary shape.class) hdu.header.cards

-- the same, and these are the cards of its header
pub record AreFoundCards (whole : List Code) (of_cards : List Finding) (name : Option ExtensionName) (cards : List (List ℕ)) (hdu : HduParts) : Type 0 where
  pub found : AreFindings whole of_cards name hdu
  pub cards_are : cards ≡ hdu.header.cards
