-- Steps of an HDU that passes by.
use Rattle.std.proofs.Common.{◌≡◌, ℕ, Bool, List, length, ap, sym, subst, arith, Option}
use Rattle.std.specs.Prelude.{◌%◌}
use Rattle.fits_card.specs.Header.{Header, IsHeader, header_bytes}
use Rattle.fits_stream.specs.Intake.{Supply}
use Rattle.fits_card.proofs.HeaderLemmas.{fill_length-by_cards, length-header_bytes}
use Rattle.fits_rules.specs.Size.{data_length}
use Rattle.fits_rules.specs.declared.array_shape.Shape.{Shape}
use Rattle.fits_codes.specs.declared.code.Code.{Code}
use Rattle.fits_header.specs.declared.finding.Finding.{Finding}
use Rattle.fits_passing.specs.Findings.{AreFindings, AreFoundCards}
use Rattle.fits_passing.specs.Hdu.{HduParts}
use Rattle.fits_passing.specs.Passing.{IsSummed}
use Rattle.fits_passing.specs.HduReading.{TakesHdu, passed_parts}
use Rattle.fits_unit.specs.Passing.{PassedState}
use Rattle.fits_passing.specs.declared.called.ExtensionName.{ExtensionName}
use Rattle.fits_passing.proofs.ReadingLemmas.{hdu_kept}

-- a data unit is of whole words
pub unit_words : (shape : Shape) → data_length shape % 4 ≡ 0
unfolding data_length
unit_words shape = omega arith

-- an HDU's header is of whole words
pub header_words : (header : Header) → IsHeader header → length (header_bytes header) % 4 ≡ 0
header_words header whole = omega (arith, length-header_bytes header whole, fill_length-by_cards (length header.cards), whole.fill_size)

-- the header of an HDU that was summed is one
pub summed_header : (primary : Bool) (a b : Supply) (header : Header) (shape : Shape) (unit : PassedState) → TakesHdu (IsSummed header shape unit) primary a b → IsHeader header
summed_header primary a b header shape unit p = subst IsHeader (sym (ap (λ (hdu : HduParts). hdu.header) p.kept.parts)) p.whole.header

-- what is found by its parts is kept of it
pub summed_keeps : (keeps : HduParts → Type 0) (primary : Bool) (a b : Supply) (header : Header) (shape : Shape) (unit : PassedState) → TakesHdu (IsSummed header shape unit) primary a b → keeps (passed_parts header unit) → TakesHdu keeps primary a b
summed_keeps keeps primary a b header shape unit p kept = hdu_kept (IsSummed header shape unit) keeps primary a b p (λ hdu it. subst keeps it.parts kept)

-- of what is found of an HDU and its cards the first is kept alone
pub findings_alone : (primary : Bool) (a b : Supply) (codes : List Code) (found : List Finding) (name : Option ExtensionName) (cards : List (List ℕ)) → TakesHdu (AreFoundCards codes found name cards) primary a b → TakesHdu (AreFindings codes found name) primary a b
findings_alone primary a b codes found name cards p = record { hdu = p.hdu; kept = p.kept.found; whole = p.whole; taken = p.taken }
