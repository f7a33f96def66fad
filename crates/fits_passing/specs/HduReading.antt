-- How an HDU is read from a source, whatever is kept of it (own).
use Rattle.std.specs.Prelude.{◌≡◌, ℕ, Bool, List, length, Ok, Option, None, Some}
use Rattle.fits_card.specs.Header.{Header, AreFrontCards, header_bytes}
use Rattle.fits_stream.specs.Gave.{FindsAll}
use Rattle.fits_stream.specs.Intake.{Supply, Takes}
use Rattle.fits_stream.specs.Stream.{FailsOnce, StaysQuiet}
use Rattle.fits_card.specs.declared.header_reading.ReadHeaderFault.{ReadHeaderFault}
use Rattle.fits_card.specs.declared.header_reading.ReadHeaderFault.TheVariants as header
use Rattle.fits_stream.specs.declared.reading.ReadFault.{ReadFault}
use Rattle.fits_stream.specs.declared.reading.ReadFault.TheVariants as read
use Rattle.fits_rules.specs.Class.{is_primary}
use Rattle.fits_rules.specs.Shape.{shape_of}
use Rattle.fits_rules.specs.declared.array_shape.Shape.{Shape}
use Rattle.fits_rules.specs.declared.mandatory.ShapeFault.{ShapeFault}
use Rattle.fits_rules.specs.declared.mandatory.ShapeFault.TheVariants as shape
use Rattle.fits_unit.specs.Passing.{PassedState}
use Rattle.fits_passing.specs.Hdu.{HduParts, HasHduFault, IsHdu, hdu_bytes}
use Rattle.fits_passing.specs.declared.hdu_fault.HduFault.{HduFault}
use Rattle.fits_passing.specs.declared.hdu_fault.HduFault.TheVariants.{NoEnd, BadShape, Memory}
use Rattle.fits_passing.specs.declared.read_hdu_fault.ReadHduFault.{ReadHduFault}
use Rattle.fits_passing.specs.declared.read_hdu_fault.ReadHduFault.TheVariants.{Hdu, Failed}

-- the header's fault
abbrev pub of_read_header : ReadHeaderFault → ReadHduFault
of_read_header header.NoEnd = Hdu NoEnd
of_read_header header.Memory = Hdu Memory
of_read_header header.Failed = Failed

-- the shape's fault
abbrev pub of_read_shape : ShapeFault → ReadHduFault
of_read_shape (shape.Bad place) = Hdu (BadShape place)
of_read_shape shape.Memory = Hdu Memory

-- the data unit's fault
abbrev pub of_read : ReadFault → ReadHduFault
of_read read.Memory = Hdu Memory
of_read read.Failed = Failed

-- no HDU comes, for this fault; or memory was refused; or a call failed
abbrev pub HduStops : Bool → Supply → Supply → ReadHduFault → Type 0
HduStops primary old new (Hdu Memory) = StaysQuiet old.source new.source
HduStops primary old new (Hdu fault) = FindsAll old new (λ bytes. HasHduFault primary bytes fault)
HduStops primary old new Failed = FailsOnce old.source new.source

-- an HDU was taken, and of it something is kept
pub record TakesHdu (keeps : HduParts → Type 0) (primary : Bool) (old new : Supply) : Type 0 where
  pub hdu : HduParts
  pub kept : keeps hdu
  pub whole : IsHdu primary hdu
  pub taken : Takes old new (hdu_bytes hdu)

-- of an HDU that passed by its header is known, the shape that its cards describe, and how long its data unit was
pub record IsPassed (hdu : HduParts) (header : Header) (shape : Shape) (unit_len : ℕ) : Type 0 where
  pub same : hdu.header ≡ header
  pub described : shape_of (is_primary shape.class) header.cards ≡ Ok shape
  pub unit : unit_len ≡ length hdu.data_unit

-- the shape of an HDU, and how many cards it has, how many bytes its header and its data unit
pub record IsOutlined (hdu : HduParts) (cards : ℕ) (shape : Shape) (header_len data_len : ℕ) : Type 0 where
  pub count : cards ≡ length hdu.header.cards
  pub described : shape_of (is_primary shape.class) hdu.header.cards ≡ Ok shape
  pub header : header_len ≡ length (header_bytes hdu.header)
  pub unit : data_len ≡ length hdu.data_unit

-- the bytes begin with no HDU, for this fault, and these are the cards before END
pub record FailsAfter (primary : Bool) (cards : List (List ℕ)) (why : HduFault) (bytes : List ℕ) : Type 0 where
  pub fault : HasHduFault primary bytes why
  pub front : AreFrontCards bytes cards

-- an HDU with these cards was taken; or none comes, for this fault, and these are the cards before END
abbrev pub CardsCome : Bool → List (List ℕ) → Option HduFault → Supply → Supply → Type 0
CardsCome primary cards None old new = TakesHdu (λ hdu. cards ≡ hdu.header.cards) primary old new
CardsCome primary cards (Some why) old new = FindsAll old new (FailsAfter primary cards why)

-- the parts of an HDU by its header and its data unit, whose bytes passed by
abbrev pub passed_parts : Header → PassedState → HduParts
passed_parts header unit = record { header = header; data_unit = unit.bytes }
