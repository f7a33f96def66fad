-- What is known of an HDU whose data unit passes by, of which no more than a piece is held at once (own).
use Rattle.std.specs.Prelude.{◌≡◌, ℕ, ◌+◌, ◌<◌, List, length, Ok}
use Rattle.fits_card.specs.Header.{Header}
use Rattle.fits_stream.specs.Intake.{IsSpent, Supply, Takes}
use Rattle.fits_stream.specs.Stream.{FailsOnce}
use Rattle.fits_rules.specs.Class.{is_primary}
use Rattle.fits_rules.specs.Shape.{shape_of}
use Rattle.fits_rules.specs.declared.array_shape.Shape.{Shape}
use Rattle.fits_unit.specs.Passing.{PassedState}
use Rattle.fits_passing.specs.Hdu.{HduParts}
use Rattle.fits_passing.specs.Layout.{layout_of_bytes}
use Rattle.fits_passing.specs.HduReading.{passed_parts}
use Rattle.fits_passing.specs.declared.hdu_fault.HduFault.TheVariants.{ShortData}
use Rattle.fits_passing.specs.declared.read_hdu_fault.ReadHduFault.{ReadHduFault}
use Rattle.fits_passing.specs.declared.read_hdu_fault.ReadHduFault.TheVariants.{Hdu, Failed}

-- bytes were taken, and with those ahead, after which nothing comes, they are fewer than these
pub record TakesFewer (old new : Supply) (len : ℕ) : Type 0 where
  pub bytes : List ℕ
  pub taken : Takes old new bytes
  pub short : length bytes + length new.ahead < len
  pub spent : IsSpent new

-- why no data unit of so many bytes came: there are fewer, or a call failed
abbrev pub UnitStops : ℕ → Supply → Supply → ReadHduFault → Type 0
UnitStops len old new (Hdu ShortData) = TakesFewer old new len
UnitStops len old new Failed = FailsOnce old.source new.source
UnitStops len old new why = ⊥

-- of an HDU that passed by its header is known, the shape that its cards describe, and what is known of its data unit, of which no pixels
-- were read
pub record IsSummed (header : Header) (shape : Shape) (unit : PassedState) (hdu : HduParts) : Type 0 where
  pub parts : passed_parts header unit ≡ hdu
  pub described : shape_of (is_primary shape.class) header.cards ≡ Ok shape
  pub layout : unit.layout ≡ layout_of_bytes shape
