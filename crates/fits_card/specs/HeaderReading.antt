-- How reading a header from a source may end (own).
use Rattle.std.specs.Prelude.{◌≡◌, List, ℕ}
use Rattle.fits_card.specs.Header.{AreFrontCards, HasNoHeader, IsHeader, header_bytes}
use Rattle.fits_stream.specs.Gave.{FindsAll}
use Rattle.fits_stream.specs.Intake.{Supply, Takes}
use Rattle.fits_stream.specs.Stream.{FailsOnce, StaysQuiet}
use Rattle.fits_card.specs.declared.header_front.HeaderFront.{HeaderFront}
use Rattle.fits_card.specs.declared.header_front.HeaderFront.TheVariants.{Whole, Cut}
use Rattle.fits_card.specs.declared.header_reading.ReadHeaderFault.{ReadHeaderFault}
use Rattle.fits_card.specs.declared.header_reading.ReadHeaderFault.TheVariants.{NoEnd, Memory, Failed}

-- no header comes; or memory was refused; or a call failed
abbrev pub HeaderStops : Supply → Supply → ReadHeaderFault → Type 0
HeaderStops old new NoEnd = FindsAll old new HasNoHeader
HeaderStops old new Memory = StaysQuiet old.source new.source
HeaderStops old new Failed = FailsOnce old.source new.source

-- the bytes begin with no header, and these are the cards before END
pub record IsCut (cards : List (List ℕ)) (bytes : List ℕ) : Type 0 where
  pub none : HasNoHeader bytes
  pub front : AreFrontCards bytes cards

-- a header was taken; or none comes, and these are the cards before END
abbrev pub FrontComes : Supply → Supply → HeaderFront → Type 0
FrontComes old new (Whole list) = Takes old new (header_bytes list.header) × IsHeader list.header × (list.reads ≡ 0)
FrontComes old new (Cut cards) = FindsAll old new (IsCut cards.items)
