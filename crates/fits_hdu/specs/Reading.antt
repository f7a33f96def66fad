-- An HDU that is read and kept whole (own).
use Rattle.std.specs.Prelude.{◌≡◌, None}
use Rattle.fits_passing.specs.Hdu.{HduParts}
use Rattle.fits_hdu.specs.State.{HduState, parts_of}
use Rattle.fits_hdu.specs.Work.{IsOpened}

-- an HDU is kept whole: it was opened, and all of it is in memory
pub record IsKeptWhole (it : HduState) (hdu : HduParts) : Type 0 where
  pub parts : parts_of it ≡ hdu
  pub opened : IsOpened 0 it
  pub held : it.absent ≡ None
