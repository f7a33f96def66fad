-- Where a data unit lies in its file (own).
use Rattle.std.specs.Prelude.{ℕ, ◌==◌, Bool, true, Option, None, Some}
use Rattle.fits_unit.specs.DataUnit.{Absence}

-- all of it is in memory, or it lies at this place
abbrev pub lies_at : ℕ → Option Absence → Bool
lies_at place None = true
lies_at place (Some it) = it.place == place
