-- The terms of a run that edits (own).
use Rattle.std.specs.Prelude.{ℕ, ◌&&◌, nat_lt, Bool, false}
use Rattle.fits_passing.specs.declared.look.Look.{Look}
use Rattle.fits_passing.specs.declared.look.Look.TheVariants.{All, Headers}
use Rattle.fits_tell.specs.declared.level.Level.{Level}
use Rattle.fits_tell.specs.declared.level.Level.TheVariants.{Quiet}
use Rattle.fits_cli.specs.declared.manner.Manner.{Manner}
use Rattle.fits_cli.specs.declared.saves.Saves.{Saves}
use Rattle.fits_cli.specs.declared.saves.Saves.TheVariants.{Made, Nothing}
use Rattle.fits_cli.specs.declared.terms.Terms.{Terms}

-- every line is to be done
abbrev pub is_whole : Saves → Bool
is_whole Nothing = false
is_whole (Made whole check) = whole

-- lines that weren't done keep the result from being saved, where every one is to be
abbrev pub holds_back : Saves → ℕ → Bool
holds_back saves undone = is_whole saves && nat_lt 0 undone

-- the level of the problems that keep the result from being saved
abbrev pub check_of : Saves → Level
check_of Nothing = Quiet
check_of (Made whole check) = check

-- plain terms: no sums are kept right, no tables are kept, and a file is saved whatever its script did
abbrev pub plain : Terms
plain = record { sums = false; extended = false; tables = false; spare = false; saves = Made false Quiet }

-- the terms of a run that saves nothing
abbrev pub asking : Manner → Terms
asking manner = record { sums = false; extended = manner.extended; tables = manner.tables; spare = false; saves = Nothing }

-- how much of a stored file is looked at as it is opened: all of it where sums are kept right or problems count, else its headers
abbrev pub look_by : Bool → Level → Look
look_by false Quiet = Headers
look_by sums check = All

abbrev pub look_of : Terms → Look
look_of terms = look_by terms.sums (check_of terms.saves)
