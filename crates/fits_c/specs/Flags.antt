-- What the numbers that C gives say of a run (own).
use Rattle.std.specs.Prelude.{ℕ, ◌==◌, ◌/◌, ◌%◌, Bool, false, if◌then◌else◌}
use Rattle.fits_cli.specs.declared.manner.Manner.{Manner}
use Rattle.fits_cli.specs.declared.saves.Saves.TheVariants.{Made}
use Rattle.fits_cli.specs.declared.terms.Terms.{Terms}
use Rattle.fits_tell.specs.declared.level.Level.{Level}
use Rattle.fits_tell.specs.declared.level.Level.TheVariants.{All, Errors, Quiet}
use Rattle.fits_tell.specs.declared.telling.Telling.{Telling}
use Rattle.fits_tell.specs.declared.telling.Telling.TheVariants.{Report}

-- a flag, which is a power of two, is among these
abbrev pub has : ℕ → ℕ → Bool
has flags flag = ((flags / flag) % 2) == 1

-- the terms of an edit: 1 all or nothing, 2 without new errors, 4 with right sums kept right, 8 with extended lines, 16 with the columns of tables kept
abbrev pub terms_of : ℕ → Terms
terms_of flags = record {
  sums = has flags 4;
  extended = has flags 8;
  tables = has flags 16;
  spare = false;
  saves = Made (has flags 1) (if has flags 2 then Errors else Quiet);
}

-- lines are taken as they stand
abbrev pub plainly : Manner
plainly = record { extended = false; tables = false }

-- which problems are listed: 1 errors alone, 2 none
abbrev pub level_of : ℕ → Level
level_of flags = if has flags 2 then Quiet else if has flags 1 then Errors else All

-- a report of these; 4 warnings count, 8 with the cards, 16 with what is wrong with tables
abbrev pub report_by : ℕ → Telling
report_by flags = Report (level_of flags) (has flags 4) (has flags 8) (has flags 16)
