-- What stands at a path and beside it while a result is saved, call by call, and when nothing is lost (own).
use Rattle.std.specs.Prelude.{Bool, true, false}
use Rattle.fits_save.specs.declared.act.Act.{Act}
use Rattle.fits_save.specs.declared.act.Act.TheVariants.{Begin, Write, Settle, Compare, Rename, Link, Overwrite, Finish, Clear, Expose, Pass}
use Rattle.fits_save.specs.declared.stage.Stage.{Stage}
use Rattle.fits_save.specs.declared.stage.Stage.TheVariants.{Untouched, Checked, Partial, Whole, Agreed, Copying, Both, Placed, Exposed, Passing, Lost}

-- the stage after a call: what touches a file at the path before the whole result stands beside it, on the disk, or before that file was
-- found to be what was opened, may lose it; so may what takes the result away while the path is written over. A path that is free is taken by
-- a link, which touches nothing.
abbrev pub after : Act → Stage → Stage
after Begin Untouched = Partial
after Write Partial = Partial
after Write Exposed = Exposed
after Write Passing = Passing
after Settle Partial = Whole
after Compare Untouched = Checked
after Compare Whole = Agreed
after Rename Agreed = Placed
after Link Partial = Both
after Overwrite Agreed = Copying
after Finish Copying = Both
after Clear Partial = Untouched
after Clear Whole = Untouched
after Clear Agreed = Untouched
after Clear Both = Placed
after Clear Placed = Placed
after Expose Checked = Exposed
after Pass Untouched = Passing
after act stage = Lost

-- nothing is lost; where what stands at the path is to stay whole, it isn't emptied either
abbrev pub is_safe : Bool → Stage → Bool
is_safe whole Lost = false
is_safe true Exposed = false
is_safe whole stage = true

-- what a result that was kept leaves: its path has it, unless nothing was written
abbrev pub kept : Stage → Stage
kept Partial = Placed
kept stage = stage

-- what stands at the path is as it was
abbrev pub is_as_it_was : Stage → Bool
is_as_it_was Untouched = true
is_as_it_was Checked = true
is_as_it_was Partial = true
is_as_it_was Whole = true
is_as_it_was Agreed = true
is_as_it_was stage = false

-- bytes go where the result goes
abbrev pub is_open : Stage → Bool
is_open Partial = true
is_open Exposed = true
is_open Passing = true
is_open stage = false
