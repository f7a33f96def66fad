use Rattle.std.proofs.Common.{◌≡◌, length}
use Rattle.fits_session.specs.Session.{marked_of}
use Rattle.fits_patch.specs.Making.{lines_made, lines_of}
use Rattle.fits_patch.proofs.making.make_script.Given as goal

abbrev pub invariant-line : goal.invariant-line
invariant-line g l = record {
  so_far : lines_made (marked_of l.session) (lines_of l.rest) ≡ lines_made (marked_of l.fn.session) (lines_of l.script);
}

abbrev pub decreases-line : goal.decreases-line
decreases-line g l = length l.rest
