use Rattle.std.proofs.Common.{◌≡◌, drop}
use Rattle.fits_json.specs.Columns.{has_form}
use Rattle.fits_json.proofs.columns.fits.Given as goal

abbrev pub invariant-loop-column : goal.invariant-loop-column
invariant-loop-column l = has_form (drop l.column-index l.columns) l.rest ≡ has_form l.columns l.line
