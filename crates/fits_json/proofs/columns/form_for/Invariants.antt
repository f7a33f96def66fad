use Rattle.std.proofs.Common.{◌≡◌, drop}
use Rattle.fits_json.specs.Columns.{form_of}
use Rattle.fits_json.proofs.columns.form_for.Given as goal

abbrev pub invariant-loop-form : goal.invariant-loop-form
invariant-loop-form l = form_of (drop l.form-index l.forms) l.line ≡ form_of l.forms l.line
