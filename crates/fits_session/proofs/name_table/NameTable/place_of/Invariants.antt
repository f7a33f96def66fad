use Rattle.std.proofs.Common.{◌≡◌, drop}
use Rattle.std.specs.Map.{lookup}
use Rattle.fits_passing.specs.ExtensionName.{is_same_name}
use Rattle.fits_session.proofs.name_table.NameTable.place_of.Given as goal

abbrev pub invariant-loop-place : goal.invariant-loop-place
invariant-loop-place l = lookup (is_same_name l.name) l.it-items ≡ lookup (is_same_name l.name) (drop l.place l.it-items)
