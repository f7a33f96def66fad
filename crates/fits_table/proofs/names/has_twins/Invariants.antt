use Rattle.std.proofs.Common.{◌≡◌, true, take}
use Rattle.std.specs.List.{list_all}
use Rattle.fits_table.specs.Marks.{is_name_marked}
use Rattle.fits_table.specs.Name.{has_twins}
use Rattle.fits_table.proofs.names.has_twins.Given as goal

abbrev pub invariant-loop-i : goal.invariant-loop-i
invariant-loop-i l = record {
  found : l.found ≡ has_twins (take l.i l.names);
  marked : list_all (is_name_marked l.marks) (take l.i l.names) ≡ true;
}
