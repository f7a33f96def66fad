use Rattle.std.proofs.Common.{◌≡◌, ◌++◌}
use Rattle.fits_patch.specs.Patch.{deletion, repeated}
use Rattle.fits_patch.proofs.gaps.push_deletions.Given as goal

abbrev pub invariant-deletion : goal.invariant-deletion
invariant-deletion l = record {
  told : l.text.items ++ repeated l.left (deletion l.h l.place) ≡ l.fn.text.items ++ repeated l.count (deletion l.h l.place);
}

abbrev pub decreases-deletion : goal.decreases-deletion
decreases-deletion l = l.left
