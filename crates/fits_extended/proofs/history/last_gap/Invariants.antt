use Rattle.std.proofs.Common.{◌≡◌, ◌≤◌}
use Rattle.std.specs.Prelude.{◌==◌, get_or, not}
use Rattle.fits_extended.specs.Stands.{last_gap, last_without}
use Rattle.fits_extended.proofs.history.last_gap.Given as goal

abbrev pub invariant-places : goal.invariant-places
invariant-places l = record {
  found : last_without (λ place. not (get_or l.text place 0 == 32)) l.place ≡ last_gap l.text l.count;
  within : l.place ≤ l.count;
}

abbrev pub decreases-places : goal.decreases-places
decreases-places l = l.place
