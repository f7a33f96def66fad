use Rattle.std.proofs.Common.{◌≡◌, ◌≤◌, ◌++◌, ◌+◌, ◌-◌}
use Rattle.std.specs.Option.{option_copied}
use Rattle.fits_extended.specs.Stands.{lines_in, with_numbers}
use Rattle.fits_extended.proofs.each.with_numbers.Given as goal

abbrev pub invariant-hdus : goal.invariant-hdus
invariant-hdus l = record {
  so_far : lines_in l.lines.items ++ with_numbers l.fn.verb (option_copied l.fn.rest) (l.fn.count - l.before) (l.before + 1) ≡ with_numbers l.fn.verb (option_copied l.fn.rest) l.fn.count 1;
  within : l.before ≤ l.fn.count;
}

abbrev pub decreases-hdus : goal.decreases-hdus
decreases-hdus l = l.fn.count - l.before
