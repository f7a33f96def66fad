use Rattle.std.proofs.Common.{◌≡◌, ◌*◌, ◌^◌, ◌≤◌}
use Rattle.fits_value.proofs.number.without_zeros.Given as goal

abbrev pub invariant-loop-i : goal.invariant-loop-i
invariant-loop-i l = (l.rest * 10 ^ l.i ≡ l.number) × (l.rest ≤ l.number)
