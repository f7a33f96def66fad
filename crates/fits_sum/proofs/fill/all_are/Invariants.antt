use Rattle.std.proofs.Common.{◌≡◌, ◌<◌, ◌≤◌, ◌*◌, ℕ, length, get_or}
use Rattle.fits_sum.proofs.fill.all_are.Given as goal

abbrev pub invariant-loop-i : goal.invariant-loop-i
invariant-loop-i l = record {
  at : l.at ≡ 64 * l.i;
  same : (k : ℕ) → k < l.at → get_or l.bytes k 0 ≡ l.byte;
}

abbrev pub invariant-loop-j : goal.invariant-loop-j
invariant-loop-j l = record {
  within : l.j ≤ length l.bytes;
  same : (k : ℕ) → k < l.j → get_or l.bytes k 0 ≡ l.byte;
}
