use Rattle.std.proofs.Common.{◌≡◌, ◌+◌, ◌≤◌, ◌-◌, length, drop}
use Rattle.fits_value.specs.Written.{fitting}
use Rattle.fits_value.proofs.write.piece_len.Given as goal

-- what was taken and what fits of the rest come to what fits
abbrev pub invariant-loop-i : goal.invariant-loop-i
invariant-loop-i l = record {
  so_far : l.i + fitting l.room (drop l.i l.characters) ≡ fitting 67 l.characters;
  within : l.i ≤ length l.characters;
}

abbrev pub decreases-loop-i : goal.decreases-loop-i
decreases-loop-i l = length l.characters - l.i
