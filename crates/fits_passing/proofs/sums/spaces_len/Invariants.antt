use Rattle.std.proofs.Common.{◌≡◌, ◌+◌, drop}
use Rattle.std.specs.List.{prefix_len}
use Rattle.fits_value.specs.Spelling.{is_space}
use Rattle.fits_passing.proofs.sums.spaces_len.Given as goal

abbrev pub invariant-loop-i : goal.invariant-loop-i
invariant-loop-i l = l.i + prefix_len is_space (drop l.i l.text) ≡ prefix_len is_space l.text
