use Rattle.std.proofs.Common.{◌≡◌, ◌+◌, drop}
use Rattle.fits_diff.specs.Differences.{common_len}
use Rattle.fits_diff.proofs.passing.common_len.Given as goal

abbrev pub invariant-loop-index : goal.invariant-loop-index
invariant-loop-index l = common_len l.bytes l.others ≡ l.index + common_len (drop l.index l.bytes) (drop l.index l.others)
