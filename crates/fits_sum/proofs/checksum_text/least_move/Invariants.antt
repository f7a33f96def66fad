use Rattle.std.proofs.Common.{◌≡◌, ◌<◌, ℕ, true}
use Rattle.fits_sum.specs.ChecksumText.{is_excluded_pair}
use Rattle.fits_sum.proofs.checksum_text.least_move.Given as goal

abbrev pub invariant-loop-n : goal.invariant-loop-n
invariant-loop-n l = (k : ℕ) → k < l.n → is_excluded_pair l.first l.second k ≡ true
