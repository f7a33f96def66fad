use Rattle.std.proofs.Common.{◌≡◌, ◌≤◌, ◌<◌, ℕ, true, List, length, get_or}
use Rattle.fits_value.specs.Spelling.{is_space}
use Rattle.fits_value.proofs.spaces.trimmed_len.Given as goal

-- spaces alone stand behind so many bytes
abbrev pub IsTrimmedTo : List ℕ → ℕ → Type 0
IsTrimmedTo text len = (len ≤ length text) × ((k : ℕ) → len ≤ k → k < length text → is_space (get_or text k 0) ≡ true)

abbrev pub invariant-lanes : goal.invariant-lanes
invariant-lanes l = IsTrimmedTo l.text l.len

abbrev pub decreases-lanes : goal.decreases-lanes
decreases-lanes l = l.len

abbrev pub invariant-bytes : goal.invariant-bytes
invariant-bytes l = IsTrimmedTo l.text l.len

abbrev pub decreases-bytes : goal.decreases-bytes
decreases-bytes l = l.len
