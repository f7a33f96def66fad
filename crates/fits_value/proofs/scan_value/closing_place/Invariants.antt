use Rattle.std.proofs.Common.{length, ◌-◌, ◌≡◌, ◌≤◌, ℕ, ◌+◌, drop}
use Rattle.std.specs.Option.{option_map}
use Rattle.fits_value.specs.Scan.{closing_of}
use Rattle.fits_value.proofs.scan_value.closing_place.Given as goal

abbrev pub invariant-loop-place : goal.invariant-loop-place
invariant-loop-place l = (l.place ≤ length l.text) × (closing_of l.text ≡ option_map (λ (n : ℕ). n + l.place) (closing_of (drop l.place l.text)))

abbrev pub decreases-loop-place : goal.decreases-loop-place
decreases-loop-place l = length l.text - l.place
