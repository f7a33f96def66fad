use Rattle.std.proofs.Common.{◌≡◌, length}
use Rattle.std.specs.Prelude.{◌==◌}
use Rattle.std.specs.List.{slice_split}
use Rattle.fits_script.specs.Misfit.{values_misfit}
use Rattle.fits_script.proofs.misfits.values_misfit.Given as goal

-- what is said of the rest is said of all
abbrev pub invariant-words : goal.invariant-words
invariant-words l = values_misfit l.size (length l.rest) (slice_split (λ byte. byte == 32) l.rest) ≡ values_misfit l.size (length l.text) (slice_split (λ byte. byte == 32) l.text)

abbrev pub decreases-words : goal.decreases-words
decreases-words l = length l.rest
