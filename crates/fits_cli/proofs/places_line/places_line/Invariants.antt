use Rattle.std.proofs.Common.{◌≡◌, ◌++◌, take}
use Rattle.std.specs.Fmt.{decimal}
use Rattle.fits_cli.specs.Answer.{spaced}
use Rattle.fits_cli.proofs.places_line.places_line.Given as goal

abbrev pub invariant-loop-place : goal.invariant-loop-place
invariant-loop-place l = l.line.items ≡ decimal l.fn.first ++ spaced (take l.place-index l.more)
