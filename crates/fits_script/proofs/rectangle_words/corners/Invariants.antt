use Rattle.std.proofs.Common.{◌≡◌, take}
use Rattle.std.specs.Prelude.{map}
use Rattle.fits_script.proofs.rectangle_words.corners.Given as goal

abbrev pub invariant-loop-axis : goal.invariant-loop-axis
invariant-loop-axis l = record {
  lower : l.lo.items ≡ map (λ axis. axis.0) (take l.axis-index l.axes);
  upper : l.hi.items ≡ map (λ axis. axis.1) (take l.axis-index l.axes);
}
