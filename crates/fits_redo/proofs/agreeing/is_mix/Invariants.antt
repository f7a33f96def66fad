use Rattle.std.proofs.Common.{◌≡◌, drop}
use Rattle.fits_redo.specs.Blocks.{is_mix}
use Rattle.fits_redo.proofs.agreeing.is_mix.Given as goal

abbrev pub invariant-loop-i : goal.invariant-loop-i
invariant-loop-i l = is_mix (drop l.i l.old) (drop l.i l.new) (drop l.i l.bytes) ≡ is_mix l.old l.new l.bytes
