use Rattle.std.proofs.Common.{◌≡◌, take}
use Rattle.fits_cli.specs.Answer.{offset_lines}
use Rattle.fits_cli.proofs.answer.offsets.Given as goal

abbrev pub invariant-loop-i : goal.invariant-loop-i
invariant-loop-i l = l.text.items ≡ offset_lines 1 (take l.i l.hdus)
