use Rattle.std.proofs.Common.{◌≡◌, ◌++◌, take}
use Rattle.fits_tell.specs.PixelLines.{numbers_spaced}
use Rattle.fits_tell.proofs.pixel_lines.push_more_numbers.Given as goal

abbrev pub invariant-loop-number : goal.invariant-loop-number
invariant-loop-number l = l.line.items ≡ l.fn.line.items ++ numbers_spaced (take l.number-index l.numbers)
