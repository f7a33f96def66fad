use Rattle.std.proofs.Common.{◌≡◌, drop}
use Rattle.fits_table.specs.Name.{lowered}
use Rattle.fits_table.specs.Print.{print_from, print_of}
use Rattle.fits_table.proofs.title.print_of.Given as goal

abbrev pub invariant-loop-byte : goal.invariant-loop-byte
invariant-loop-byte l = print_from l.print (lowered (drop l.byte-index l.text)) ≡ print_of (lowered l.text)
