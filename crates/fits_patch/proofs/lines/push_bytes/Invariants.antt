use Rattle.std.proofs.Common.{◌≡◌, ◌++◌, map, take}
use Rattle.fits_patch.specs.Patch.{line_byte}
use Rattle.fits_patch.proofs.lines.push_bytes.Given as goal

abbrev pub invariant-loop-byte : goal.invariant-loop-byte
invariant-loop-byte l = l.text.items ≡ l.fn.text.items ++ map line_byte (take l.byte-index l.bytes)
