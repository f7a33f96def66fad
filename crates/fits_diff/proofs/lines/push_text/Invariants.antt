use Rattle.std.proofs.Common.{◌≡◌, ◌++◌, map, take}
use Rattle.fits_tell.specs.Cards.{shown_byte}
use Rattle.fits_diff.proofs.lines.push_text.Given as goal

abbrev pub invariant-loop-byte : goal.invariant-loop-byte
invariant-loop-byte l = l.text.items ≡ l.fn.text.items ++ map shown_byte (take l.byte-index l.bytes)
