use Rattle.std.proofs.Common.{◌≡◌, ◌+◌, ◌≤◌, ◌*◌, length, drop}
use Rattle.fits_value.specs.Spelling.{doubled}
use Rattle.fits_value.proofs.write.doubled_len.Given as goal

abbrev pub invariant-loop-byte : goal.invariant-loop-byte
invariant-loop-byte l = record {
  so_far : l.len + length (doubled (drop l.byte-index l.characters)) ≡ length (doubled l.characters);
  most : l.len ≤ 2 * l.byte-index;
}
