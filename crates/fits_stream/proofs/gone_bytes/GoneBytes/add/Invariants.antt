use Rattle.std.proofs.Common.{◌≡◌, ◌++◌}
use Rattle.std.specs.Prelude.{take}
use Rattle.fits_stream.proofs.gone_bytes.GoneBytes.add.Given as goal

abbrev pub invariant-loop-byte : goal.invariant-loop-byte
invariant-loop-byte l = l.self.bytes ≡ l.initial.self.bytes ++ take l.byte-index l.piece
