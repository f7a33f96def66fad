use Rattle.std.proofs.Common.{take}
use Rattle.std.specs.List.{flat_map}
use Rattle.fits_stream.specs.Stream.{Prints}
use Rattle.fits_script.specs.Wording.{shown_byte}
use Rattle.fits_script.proofs.wording.write_bytes.Given as goal

abbrev pub invariant-loop-byte : goal.invariant-loop-byte
invariant-loop-byte g l = Prints (flat_map (shown_byte l.in_string) (take l.byte-index l.bytes)) (g.W.Sink.state l.fn.out) (g.W.Sink.state l.out)
