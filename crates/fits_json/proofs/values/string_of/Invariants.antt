use Rattle.std.proofs.Common.{◌≡◌, take, string_bytes}
use Rattle.fits_json.specs.Values.{characters}
use Rattle.fits_json.proofs.values.string_of.Given as goal

abbrev pub invariant-loop-byte : goal.invariant-loop-byte
invariant-loop-byte l = string_bytes l.text ≡ characters (take l.byte-index l.bytes)
