use Rattle.std.proofs.Common.{◌≡◌, ◌++◌, drop, true}
use Rattle.fits_json.specs.Values.{undoubled}
use Rattle.fits_json.proofs.values.undoubled_of.Given as goal

abbrev pub invariant-loop-byte : goal.invariant-loop-byte
invariant-loop-byte l = l.bytes.items ++ undoubled l.inside (drop l.byte-index l.rest) ≡ undoubled true l.rest
