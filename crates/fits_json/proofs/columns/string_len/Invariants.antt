use Rattle.std.proofs.Common.{◌≡◌, ◌+◌, drop, false}
use Rattle.fits_json.specs.Columns.{quotes_len}
use Rattle.fits_json.proofs.columns.string_len.Given as goal

abbrev pub invariant-loop-i : goal.invariant-loop-i
invariant-loop-i l = l.i + quotes_len l.inside (drop l.i l.text) ≡ quotes_len false l.text
