use Rattle.std.proofs.Common.{◌≡◌, ◌+◌, drop}
use Rattle.std.specs.List.{prefix_len}
use Rattle.fits_json.specs.Columns.{is_number_byte}
use Rattle.fits_json.proofs.columns.number_len.Given as goal

abbrev pub invariant-loop-i : goal.invariant-loop-i
invariant-loop-i l = l.i + prefix_len is_number_byte (drop l.i l.text) ≡ prefix_len is_number_byte l.text
