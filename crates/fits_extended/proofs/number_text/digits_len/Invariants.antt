use Rattle.std.proofs.Common.{◌≡◌, ◌+◌, drop}
use Rattle.std.specs.List.{prefix_len}
use Rattle.fits_value.specs.Spelling.{is_digit}
use Rattle.fits_extended.proofs.number_text.digits_len.Given as goal

abbrev pub invariant-loop-i : goal.invariant-loop-i
invariant-loop-i l = l.i + prefix_len is_digit (drop l.i l.text) ≡ prefix_len is_digit l.text
