use Rattle.std.proofs.Common.{◌≡◌, ◌+◌, drop}
use Rattle.std.specs.List.{prefix_len}
use Rattle.fits_card.specs.Name.{is_name_byte}
use Rattle.fits_card.proofs.name.spelled_len.Given as goal

abbrev pub invariant-loop-index : goal.invariant-loop-index
invariant-loop-index l = l.index + prefix_len is_name_byte (drop l.index l.text) ≡ prefix_len is_name_byte l.text
