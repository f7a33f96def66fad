use Rattle.std.proofs.Common.{◌≡◌, take}
use Rattle.std.specs.Prelude.{filter}
use Rattle.fits_table.specs.Table.{has_table_code}
use Rattle.fits_table.proofs.judging.codes_of_mark.Given as goal

abbrev pub invariant-loop-code : goal.invariant-loop-code
invariant-loop-code l = l.codes.items ≡ filter (has_table_code l.kind l.shape l.mark) (take l.code-index l.code-items)
