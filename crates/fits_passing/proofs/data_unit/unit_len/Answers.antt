-- Said, so that a body that breaks it is refused at once.
use Rattle.std.proofs.Common.{rules}
use Rattle.fits_rules.specs.Size.{data_length}
use Rattle.fits_passing.proofs.data_unit.unit_len.Goals as goal

pub returns-then-room-bytes-2-clause-short : goal.returns-then-room-bytes-2-clause-short
unfolding data_length
returns-then-room-bytes-2-clause-short c = search rules

pub returns-clause-ok : goal.returns-clause-ok
unfolding data_length
returns-clause-ok c = search rules
