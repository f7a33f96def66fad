use Rattle.std.proofs.Common.{arith}
use Rattle.fits_value.proofs.RoomLemmas.{string_goes, null_goes}
use Rattle.fits_value.proofs.unwritable.string_end.Goals as goal

pub returns-then-len-eq0-clause-value : goal.returns-then-len-eq0-clause-value
returns-then-len-eq0-clause-value c = omega (arith, null_goes c.args.characters.now c.doubled_len-len.result c.doubled_len-len.ensures c.if-len-eq0.true)

pub returns-else-len-eq0-clause-value : goal.returns-else-len-eq0-clause-value
returns-else-len-eq0-clause-value c =
    omega (arith, string_goes c.args.characters.now c.doubled_len-len.result c.doubled_len-len.ensures (omega arith) (omega arith), c.max.ensures)
