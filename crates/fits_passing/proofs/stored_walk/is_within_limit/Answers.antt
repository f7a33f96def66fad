use Rattle.std.proofs.Common.{◌<◌, arith, length, take}
use Rattle.std.proofs.lemmas.List.{length-take}
use Rattle.fits_passing.proofs.StoredLemmas.{of_earlier, of_turned, some_count, some_there}
use Rattle.fits_passing.proofs.stored_walk.is_within_limit.Goals as goal

-- a byte came from behind the limit
pub returns-clause-over : goal.returns-clause-over
returns-clause-over g c = λ some told is.
    let back = of_turned c.read.new.self c.turn_to-2.new.source told c.turn_to-2.ensures.came c.turn_to-2.ensures.ends is in
    let count : 0 < length (take c.in-Ok.n c.read.new.buffer) = omega (arith, some_count c.in-Ok.n some, c.in-Ok.ensures.bound, length-take c.in-Ok.n c.read.new.buffer) in
    omega (arith, c.turn_to.ensures.at, some_there c.turn_to.new.source c.read.new.self told (take c.in-Ok.n c.read.new.buffer) c.in-Ok.ensures.ok.log back count)

pub returns-clause-follows : goal.returns-clause-follows
returns-clause-follows g c = λ told is.
    let back = of_turned c.read.new.self c.turn_to-2.new.source told c.turn_to-2.ensures.came c.turn_to-2.ensures.ends is in
    of_turned c.args.source.now c.turn_to.new.source told c.turn_to.ensures.came c.turn_to.ensures.ends
    (of_earlier c.turn_to.new.source c.read.new.self told (take c.in-Ok.n c.read.new.buffer) c.in-Ok.ensures.ok.log back)
