use Rattle.fits_value.proofs.PieceLemmas.{fit_stop, fit_all}
use Rattle.fits_value.specs.Written.{fitting}
use Rattle.fits_value.proofs.write.piece_len.Goals as goal

pub returns-then-room-width-clause-value : goal.returns-then-room-width-clause-value
returns-then-room-width-clause-value c =
    fit_stop c.args.characters.now c.loop-i.i c.loop-i.room c.width_of-width.result (fitting 67 c.args.characters.now) c.loop-i-test.true c.width_of-width.ensures.value c.if-room-width.true c.loop-i.invariant.so_far

pub returns-clause-value : goal.returns-clause-value
returns-clause-value c = fit_all c.args.characters.now c.loop-i.i c.loop-i.room (fitting 67 c.args.characters.now) c.loop-i-test.false c.loop-i.invariant.so_far
