use Rattle.fits_value.proofs.PieceLemmas.{over_quote, double_over, width_least}
use Rattle.fits_value.proofs.card_text.add_doubled.Goals as goal

pub returns-in_err-add-clause-none : goal.returns-in_err-add-clause-none
returns-in_err-add-clause-none c = rw (c.from_residual.ensures) (over_quote c.args.characters.now c.loop-byte.text c.args.text.now c.loop-byte.byte-index 80 c.loop-byte-test.true c.if-byte-eq39.true c.loop-byte.invariant (c.in_err-add.ensures).none)

pub returns-in_err-add-2-clause-none : goal.returns-in_err-add-2-clause-none
returns-in_err-add-2-clause-none c =
    rw (c.from_residual-in_err-add-2.ensures) (double_over c.args.characters.now c.loop-byte.text c.args.text.now c.loop-byte.byte-index 80 1 c.loop-byte-test.true (width_least _) c.loop-byte.invariant (c.in_err-add-2.ensures).none)
