use Rattle.std.proofs.Common.{arith, sym, ◌∙◌, refl, ◌%◌}
use Rattle.fits_value.proofs.DigitLemmas.{no_more, lower}
use Rattle.fits_value.proofs.number.without_zeros.Goals as goal

pub returns-then-rest-ne0-clause-none : goal.returns-then-rest-ne0-clause-none
returns-then-rest-ne0-clause-none c = λ x e. no_more c.loop-i.rest (c.loop-i.rest % 10) c.loop-i.i c.args.zeros c.if-rest-ne0.true refl (omega arith) x (e ∙ sym c.loop-i.invariant.0)

pub loop-i-preserved : goal.loop-i-preserved
loop-i-preserved c = (lower c.loop-i.rest c.loop-i.i c.args.number c.if-rest-ne0.false c.loop-i.invariant.0, omega arith)
