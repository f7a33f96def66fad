use Rattle.std.proofs.Common.{◌∙◌, arith}
use Rattle.fits_redo.proofs.TellsLemmas.{first_told}
use Rattle.fits_redo.proofs.redo.first_block.Goals as goal

pub returns : goal.returns
returns c =
    let one = c.in_ok-index.ensures.cases in
    let two = c.in_ok-old.ensures.cases in
    let three = c.in_ok-new.ensures.cases in
    let told = first_told c.args.entries.now c.in_ok-index.index.now c.in_ok-old.old.now c.in_ok-new.new.now c.in_ok-index.rest.now c.in_ok-old.rest.now c.in_ok-new.rest.now one.0 one.1 two.0 two.1 three.0 three.1 in
    (omega (arith, one.2, two.2, three.2), (λ i. record { index = c.from_big_endian.ensures i; old = c.in_ok-old.old.now; new = c.in_ok-new.new.now }) ∙ told.0, told.1)
