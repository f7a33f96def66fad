use Rattle.std.proofs.Common.{arith}
use Rattle.fits_card.proofs.SlottedLemmas.{in_place}
use Rattle.fits_card.proofs.slotted.Slotted.of.Goals as goal

pub returns : goal.returns
returns g c = in_place c.args.items.items c.in_ok-order.order.slots c.len.result (omega (arith, c.args.items.ok)) (rw c.in_ok-order.ensures.count at c.in_ok-order.ensures.each) c.in_ok-order.ensures.slots
