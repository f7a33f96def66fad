use Rattle.std.proofs.Common.{arith}
use Rattle.fits_card.proofs.SlottedLemmas.{items_count}
use Rattle.fits_card.proofs.slotted.Slotted.len.Goals as goal

pub returns-clause-value : goal.returns-clause-value
returns-clause-value g c = rw (← c.self.view_is) (omega (arith, c.len.ensures.value, items_count c.self.inside.items.items c.self.inside.order.slots _ c.self.invariant.slots (omega (arith, c.self.invariant.count, c.self.inside.items.ok))))

pub returns-clause-few : goal.returns-clause-few
returns-clause-few g c = rw (← c.self.view_is) (omega (arith, c.len.ensures.value, c.len.ensures.few, c.self.invariant.fits))
