use Rattle.fits_unit.proofs.PartLemmas.{part_painted}
use Rattle.fits_unit.proofs.part_unit.PartUnit.paint_rect.Goals as goal

pub invariant_of-self : goal.invariant_of-self
invariant_of-self c = part_painted c.self.inside.place c.args.painting.now c.self.inside.unit c.paint_rect.new.self c.self.invariant c.paint_rect.ensures.painted c.paint_rect.ensures.held
