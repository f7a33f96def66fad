use Rattle.std.proofs.Common.{ap}
use Rattle.fits_pieces.specs.Pieces.{PiecedState}
use Rattle.fits_unit.specs.Absence.{part_of}
use Rattle.fits_unit.proofs.part_unit.PartUnit.load_rect.Goals as goal

pub returns-clause-loads : goal.returns-clause-loads
returns-clause-loads g c = rw (← c.self.view_is) (c.load_pieces.ensures.loads c.self.inside.blank)

pub returns-clause-same : goal.returns-clause-same
returns-clause-same g c = rw (← c.self.view_is) c.load_pieces.ensures.same

pub returns-clause-idle : goal.returns-clause-idle
returns-clause-idle g c = rw (← c.self.view_is) (λ holds. ap (λ (u : PiecedState). part_of c.self.inside.place c.self.inside.blank u) (c.load_pieces.ensures.idle holds))

pub returns-clause-at_once : goal.returns-clause-at_once
returns-clause-at_once g c = rw (← c.self.view_is) c.load_pieces.ensures.at_once
