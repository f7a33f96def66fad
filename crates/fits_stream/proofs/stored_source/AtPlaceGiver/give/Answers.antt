use Rattle.std.proofs.Common.{ap}
use Rattle.fits_stream.specs.Stored.{LentAt}
use Rattle.fits_stream.proofs.StoredLemmas.{came_lent}
use Rattle.fits_stream.proofs.stored_source.AtPlaceGiver.give.Goals as goal

pub returns-clause-ok : goal.returns-clause-ok
returns-clause-ok g c = came_lent _ _ c.self.inside.place c.in_ok-n.n c.args.self.now.log c.self.inside.came.log c.give.new.self.log _
    (ap (λ (l : LentAt _). l.log) c.self.view_is) (ap (λ (l : LentAt _). g.F.Stored.bytes l.file) c.self.view_is) c.self.invariant c.in_ok-n.ensures.bound.1 c.in_ok-n.ensures.bytes.0 c.give.ensures.adds c.give.ensures.read
