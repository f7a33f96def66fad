use Rattle.std.proofs.Common.{refl}
use Rattle.fits_session.proofs.HadLemmas.{held_rect}
use Rattle.fits_session.proofs.holder.InMemoryHolder.load_rect.Goals as goal

pub returns-clause-held : goal.returns-clause-held
returns-clause-held c = held_rect c.args._lo.now c.args._hi.now c.args._hdu.now (c.requires.held refl)
