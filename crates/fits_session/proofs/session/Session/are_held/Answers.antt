use Rattle.std.proofs.Common.{refl, subst}
use Rattle.std.specs.Prelude.{All}
use Rattle.fits_session.specs.Session.{IsHeld, SessionState}
use Rattle.fits_session.proofs.HadLemmas.{held_all}
use Rattle.fits_session.proofs.session.Session.are_held.Goals as goal

pub returns : goal.returns
returns c = subst (λ (it : SessionState). All IsHeld it.hdus) c.self.view_is (held_all _ c.self.inside.hdus.items refl c.self.invariant.had)
