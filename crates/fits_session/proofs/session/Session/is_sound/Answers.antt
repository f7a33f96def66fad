use Rattle.std.proofs.Common.{subst}
use Rattle.std.specs.Prelude.{All}
use Rattle.fits_hdu.specs.State.{IsDescribed}
use Rattle.fits_passing.specs.File.{IsFile}
use Rattle.fits_session.specs.Session.{file_of, IsHeld, SessionState}
use Rattle.fits_session.proofs.HadLemmas.{held_all}
use Rattle.fits_session.proofs.session.Session.is_sound.Goals as goal

pub returns-clause-whole : goal.returns-clause-whole
returns-clause-whole g c = subst (λ (it : SessionState). IsFile (file_of it)) c.self.view_is c.self.invariant.whole

pub returns-clause-described : goal.returns-clause-described
returns-clause-described g c = subst (λ (it : SessionState). All IsDescribed it.hdus) c.self.view_is c.self.invariant.described

pub returns-clause-held : goal.returns-clause-held
returns-clause-held g c = λ whole. subst (λ (it : SessionState). All IsHeld it.hdus) c.self.view_is (held_all _ c.self.inside.hdus.items whole c.self.invariant.had)
