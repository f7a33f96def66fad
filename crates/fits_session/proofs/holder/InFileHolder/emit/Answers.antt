use Rattle.std.proofs.Common.{refl, rules}
use Rattle.fits_session.proofs.holder.InFileHolder.emit.Goals as goal

pub returns-clause-ok : goal.returns-clause-ok
returns-clause-ok g c told all = let own = all refl in c.emit_from.ensures.ok told own.0 own.1

pub returns-clause-err : goal.returns-clause-err
returns-clause-err g c told all = let own = all refl in c.emit_from.ensures.err told own.0 own.1

-- Said, so that a body that breaks it is refused at once.
pub returns-clause-like : goal.returns-clause-like
returns-clause-like g c = search rules

pub returns-clause-all_read : goal.returns-clause-all_read
returns-clause-all_read g c = search rules
