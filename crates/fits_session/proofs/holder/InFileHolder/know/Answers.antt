use Rattle.std.proofs.Common.{refl}
use Rattle.fits_session.proofs.LoadedLemmas.{had_still, idle_seen, known_parts}
use Rattle.fits_session.proofs.holder.InFileHolder.know.Goals as goal

pub returns-clause-had : goal.returns-clause-had
returns-clause-had g c = had_still c.args.hdu.now c.know.new.self c.know.ensures.loads (idle_seen c.args.hdu.now c.know.new.self c.know.ensures.idle) c.requires

pub returns-clause-same : goal.returns-clause-same
returns-clause-same g c told all = let own = all refl in known_parts c.know.result told c.args.hdu.now c.know.new.self c.know.ensures.known (c.know.ensures.same told own.0 own.1)

pub returns-clause-unchanged : goal.returns-clause-unchanged
returns-clause-unchanged g c told all = let own = all refl in c.know.ensures.steady told own.0 own.1

pub returns-clause-lies : goal.returns-clause-lies
returns-clause-lies g c told all = λ away. let own = all refl in (own.0, c.know.ensures.lies told own.0 own.1)
