use Rattle.std.proofs.Common.{refl}
use Rattle.std.proofs.lemmas.Option.{IfSome_then}
use Rattle.fits_cli.specs.Running.{standing_at, Progress}
use Rattle.fits_cli.proofs.PlannedLemmas.{plans_saved}
use Rattle.fits_cli.proofs.UnderWayLemmas.{lie_on, looked_over}
use Rattle.fits_cli.proofs.runner.Runner+InFile+F.plan.Goals as goal
use Rattle.fits_cli.proofs.runner.Runner+InFile+F.plan.Goals.{in-Ok, in-Err-Failed, in-Err}

pub invariant_of-self : goal.invariant_of-self
invariant_of-self g c = record { few = c.self.invariant.few; lie = lie_on _ _ _ _ c.plan.ensures.follows c.plan.ensures.stays c.self.invariant.lie; seen = λ all. c.plan.ensures.stays.seen (c.self.invariant.seen all) }

-- the plan is one of what is saved
pub returns-clause-ok : goal.returns-clause-ok
returns-clause-ok g c told is size =
    let it : Progress = record {
      session = c.self.inside.session;
      tables = c.self.inside.tables;
      line = c.self.inside.line;
      refused = c.self.inside.refused;
      edited = c.self.inside.edited;
      whole = c.self.inside.whole;
      extended = c.self.inside.extended;
      look = c.self.inside.look;
      log = c.self.inside.log;
    } in
    let lie = c.self.invariant.lie told (c.plan.ensures.follows told is) in
    let found = c.plan.ensures.plan told is lie size in
    let spared = rw (← c.self.view_is) at c.is_spared.ensures in
    rw (← c.self.view_is)
    (elim c.match-plan.branch [
      | in-Ok w ↦ rw w.result-is (IfSome_then w.in-Ok.found (rw w.in-Ok.is at found) (λ plan makes. plans_saved c.args.terms (standing_at told it) told c.self.inside.session c.is_spared.result plan spared c.if-is_spared.false refl makes))
      | in-Err-Failed w ↦ rw w.result-is tt
      | in-Err w ↦ rw w.result-is tt
    ])

pub returns-clause-follows : goal.returns-clause-follows
returns-clause-follows g c = rw (← c.self.view_is) c.plan.ensures.follows

-- the file stays
pub returns-clause-standing : goal.returns-clause-standing
returns-clause-standing g c told =
    let it : Progress = record {
      session = c.self.inside.session;
      tables = c.self.inside.tables;
      line = c.self.inside.line;
      refused = c.self.inside.refused;
      edited = c.self.inside.edited;
      whole = c.self.inside.whole;
      extended = c.self.inside.extended;
      look = c.self.inside.look;
      log = c.self.inside.log;
    } in
    rw (← c.self.view_is) (looked_over it c.plan.new.self told c.plan.ensures.file c.plan.ensures.absences)
