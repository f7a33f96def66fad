use Rattle.std.proofs.Common.{refl}
use Rattle.std.proofs.lemmas.Result.{err_from_is_err_and}
use Rattle.fits_cli.specs.Running.{guarded_by, standing_at, standing_over, Progress}
use Rattle.fits_cli.proofs.FrameLemmas.{saving_of}
use Rattle.fits_cli.proofs.UnderWayLemmas.{lie_on, looked_over, saves_all, saves_like, saves_none, saves_not, told_hdus}
use Rattle.fits_cli.proofs.runner.Runner.write.Goals as goal

pub invariant_of-self : goal.invariant_of-self
invariant_of-self g c = record { few = c.self.invariant.few; lie = lie_on _ _ _ _ c.write.ensures.follows c.write.ensures.stays c.self.invariant.lie; seen = λ all. c.write.ensures.stays.seen (c.self.invariant.seen all) }

pub invariant_of-self-2 : goal.invariant_of-self-2
invariant_of-self-2 g c = record { few = c.self.invariant.few; lie = lie_on _ _ _ _ c.write.ensures.follows c.write.ensures.stays c.self.invariant.lie; seen = λ all. c.write.ensures.stays.seen (c.self.invariant.seen all) }

pub returns-in_err-write-clause-follows : goal.returns-in_err-write-clause-follows
returns-in_err-write-clause-follows g c = rw (← c.self.view_is) c.write.ensures.follows

pub returns-clause-follows : goal.returns-clause-follows
returns-clause-follows g c = rw (← c.self.view_is) c.write.ensures.follows

pub returns-clause-ok : goal.returns-clause-ok
returns-clause-ok g c told by =
    let all = told_hdus g.H.Holder.whole told _ _ _ c.write.ensures.follows c.self.invariant.lie by in
    saves_all c.args.terms (standing_at told c.args.self.now) c.is_spared.result _ _ c.is_spared.ensures c.if-is_spared.false (rw (← c.self.view_is) (c.in_ok-write.ensures.ok told all))

pub returns-in_err-write-clause-err : goal.returns-in_err-write-clause-err
returns-in_err-write-clause-err g c told by =
    let exit = err_from_is_err_and c.from_residual.result c.from_residual.ensures.1 in
    let all = told_hdus g.H.Holder.whole told _ _ _ c.write.ensures.follows c.self.invariant.lie by in
    rw (exit.1, exit.2) (saves_not c.args.terms (standing_at told c.args.self.now) c.is_spared.result _ _ c.in_err-write.field-0.0 _ c.is_spared.ensures c.if-is_spared.false refl (rw (← c.self.view_is) (c.in_err-write.ensures.err told all)))

pub returns-then-is_spared-clause-like : goal.returns-then-is_spared-clause-like
returns-then-is_spared-clause-like g c = saves_none c.args.self.now.look c.args.terms (standing_over c.args.self.now (guarded_by c.args.self.now c.args.self.now.session)) c.is_spared.result _ c.is_spared.ensures c.if-is_spared.true

pub returns-clause-like : goal.returns-clause-like
returns-clause-like g c =
    let it : Progress = record {
      session = c.self.inside.session;
      tables = c.self.inside.tables;
      line = c.self.inside.line;
      refused = c.self.inside.refused;
      edited = c.self.inside.edited;
      whole = c.self.inside.whole;
      extended = c.self.inside.extended;
      look = c.self.inside.look;
      log = c.self.inside.log;
    } in
    rw (← c.self.view_is) (saves_like c.self.inside.look c.args.terms (standing_over it (guarded_by it it.session)) c.self.inside.session c.is_spared.result _ _ refl c.self.invariant.seen (rw (← c.self.view_is) at c.is_spared.ensures) c.if-is_spared.false c.in_ok-write.ensures.like)

pub returns-in_err-write-clause-leaves : goal.returns-in_err-write-clause-leaves
returns-in_err-write-clause-leaves g c =
    let exit = err_from_is_err_and c.from_residual.result c.from_residual.ensures.1 in
    rw (exit.1, exit.2) (saving_of _ _ c.in_err-write.field-0.0 c.in_err-write.ensures.writes)

-- the file stays
pub returns-in_err-write-clause-standing : goal.returns-in_err-write-clause-standing
returns-in_err-write-clause-standing g c told =
    let it : Progress = record {
      session = c.self.inside.session;
      tables = c.self.inside.tables;
      line = c.self.inside.line;
      refused = c.self.inside.refused;
      edited = c.self.inside.edited;
      whole = c.self.inside.whole;
      extended = c.self.inside.extended;
      look = c.self.inside.look;
      log = c.self.inside.log;
    } in
    rw (← c.self.view_is) (looked_over it c.write.new.self told c.write.ensures.file c.write.ensures.absences)

pub returns-clause-standing : goal.returns-clause-standing
returns-clause-standing g c told =
    let it : Progress = record {
      session = c.self.inside.session;
      tables = c.self.inside.tables;
      line = c.self.inside.line;
      refused = c.self.inside.refused;
      edited = c.self.inside.edited;
      whole = c.self.inside.whole;
      extended = c.self.inside.extended;
      look = c.self.inside.look;
      log = c.self.inside.log;
    } in
    rw (← c.self.view_is) (looked_over it c.write.new.self told c.write.ensures.file c.write.ensures.absences)
