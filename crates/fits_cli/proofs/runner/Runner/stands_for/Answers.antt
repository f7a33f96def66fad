use Rattle.std.proofs.Common.{◌∙◌}
use Rattle.std.proofs.lemmas.Result.{IfOk-weaker}
use Rattle.fits_cli.specs.Running.{Progress}
use Rattle.fits_cli.proofs.OverLemmas.{plains_told}
use Rattle.fits_cli.proofs.UnderWayLemmas.{looked_over}
use Rattle.fits_cli.proofs.runner.Runner.stands_for.Goals as goal

pub invariant_of-self : goal.invariant_of-self
invariant_of-self g c = record {
  few = c.self.invariant.few;
  lie = λ bytes is. c.plain_line.ensures.stays.lie bytes (c.self.invariant.lie bytes is);
  seen = λ all. c.plain_line.ensures.stays.seen (c.self.invariant.seen all);
}

pub returns-clause-ok : goal.returns-clause-ok
returns-clause-ok g c told =
    let it : Progress = record {
      session = c.self.inside.session;
      tables = c.self.inside.tables;
      line = c.self.inside.line;
      refused = c.self.inside.refused;
      edited = c.self.inside.edited;
      whole = c.self.inside.whole;
      extended = c.self.inside.extended;
      look = c.self.inside.look;
      log = c.self.inside.log;
    } in
    rw (← c.self.view_is) (IfOk-weaker c.plain_line.result _ _ (λ stands is. is ∙ plains_told told it c.args.line.now c.if-not-self.false) c.plain_line.ensures.ok)

pub returns-clause-standing : goal.returns-clause-standing
returns-clause-standing g c told =
    let it : Progress = record {
      session = c.self.inside.session;
      tables = c.self.inside.tables;
      line = c.self.inside.line;
      refused = c.self.inside.refused;
      edited = c.self.inside.edited;
      whole = c.self.inside.whole;
      extended = c.self.inside.extended;
      look = c.self.inside.look;
      log = c.self.inside.log;
    } in
    rw (← c.self.view_is) (looked_over it c.plain_line.new.session told c.plain_line.ensures.same c.plain_line.ensures.absences)
