use Rattle.std.proofs.Common.{◌∙◌}
use Rattle.std.proofs.lemmas.Result.{IfOk-weaker}
use Rattle.fits_cli.specs.Running.{Progress}
use Rattle.fits_cli.proofs.OverLemmas.{queries_told}
use Rattle.fits_cli.proofs.runner.Runner.queries.Goals as goal

pub returns-clause-ok : goal.returns-clause-ok
returns-clause-ok g c told =
    let it : Progress = record {
      session = c.self.inside.session;
      tables = c.self.inside.tables;
      line = c.self.inside.line;
      refused = c.self.inside.refused;
      edited = c.self.inside.edited;
      whole = c.self.inside.whole;
      extended = c.self.inside.extended;
      look = c.self.inside.look;
      log = c.self.inside.log;
    } in
    rw (← c.self.view_is) (IfOk-weaker c.queries_of_each.result _ _ (λ found is. is ∙ queries_told told it c.args.line.now c.if-not-self.false) c.queries_of_each.ensures.ok)
