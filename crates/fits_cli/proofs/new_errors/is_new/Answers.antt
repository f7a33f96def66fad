use Rattle.std.proofs.Common.{sym, ◌∙◌}
use Rattle.fits_cli.proofs.NewErrorLemmas.{new_where, not_new}
use Rattle.fits_cli.proofs.new_errors.is_new.Goals as goal

pub returns-then-has_more : goal.returns-then-has_more
returns-then-has_more c after counts =
    new_where c.args.level c.args.before.now after c.args.it _ (sym (c.has_more.ensures c.args.before.now after c.requires.counted counts) ∙ c.if-has_more.true) c.stands_in.ensures

pub returns-else-has_more : goal.returns-else-has_more
returns-else-has_more c after counts =
    c.if-has_more.false ∙ not_new c.args.level c.args.before.now after c.args.it (sym (c.has_more.ensures c.args.before.now after c.requires.counted counts) ∙ c.if-has_more.false)
