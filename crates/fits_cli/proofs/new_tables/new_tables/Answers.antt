use Rattle.fits_cli.proofs.NewTableLemmas.{new-more, new-whole}
use Rattle.fits_cli.proofs.new_tables.new_tables.Goals as goal

pub loop-it-preserved : goal.loop-it-preserved
loop-it-preserved c =
    new-more c.args.level c.args.before.now c.args.after.now c.loop-it.new.items c.push_if.new.report.items c.loop-it.it-index _ c.loop-it-test.true c.loop-it.invariant (rw c.is_new.ensures at c.in_ok-push_if.ensures)

pub returns : goal.returns
returns c = new-whole c.args.level c.args.before.now c.args.after.now c.loop-it.new.items c.loop-it.it-index c.loop-it-test.false c.loop-it.invariant
