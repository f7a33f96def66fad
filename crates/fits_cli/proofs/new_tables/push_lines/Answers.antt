use Rattle.fits_cli.proofs.NewTableLemmas.{lines-more, lines-whole}
use Rattle.fits_cli.proofs.new_tables.push_lines.Goals as goal

pub loop-it-preserved : goal.loop-it-preserved
loop-it-preserved c =
    lines-more c.args.text.now.items c.loop-it.text.items c.push_line.new.text.items c.args.report.now c.loop-it.it-index _ c.loop-it-test.true c.loop-it.invariant c.in_ok-push_line.ensures

pub returns : goal.returns
returns c = lines-whole c.args.text.now.items c.loop-it.text.items c.args.report.now c.loop-it.it-index c.loop-it-test.false c.loop-it.invariant
