use Rattle.fits_tell.proofs.SummaryLemmas.{code_lines-more, code_lines-none}
use Rattle.fits_tell.proofs.summary.push_code_lines.Goals as goal

pub loop-before-init : goal.loop-before-init
loop-before-init c = code_lines-none c.args.level c.args.report.now c.args.text.now.items

-- one more line
pub loop-before-preserved : goal.loop-before-preserved
loop-before-preserved c =
    code_lines-more c.args.level c.args.report.now c.loop-before.before c.args.text.now.items c.loop-before.text.items c.push_code_line.new.text.items c.loop-before.invariant c.in_ok-push_code_line.ensures
