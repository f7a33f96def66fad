use Rattle.fits_cli.proofs.AnswerLemmas.{offsets_step}
use Rattle.fits_cli.proofs.answer.offsets.Goals as goal

pub loop-i-preserved : goal.loop-i-preserved
loop-i-preserved c = offsets_step c.loop-i.text.items c.push_offset_line.new.text.items c.args.hdus.now c.loop-i.i _ c.loop-i-test.true c.loop-i.invariant c.in_ok-push_offset_line.ensures
