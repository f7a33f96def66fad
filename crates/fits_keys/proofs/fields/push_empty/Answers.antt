use Rattle.fits_keys.proofs.FieldLemmas.{empty_step}
use Rattle.fits_keys.proofs.fields.push_empty.Goals as goal

pub loop-name-preserved : goal.loop-name-preserved
loop-name-preserved c =
    empty_step c.args.line.now.items c.loop-name.line.items c.push.new.self.items c.args.names.now c.loop-name._name-index c.loop-name-test.true c.loop-name.invariant c.in_ok-push.ensures.items
