use Rattle.fits_cli.specs.Running.{IsToldBy}
use Rattle.fits_cli.proofs.UnderWayLemmas.{told_before}
use Rattle.fits_cli.proofs.editing.edit.Goals as goal

pub returns-clause-ends : goal.returns-clause-ends
returns-clause-ends g c bytes by =
    let own : IsToldBy g.H.Holder.whole bytes c.run-ended.new.runner.log = rw c.into_log.ensures at by in
    c.run-ended.ensures.ends bytes own _ (c.new-runner.ensures.standing bytes (rw c.new-runner.ensures.log at (told_before g.H.Holder.whole bytes _ _ c.run-ended.ensures.follows own)))

pub returns-clause-told : goal.returns-clause-told
returns-clause-told g c bytes by =
    let own : IsToldBy g.H.Holder.whole bytes c.run-ended.new.runner.log = rw c.into_log.ensures at by in
    c.run-ended.ensures.told bytes own _ (c.new-runner.ensures.standing bytes (rw c.new-runner.ensures.log at (told_before g.H.Holder.whole bytes _ _ c.run-ended.ensures.follows own)))

pub returns-clause-follows : goal.returns-clause-follows
returns-clause-follows g c = rw c.into_log.ensures (rw (c.new-runner.ensures.log, c.take.ensures.value) at c.run-ended.ensures.follows)
