use Rattle.fits_stream.specs.Agree.{IsOf}
use Rattle.fits_cli.proofs.overwriting.edit_over.Goals as goal

pub returns-clause-ends : goal.returns-clause-ends
returns-clause-ends g c bytes is =
    let own : IsOf bytes c.run_over-ended.new.runner.log = rw c.into_log.ensures at is in
    c.run_over-ended.ensures.ends bytes own _ (c.new-runner.ensures.standing bytes (λ away. rw c.new-runner.ensures.log at (c.run_over-ended.ensures.follows bytes own)))

pub returns-clause-told : goal.returns-clause-told
returns-clause-told g c bytes is =
    let own : IsOf bytes c.run_over-ended.new.runner.log = rw c.into_log.ensures at is in
    c.run_over-ended.ensures.told bytes own _ (c.new-runner.ensures.standing bytes (λ away. rw c.new-runner.ensures.log at (c.run_over-ended.ensures.follows bytes own)))

pub returns-clause-follows : goal.returns-clause-follows
returns-clause-follows g c = rw c.into_log.ensures (rw (c.new-runner.ensures.log, c.take.ensures.value) at c.run_over-ended.ensures.follows)
