use Rattle.fits_tell.proofs.ExitLemmas.{last_err, last_ok}
use Rattle.fits_cli.proofs.FrameLemmas.{like_flushed, saving_unflushed}
use Rattle.fits_cli.proofs.runner.Runner.save.Goals as goal

pub returns-clause-like : goal.returns-clause-like
returns-clause-like g c = last_ok _ c.flush.ensures.ok (λ flush. like_flushed _ _ _ _ _ c.in_ok-write.ensures.like flush)

pub returns-clause-leaves : goal.returns-clause-leaves
returns-clause-leaves g c = last_err _ c.flush.ensures.err (λ why failed. saving_unflushed _ _ _ _ _ why c.in_ok-write.ensures.like failed)
