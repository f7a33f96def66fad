use Rattle.fits_session.proofs.RefusalLemmas.{never_memory}
use Rattle.fits_laws.proofs.session.no_refusal_is_memory.Goals as goal

pub returns : goal.returns
returns c = never_memory
