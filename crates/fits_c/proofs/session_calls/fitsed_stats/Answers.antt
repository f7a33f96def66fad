use Rattle.std.proofs.Common.{refl}
use Rattle.fits_c.proofs.session_calls.fitsed_stats.Goals as goal

pub returns : goal.returns
returns c = (_, c.take-live.ensures.given, c.take-live.result.value, c.of.ensures, (refl, rw c.deref.ensures at c.stats-number.ensures))
