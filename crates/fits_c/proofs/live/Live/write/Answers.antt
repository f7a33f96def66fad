use Rattle.std.proofs.Common.{refl, inr}
use Rattle.fits_making.specs.declared.refusal.Refusal.TheVariants.{Memory}
use Rattle.fits_c.proofs.live.Live.write.Goals as goal

pub returns-in-Err : goal.returns-in-Err
returns-in-Err g c = inr (Memory, c.refusal_number-in-Err.ensures, refl, inr refl)
