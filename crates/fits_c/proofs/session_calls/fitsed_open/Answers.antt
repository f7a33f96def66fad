use Rattle.std.proofs.Common.{refl, inl}
use Rattle.fits_c.proofs.session_calls.fitsed_open.Goals as goal

pub returns-in-Ok : goal.returns-in-Ok
returns-in-Ok c = inl (_, refl, c.of.ensures, c.in-Ok.ensures.ok)
