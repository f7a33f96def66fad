use Rattle.std.proofs.Common.{refl}
use Rattle.fits_cli.proofs.EndingLemmas.{EndsAs-free}
use Rattle.fits_cli.proofs.editing.run_edit.Goals as goal

pub returns : goal.returns
returns g c = rw c.end_of.ensures (EndsAs-free _ _ _ _ c.run_edit_told.result refl refl c.run_edit_told.ensures.ends)
