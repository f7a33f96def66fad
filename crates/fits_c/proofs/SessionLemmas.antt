-- A session whose data are all in memory.
use Rattle.std.proofs.Common.{All, List}
use Rattle.fits_hdu.specs.State.{HduState}
use Rattle.fits_session.specs.Session.{IsHeld}
use Rattle.fits_session.proofs.HadLemmas.{all_seen_held, so_counted, so_pixels, so_seen, ready_held as edit_ready}
use Rattle.fits_script.specs.declared.command.Command.{Command}
use Rattle.fits_script.specs.declared.command.Command.TheVariants.{Nothing, Edit, Offsets, Get, Positions, Report, Statistics, Rectangle, Sums, Kept}
use Rattle.fits_cli.specs.Answer.{IsReady}

-- every command has the data that it wants
pub ready_held : (command : Command) (hdus : List HduState) → All IsHeld hdus → IsReady command hdus
unfolding IsReady
ready_held Nothing hdus held = tt
ready_held (Edit edit) hdus held = edit_ready edit hdus held
ready_held Offsets hdus held = tt
ready_held (Get hdu name) hdus held = tt
ready_held (Positions hdu name) hdus held = tt
ready_held Report hdus held = all_seen_held hdus held
ready_held (Statistics hdu) hdus held = so_counted hdu hdus held
ready_held (Rectangle hdu lo hi) hdus held = so_pixels lo hi hdu hdus held
ready_held (Sums hdu) hdus held = so_seen hdu hdus held
ready_held (Kept hdu) hdus held = tt
