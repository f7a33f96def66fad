-- What keeps the result of a run from being saved, where a fault is passed on.
use Rattle.std.proofs.Common.{◌≡◌, ℕ, List, Result, Option}
use Rattle.std.specs.Result.{IsErrAnd}
use Rattle.std.proofs.lemmas.Result.{err_from_is_err_and}
use Rattle.fits_tell.specs.declared.fault.Fault.{Fault}
use Rattle.fits_cli.specs.Ends.{RunState, StopsBy}
use Rattle.fits_cli.specs.Holding.{HoldsBack}
use Rattle.fits_cli.specs.declared.edited.Edited.{Edited}

-- a fault that is passed on ends the run
pub holds_exit : (old new : RunState) (bytes : List ℕ) (status : ℕ) (result : Result (Option Edited) Fault) (why : Fault) → IsErrAnd result (λ e. e ≡ why) → StopsBy old new why → HoldsBack old new bytes status result
holds_exit old new bytes status result why is stops = let exit = err_from_is_err_and result is in rw (exit.1, exit.2) stops
