-- What a function returns where it passes a fault on.
use Rattle.std.proofs.Common.{◌≡◌, ◌⊎◌, ℕ, Bool, List, Result, Ok, Err, false, inl, inr, refl, true}
use Rattle.std.specs.Prelude.{not}
use Rattle.std.specs.Result.{IfErr, IsErrAnd}
use Rattle.fits_tell.specs.Faults.{PrintFails}
use Rattle.fits_stream.specs.Stream.{SinkState, PrintsFront}
use Rattle.fits_tell.specs.declared.fault.Fault.{Fault}
use Rattle.fits_tell.specs.declared.fault.Fault.TheVariants.{WriteFailed}
use Rattle.fits_tell.proofs.ExitLemmas.{at_exit}

-- a failed write that is passed on
pub print_exit : {T : Type 0} (r : Result T Fault) (text : List ℕ) (a b : SinkState) (why : Fault) → IsErrAnd r (λ e. e ≡ why) → why ≡ WriteFailed → PrintsFront text a b
    → IfErr r (PrintFails text a b)
print_exit r text a b why is write front = at_exit r (PrintFails text a b) why is (write, front)

-- a write that is the last call, of a text that ends a whole
pub print_last : {T : Type 0} (r : Result T Fault) (text whole : List ℕ) (a b c : SinkState) → IfErr r (PrintFails text b c) → (PrintsFront text b c → PrintsFront whole a c) → IfErr r (PrintFails whole a c)
print_last (Ok x) text whole a b c failed f = failed
print_last (Err why) text whole a b c failed f = (failed.0, f failed.1)

-- what holds where all data are in memory holds, or they aren't
pub once_or : (whole : Bool) (P : Type 0) → (whole ≡ true → P) → (not whole ≡ true) ⊎ P
once_or true P p = inr (p refl)
once_or false P p = inl refl
