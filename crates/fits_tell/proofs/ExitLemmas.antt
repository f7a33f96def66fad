-- What a function returns where it passes a fault on.
use Rattle.std.proofs.Common.{◌≡◌, Result, Ok, Err}
use Rattle.std.specs.Result.{IfErr, IsErrAnd, OnOk}
use Rattle.std.proofs.lemmas.Result.{err_from_is_err_and}

-- what is so of the fault is so of the result
pub at_exit : {T E : Type 0} (r : Result T E) (P : E → Type 0) (why : E) → IsErrAnd r (λ e. e ≡ why) → P why → IfErr r P
at_exit r P why is here = let exit = err_from_is_err_and r is in rw (exit.1, exit.2) here

-- what follows where a call is the last one, and is done
pub last_ok : {T E P Q : Type 0} (r : Result T E) → OnOk r P → (P → Q) → OnOk r Q
last_ok (Ok x) p f = f p
last_ok (Err e) p f = p

-- and where it fails
pub last_err : {T E : Type 0} {P Q : E → Type 0} (r : Result T E) → IfErr r P → ((why : E) → P why → Q why) → IfErr r Q
last_err (Ok x) p f = p
last_err (Err e) p f = f e p
