-- What C is given of an outcome (own).
use Rattle.std.specs.Prelude.{◌≡◌, ◌⊎◌, ℕ, IsSome, Some, vec_len}
use Rattle.std.specs.declared.alloc.Global.{Global}
use Rattle.std.specs.declared.vec.Vec.{Vec}
use Rattle.std_alloc.specs.Vec.{vec_ptr}
use Rattle.fits_c.specs.declared.bytes.Bytes.{Bytes}
use Rattle.fits_c.specs.declared.given.Given.{Given}
use Rattle.fits_c.specs.declared.numbers.Numbers.{Numbers}
use Rattle.fits_c.specs.declared.outcome.Outcome.{Outcome}
use Rattle.fits_c.specs.declared.outcome_handle.OutcomeHandle.{OutcomeHandle}

-- this is where a text lies, and how many bytes it has
pub record LieIn (bytes : Bytes) (text : Vec ℕ Global) : Type 0 where
  pub at : bytes.at ≡ vec_ptr text
  pub len : bytes.len ≡ vec_len text

-- the same of numbers
pub record NumbersLieIn (numbers : Numbers) (list : Vec ℕ Global) : Type 0 where
  pub at : numbers.at ≡ vec_ptr list
  pub len : numbers.len ≡ vec_len list

-- a handle holds an outcome
abbrev pub IsHandleOf : OutcomeHandle → Type 0
IsHandleOf held = IsSome held.outcome

-- this is the handle of an outcome, and this is where its texts lie
pub record Shows (given : Given) (outcome : Outcome) : Type 0 where
  pub held : given.held.outcome ≡ Some outcome
  pub answers : LieIn given.answers outcome.answers
  pub saved : LieIn given.saved outcome.saved
  pub message : LieIn given.message outcome.message

-- an outcome is given of which this is so, with its status, which isn't 3; or the status is 3, and nothing is given
abbrev pub Gives : (Outcome → Type 0) → ℕ → Given → Given → Type 0
Gives Is status old new =
    ((status ≡ 3) × (new ≡ old)) ⊎ ((outcome : Outcome) × (status ≡ outcome.status) × (status ≡ 3 → ⊥) × Shows new outcome × Is outcome)
