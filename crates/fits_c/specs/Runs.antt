-- What private functions of a run keep to.
use Rattle.std.specs.Prelude.{◌≡◌, ◌⊎◌, ℕ, List, Option}
use Rattle.fits_tell.specs.declared.fault.Fault.{Fault}
use Rattle.fits_c.specs.Message.{message_of}
use Rattle.fits_c.specs.declared.outcome.Outcome.{Outcome}

-- an outcome has what a run made that ended so
pub record HasMade (status : ℕ) (fault : Option Fault) (answers saved : List ℕ) (it : Outcome) : Type 0 where
  pub status_is : it.status ≡ status
  pub answers_are : it.answers.items ≡ answers
  pub saved_is : it.saved.items ≡ saved
  pub message_is : it.message.items ≡ message_of fault

-- it does, or memory was refused
abbrev pub IsOutcomeOf : ℕ → Option Fault → List ℕ → List ℕ → Outcome → Type 0
IsOutcomeOf status fault answers saved it = (it.status ≡ 3) ⊎ HasMade status fault answers saved it
