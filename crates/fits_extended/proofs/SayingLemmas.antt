-- What queries answer, with memory's refusal apart.
use Rattle.std.proofs.Common.{◌≡◌, Result, Ok, Err}
use Rattle.std.specs.Prelude.{IfErr, IfOk}
use Rattle.fits_session.specs.Query.{QueryFails}
use Rattle.fits_making.specs.declared.refusal.Refusal.{Refusal}
use Rattle.fits_making.specs.declared.refusal.Refusal.TheVariants.{NoHdu, NoCard, NoKey, BadText, EndCard, Shape as OtherShape, BadName, BadValue, NotImage, BadRect, WrongCount, Range, PrimaryStays, TooLarge, Memory}
use Rattle.fits_extended.specs.Saying.{settled}

-- what a query answers, memory apart, is its answer in the file
pub settled_value : {X : Type 0} (answer here : Result X Refusal) → IfOk answer (λ said. here ≡ Ok said) → IfErr answer (QueryFails here) → IfOk (settled answer) (λ said. here ≡ said)
settled_value (Ok said) here ok err = ok
settled_value (Err Memory) here ok err = tt
settled_value (Err NoHdu) here ok err = err
settled_value (Err NoCard) here ok err = err
settled_value (Err NoKey) here ok err = err
settled_value (Err BadText) here ok err = err
settled_value (Err EndCard) here ok err = err
settled_value (Err OtherShape) here ok err = err
settled_value (Err BadName) here ok err = err
settled_value (Err BadValue) here ok err = err
settled_value (Err NotImage) here ok err = err
settled_value (Err BadRect) here ok err = err
settled_value (Err WrongCount) here ok err = err
settled_value (Err Range) here ok err = err
settled_value (Err PrimaryStays) here ok err = err
settled_value (Err TooLarge) here ok err = err
