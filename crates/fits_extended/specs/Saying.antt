-- What queries answer, with memory's refusal apart.
use Rattle.std.specs.Prelude.{Result, Ok, Err, alloc_error}
use Rattle.std.specs.declared.alloc.AllocError.{AllocError}
use Rattle.fits_making.specs.declared.refusal.Refusal.{Refusal}
use Rattle.fits_making.specs.declared.refusal.Refusal.TheVariants.{Memory}

-- what is answered, unless that memory was refused
abbrev pub settled : {X : Type 0} → Result X Refusal → Result (Result X Refusal) AllocError
settled (Ok said) = Ok (Ok said)
settled (Err Memory) = Err alloc_error
settled (Err why) = Ok (Err why)
