-- What a line comes to in the program, and what is printed of it.
use Rattle.std.specs.Prelude.{ℕ, Bool, true, false, List, [], ◌++◌, codes, Result, Ok, Err, alloc_error}
use Rattle.std.specs.Fmt.{decimal}
use Rattle.std.specs.declared.alloc.AllocError.{AllocError}
use Rattle.std.specs.declared.alloc.Global.{Global}
use Rattle.std.specs.declared.vec.Vec.{Vec}
use Rattle.fits_making.specs.declared.refusal.Refusal.{Refusal as SessionRefusal}
use Rattle.fits_making.specs.declared.refusal.Refusal.TheVariants.{Memory}
use Rattle.fits_making.specs.Refusal.{refusal_text}
use Rattle.fits_extended.specs.Stands.{unmet_text}
use Rattle.fits_cli.specs.Answer.{complaint}
use Rattle.fits_cli.specs.declared.clues.Clues.{Clues}
use Rattle.fits_cli.specs.declared.reply.Reply.{Reply}
use Rattle.fits_cli.specs.declared.reply.Reply.TheVariants.{Done, Refused, TooLong, NoCommand, Unmet}

-- what is printed of line `number`
abbrev pub reply_text : ℕ → Reply → List ℕ
reply_text number (Done text) = text.items
reply_text number (Refused why clues) = complaint number (refusal_text why)
reply_text number TooLong = complaint number (codes "too long")
reply_text number (NoCommand misfit) = complaint number (codes "not a command")
reply_text number (Unmet why) = complaint number (unmet_text why)

-- the line was refused or bad
abbrev pub counts_as_refused : Reply → Bool
counts_as_refused (Done text) = false
counts_as_refused (Refused why clues) = true
counts_as_refused TooLong = true
counts_as_refused (NoCommand misfit) = true
counts_as_refused (Unmet why) = true

-- what the outcome of a command with these clues is to its line: out of memory alone ends the run
abbrev pub settled : Clues → Result (Vec ℕ Global) SessionRefusal → Result Reply AllocError
settled clues (Ok text) = Ok (Done text)
settled clues (Err Memory) = Err alloc_error
settled clues (Err why) = Ok (Refused why clues)

-- what is printed of a query of HDU h among those of others: the number of the HDU and its answer, or nothing where it is refused
abbrev pub numbered_reply : ℕ → Reply → List ℕ
numbered_reply h (Done text) = decimal h ++ (codes " " ++ text.items)
numbered_reply h (Refused why clues) = []
numbered_reply h TooLong = []
numbered_reply h (NoCommand misfit) = []
numbered_reply h (Unmet why) = []
