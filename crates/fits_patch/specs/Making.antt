-- What a script makes of a file of which no HDU is kept stamped, if it is accepted whole (own).
use Rattle.std.specs.Prelude.{◌≡◌, ◌==◌, ℕ, List, [], ◌∷◌, Option, Some, None, Result, Ok, Err}
use Rattle.std.specs.List.{slice_split}
use Rattle.fits_passing.specs.File.{FileParts}
use Rattle.fits_passing.specs.Headers.{cards_of}
use Rattle.fits_session.specs.Marked.{marked_after, marked_refusal, Marked, unmarked}
use Rattle.fits_edit.specs.declared.edit.Edit.{Edit}
use Rattle.fits_edit.specs.declared.edit.Edit.TheVariants.{Hdu}
use Rattle.fits_edit.specs.declared.hdu_edit.HduEdit.TheVariants.{Cards}
use Rattle.fits_making.specs.declared.refusal.Refusal.{Refusal}
use Rattle.fits_script.specs.Line.{reading_of}
use Rattle.fits_script.specs.declared.command.Command.TheVariants as command
use Rattle.fits_script.specs.declared.line_reading.LineReading.{LineReading}
use Rattle.fits_script.specs.declared.line_reading.LineReading.TheVariants.{Said}

-- what is made, or the first line that isn't accepted and its refusal, where it says an edit
abbrev pub Made : Type 0
Made = Result Marked (List ℕ × Option Refusal)

-- what an edit leaves, unless it is refused
abbrev pub left_unless : Marked → List ℕ → Edit → Option Refusal → Made
left_unless it line edit None = Ok (marked_after it edit)
left_unless it line edit (Some why) = Err (line, Some why)

-- the same of an edit that a line says
abbrev pub edit_made : Marked → List ℕ → Edit → Made
edit_made it line edit = left_unless it line edit (marked_refusal it edit)

-- what a line leaves that says an edit of cards which isn't refused there, or that nothing is to be done
abbrev pub line_made : Marked → List ℕ → LineReading → Made
line_made it line (Said (command.Edit (Hdu h (Cards edit)))) = edit_made it line (Hdu h (Cards edit))
line_made it line (Said command.Nothing) = Ok it
line_made it line reading = Err (line, None)

-- what follows from what is made
abbrev pub made_then : Made → (Marked → Made) → Made
made_then (Ok it) next = next it
made_then (Err stop) next = Err stop

-- what lines leave, each run over what those before it left
abbrev pub lines_made : Marked → List (List ℕ) → Made
lines_made it [] = Ok it
lines_made it (line ∷ lines) = made_then (line_made it line (reading_of line)) (λ next. lines_made next lines)

-- the lines of a script: its parts between line feeds
abbrev pub lines_of : List ℕ → List (List ℕ)
lines_of script = slice_split (λ byte. byte == 10) script

-- what a script makes of a file
abbrev pub script_made : FileParts → List ℕ → Made
script_made file script = lines_made (unmarked file) (lines_of script)

-- run over a file, a script is accepted whole, and these are the cards of its HDUs then
pub record MakesCards (file : FileParts) (script : List ℕ) (cards : List (List (List ℕ))) : Type 0 where
  pub end : Marked
  pub accepted : script_made file script ≡ Ok end
  pub are : cards_of end.file.hdus ≡ cards
