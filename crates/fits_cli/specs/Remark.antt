-- What is said of the lines that weren't done, where that is asked for (own).
use Rattle.std.specs.Prelude.{◌≡◌, ℕ, ◌≤◌, List, [], ◌∷◌, ◌++◌, codes, Option, Some, None, Result, Ok, Err, if◌then◌else◌}
use Rattle.std.specs.Char.{is_ascii_lowercase}
use Rattle.std.specs.List.{list_any}
use Rattle.std.specs.Result.{result_err}
use Rattle.fits_stream.specs.Stream.{Gains, SinkState}
use Rattle.fits_value.specs.Unwritable.{writable}
use Rattle.fits_value.specs.declared.unwritable.Unwritable.{Unwritable}
use Rattle.fits_session.specs.Marked.{Marked}
use Rattle.fits_making.specs.Refusal.{refusal_text}
use Rattle.fits_edit.specs.declared.card_edit.CardEdit.{CardEdit}
use Rattle.fits_edit.specs.declared.card_edit.CardEdit.TheVariants.{Set, Unset}
use Rattle.fits_edit.specs.declared.edit.Edit.{Edit as FileEdit}
use Rattle.fits_edit.specs.declared.edit.Edit.TheVariants.{Hdu}
use Rattle.fits_edit.specs.declared.hdu_edit.HduEdit.{HduEdit}
use Rattle.fits_edit.specs.declared.hdu_edit.HduEdit.TheVariants.{Cards}
use Rattle.fits_making.specs.declared.refusal.Refusal.{Refusal}
use Rattle.fits_making.specs.declared.refusal.Refusal.TheVariants as refusal
use Rattle.fits_script.specs.Line.{reading_of}
use Rattle.fits_script.specs.Misfit.{ends_in_return}
use Rattle.fits_script.specs.Wording.{misfit_text, unwritable_text}
use Rattle.fits_script.specs.declared.command.Command.{Command}
use Rattle.fits_script.specs.declared.command.Command.TheVariants.{Edit, Get, Positions}
use Rattle.fits_script.specs.declared.line_reading.LineReading.{LineReading}
use Rattle.fits_script.specs.declared.line_reading.LineReading.TheVariants.{TooLong, NoCommand, Said}
use Rattle.fits_extended.specs.Stands.{unmet_text}
use Rattle.fits_extended.specs.declared.unmet.Unmet.{Unmet}
use Rattle.fits_extended.specs.declared.unmet.Unmet.TheVariants as unmet
use Rattle.fits_cli.specs.Answer.{Done, Meant, in_turn, of_each, of_none, Standing, all_refused, asked_again, complaint, done_last, left_after, line_stands, outcome_of}
use Rattle.fits_cli.specs.declared.clues.Clues.{Clues}
use Rattle.fits_cli.specs.declared.reason.Reason.{Reason}
use Rattle.fits_cli.specs.declared.reason.Reason.TheVariants.{CarriageReturn, SmallLetters, Unwritten, Plain}
use Rattle.fits_cli.specs.declared.reply.Reply.{Reply}
use Rattle.fits_cli.specs.declared.reply.Reply.TheVariants as reply

-- a command that tells nothing of why it may be refused, and one that tells a keyword name alone
abbrev pub no_clues : Clues
no_clues = record { name = None; unwritable = None }

abbrev pub name_alone : List ℕ → Clues
name_alone name = record { name = Some name; unwritable = None }

-- what an edit of cards tells: the name of the keyword, and why what it gives it can't be written
abbrev pub clues_of_cards : CardEdit → Clues
clues_of_cards (Set name value comment) = record { name = Some name; unwritable = result_err (writable value comment) }
clues_of_cards (Unset name) = name_alone name
clues_of_cards edit = no_clues

-- the same of an edit of an HDU, and of any edit
abbrev pub clues_of_hdu : HduEdit → Clues
clues_of_hdu (Cards edit) = clues_of_cards edit
clues_of_hdu edit = no_clues

abbrev pub clues_of_edit : FileEdit → Clues
clues_of_edit (Hdu hdu edit) = clues_of_hdu edit
clues_of_edit edit = no_clues

-- the same of any command
unfoldable pub clues_of : Command → Clues
clues_of (Get hdu name) = name_alone name
clues_of (Positions hdu name) = name_alone name
clues_of (Edit edit) = clues_of_edit edit
clues_of command = no_clues

-- a keyword name with a small letter is none (4.1.2.1)
abbrev pub name_reason : Option (List ℕ) → Reason
name_reason None = Plain
name_reason (Some name) = if list_any is_ascii_lowercase name then SmallLetters else Plain

-- what can't be written
abbrev pub value_reason : Option Unwritable → Reason
value_reason None = Plain
value_reason (Some why) = Unwritten why

-- a carriage return at the end of a line is a byte of its name or its card; where it has none, this
abbrev pub unless_returned : List ℕ → Reason → Reason
unless_returned line reason = if ends_in_return line then CarriageReturn else reason

-- what a refusal comes from, as far as the line tells
unfoldable pub reason_of : List ℕ → Clues → Refusal → Reason
reason_of line clues refusal.NoKey = unless_returned line (name_reason clues.name)
reason_of line clues refusal.BadName = unless_returned line (name_reason clues.name)
reason_of line clues refusal.BadText = unless_returned line Plain
reason_of line clues refusal.BadValue = value_reason clues.unwritable
reason_of line clues why = Plain

-- what a refusal says in words
abbrev pub plain_text : Refusal → List ℕ
plain_text refusal.NoHdu = codes "the number of the HDU is 0 or too great"
plain_text refusal.NoCard = codes "a place is 0 or too great"
plain_text refusal.NoKey = codes "no card of this name has a value"
plain_text refusal.BadText = codes "a byte of the card is no character of text"
plain_text refusal.EndCard = codes "the card is named END"
plain_text refusal.Shape = codes "the cards wouldn't describe the data"
plain_text refusal.BadName = codes "not the name of a keyword with a value"
plain_text refusal.BadValue = codes "its card can't be read"
plain_text refusal.NotImage = codes "the HDU is no image of integers"
plain_text refusal.BadRect = codes "the rectangle isn't lo:hi in each axis"
plain_text refusal.WrongCount = codes "more or fewer values than pixels"
plain_text refusal.Range = codes "a value that no pixel of this kind can have"
plain_text refusal.PrimaryStays = codes "the primary HDU stays where it is"
plain_text refusal.TooLarge = codes "the file would pass a limit"
plain_text refusal.Memory = codes "out of memory"

-- what it comes from in words
abbrev pub reason_text : Refusal → Reason → List ℕ
reason_text why CarriageReturn = codes "a carriage return at the end"
reason_text why SmallLetters = codes "keyword names have capital letters"
reason_text why (Unwritten it) = unwritable_text it
reason_text why Plain = plain_text why

-- a refusal in words, and what it comes from
abbrev pub refused_text : Refusal → Reason → List ℕ
refused_text why reason = refusal_text why ++ (codes ": " ++ reason_text why reason)

-- what is said of a line that stands for no plain line, since what it wants isn't so
abbrev pub unmet_words : Unmet → List ℕ
unmet_words unmet.Exists = codes "a keyword of the new name has a value"
unmet_words unmet.Other = codes "the file isn't as the line wants it"

abbrev pub unmet_remark : Unmet → List ℕ
unmet_remark why = unmet_text why ++ (codes ": " ++ unmet_words why)

-- what is said of a line that is past the limit
abbrev pub long_text : List ℕ
long_text = codes "a line has at most 100000 bytes"

-- the remark on a line in words, by what it comes to
unfoldable pub remark_by : List ℕ → Reply → Option (List ℕ)
remark_by line (reply.Done text) = None
remark_by line (reply.Refused why clues) = Some (refused_text why (reason_of line clues why))
remark_by line reply.TooLong = Some long_text
remark_by line (reply.NoCommand misfit) = Some (misfit_text misfit)
remark_by line (reply.Unmet why) = Some (unmet_remark why)

-- the remark on a command that was refused
abbrev pub outcome_remark : List ℕ → Command → Result Done Refusal → Option (List ℕ)
outcome_remark line command (Ok done) = None
outcome_remark line command (Err why) = Some (refused_text why (reason_of line (clues_of command) why))

-- the remark on a line, in a file with these marks: there is one unless it was done
unfoldable pub remark_on : Marked → List ℕ → LineReading → Option (List ℕ)
remark_on it line TooLong = Some long_text
remark_on it line (NoCommand misfit) = Some (misfit_text misfit)
remark_on it line (Said command) = outcome_remark line command (outcome_of it command)

-- the words of a remark, if there is one
abbrev pub words_of : Option (List ℕ) → List ℕ
words_of None = []
words_of (Some text) = text

-- a remark on line `number`, as it is said
abbrev pub remark_line : ℕ → Option (List ℕ) → List ℕ
remark_line number None = []
remark_line number (Some text) = complaint number text

-- what is said of a plain line
unfoldable pub line_remark : Standing → List ℕ → List ℕ
line_remark standing line = remark_line standing.line (remark_on standing.marked line (reading_of line))

-- what is said of plain lines that one line stands for: what is of the last of them that is done
abbrev pub plain_remark : Standing × List ℕ → List ℕ
plain_remark last = line_remark last.0 last.1

-- what is said of queries of each HDU: nothing, unless each is refused
abbrev pub each_remark : Standing → List (List ℕ) → List ℕ
each_remark standing plains = if all_refused standing plains then plain_remark (asked_again standing plains) else []

-- what is said of what a line stands for
abbrev pub remark_of : Standing → Meant → List ℕ
remark_of standing (in_turn plains) = plain_remark (done_last standing plains)
remark_of standing (of_each plains) = each_remark standing plains
remark_of standing (of_none why) = complaint standing.line (unmet_remark why)

-- what is said of a line, whatever it stands for
unfoldable pub remark_to : Standing → List ℕ → List ℕ
remark_to standing line = remark_of standing (line_stands standing line)

-- what is said of lines, one after another
unfoldable pub remarks : Standing → List (List ℕ) → List ℕ
remarks standing [] = []
remarks standing (line ∷ lines) = remark_to standing line ++ remarks (left_after standing line) lines

-- a text was written to a sink and passed on, as far as no call failed: one that does loses some of it, and ends nothing
pub record IsSaid (text : List ℕ) (old new : SinkState) : Type 0 where
  pub later : old.failures ≤ new.failures
  pub bytes : new.failures ≡ old.failures → Gains old.contents new.contents text
  pub flushed : new.failures ≡ old.failures → old.unflushed ≡ 0 → new.unflushed ≡ 0

-- the same where remarks may go nowhere
abbrev pub Remarks : List ℕ → Option SinkState → Option SinkState → Type 0
Remarks text None None = Unit {0}
Remarks text None (Some new) = ⊥
Remarks text (Some old) None = ⊥
Remarks text (Some old) (Some new) = IsSaid text old new
