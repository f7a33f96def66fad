-- What a run over bytes in memory comes to (own).
use Rattle.std.specs.Prelude.{◌≡◌, ◌⊎◌, ◌==◌, ℕ, false, true, if◌then◌else◌, List, [], ◌∷◌, ◌++◌, Option, Some, None}
use Rattle.fits_stream.specs.Stream.{SourceState}
use Rattle.fits_passing.specs.File.{FileParts, IsFileOf}
use Rattle.fits_passing.specs.Headers.{ShowsHeaders}
use Rattle.fits_passing.specs.Opening.{HasOpenFault}
use Rattle.fits_passing.specs.declared.open_fault.OpenFault.{OpenFault}
use Rattle.fits_tell.specs.declared.asked_hdu.AskedHdu.{AskedHdu}
use Rattle.fits_tell.specs.declared.asked_hdu.AskedHdu.TheVariants.{Number}
use Rattle.fits_tell.specs.Cards.{all_chosen, cards_text, end_of_cards}
use Rattle.fits_tell.specs.Telling.{text_of, status_of_text}
use Rattle.fits_tell.specs.declared.card_choice.CardChoice.{CardChoice}
use Rattle.fits_tell.specs.declared.fault.Fault.{Fault}
use Rattle.fits_tell.specs.declared.telling.Telling.{Telling}
use Rattle.fits_cli.specs.Output.{Output, IsOutputOf}
use Rattle.fits_cli.specs.Reports.{new_lines, AreReportsOf, HasMore, Reports}
use Rattle.fits_cli.specs.Terms.{check_of, holds_back}
use Rattle.fits_cli.specs.declared.saves.Saves.{Saves}
use Rattle.fits_cli.specs.declared.saves.Saves.TheVariants.{Made, Nothing}
use Rattle.fits_cli.specs.declared.terms.Terms.{Terms}
use Rattle.fits_c.specs.Message.{fault_text, message_of, opening_text}
use Rattle.fits_c.specs.declared.outcome.Outcome.{Outcome}

-- bytes of the caller as a source: no call of it fails
abbrev pub source_of : List ℕ → SourceState
source_of bytes = record { remaining = Some bytes; log = None; failures = 0 }

-- the file that is given, where one is wanted
abbrev pub saved_by : Saves → Output → List ℕ
saved_by Nothing output = []
saved_by (Made whole check) output = output.saved

-- nothing keeps the result back
pub record IsSaved (saves : Saves) (output : Output) (before after : Reports) (it : Outcome) : Type 0 where
  pub due : holds_back saves output.undone ≡ false
  pub sound : HasMore (check_of saves) before after → ⊥
  pub answers_are : it.answers.items ≡ output.text
  pub saved_is : it.saved.items ≡ saved_by saves output
  pub status_is : it.status ≡ output.status

-- a line wasn't done, and every one was to be: no file is given
pub record IsHeldBack (saves : Saves) (output : Output) (it : Outcome) : Type 0 where
  pub kept : holds_back saves output.undone ≡ true
  pub answers_are : it.answers.items ≡ output.text
  pub saved_is : it.saved.items ≡ []
  pub status_is : it.status ≡ 1

-- there are more problems of a code that counts: their lines follow the answers, and no file is given
pub record HasNewErrors (saves : Saves) (output : Output) (before after : Reports) (it : Outcome) : Type 0 where
  pub done : holds_back saves output.undone ≡ false
  pub more : HasMore (check_of saves) before after
  pub answers_are : it.answers.items ≡ output.text ++ new_lines (check_of saves) before after
  pub saved_is : it.saved.items ≡ []
  pub status_is : it.status ≡ 1

-- the script was answered to its end; what becomes of the result is up to its lines and to the reports of the file and of what the
-- script makes of it
pub record IsDone (terms : Terms) (file : List ℕ) (output : Output) (it : Outcome) : Type 0 where
  pub whole : output.fault ≡ None
  pub before : Reports
  pub after : Reports
  pub before_is : AreReportsOf terms.tables before file
  pub after_is : AreReportsOf terms.tables after output.made
  pub ends : IsSaved terms.saves output before after it ⊎ (IsHeldBack terms.saves output it ⊎ HasNewErrors terms.saves output before after it)
  pub message_is : it.message.items ≡ []

-- a fault of the file or of the script ended it: the answers before it are given, and why
pub record IsStopped (output : Output) (it : Outcome) : Type 0 where
  pub why : Fault
  pub fault_is : output.fault ≡ Some why
  pub answers_are : it.answers.items ≡ output.text
  pub saved_is : it.saved.items ≡ []
  pub message_is : it.message.items ≡ fault_text why
  pub status_is : it.status ≡ 2

-- an outcome is that of the output of the file and the script
pub record IsEdited (terms : Terms) (file script : List ℕ) (it : Outcome) : Type 0 where
  pub output : Output
  pub is : IsOutputOf terms file script output
  pub ends : IsDone terms file output it ⊎ IsStopped output it

-- a run of `edit` or `ask` comes to that, or memory was refused and its status is 3
abbrev pub EditComesTo : Terms → List ℕ → List ℕ → Outcome → Type 0
EditComesTo terms file script it = (it.status ≡ 3) ⊎ IsEdited terms file script it

-- the file opens, and its text is given
pub record IsTold (kind : Telling) (file : List ℕ) (it : Outcome) : Type 0 where
  pub parts : FileParts
  pub opens : IsFileOf file parts
  pub answers_are : it.answers.items ≡ text_of kind parts
  pub saved_is : it.saved.items ≡ []
  pub message_is : it.message.items ≡ []
  pub status_is : it.status ≡ status_of_text kind parts

-- the file doesn't open, and nothing is given but why
pub record IsNotOpened (file : List ℕ) (it : Outcome) : Type 0 where
  pub why : OpenFault
  pub fails : HasOpenFault file why
  pub answers_are : it.answers.items ≡ []
  pub saved_is : it.saved.items ≡ []
  pub message_is : it.message.items ≡ opening_text why
  pub status_is : it.status ≡ 2

-- a run that tells a text of a file comes to that, or memory was refused and its status is 3
abbrev pub TellComesTo : Telling → List ℕ → Outcome → Type 0
TellComesTo kind file it = (it.status ≡ 3) ⊎ (IsTold kind file it ⊎ IsNotOpened file it)

-- HDU h alone, or all at 0
abbrev pub only : ℕ → List AskedHdu
only h = if h == 0 then [] else Number h ∷ []

-- the cards of the headers that the bytes have are given: those of one HDU, or of all
pub record AreCardsOf (h : ℕ) (file : List ℕ) (it : Outcome) : Type 0 where
  pub choice : CardChoice
  pub hdus : choice.hdus.items ≡ only h
  pub names : choice.names.items ≡ []
  pub headers : List (List (List ℕ))
  pub why : Option OpenFault
  pub read : SourceState
  pub shows : ShowsHeaders (source_of file) read headers why
  pub answers_are : it.answers.items ≡ cards_text choice headers
  pub saved_is : it.saved.items ≡ []
  pub message_is : it.message.items ≡ message_of (end_of_cards choice (all_chosen choice headers) why).fault
  pub status_is : it.status ≡ (end_of_cards choice (all_chosen choice headers) why).status

-- a run of `cards` comes to them, or memory was refused and its status is 3
abbrev pub CardsComeTo : ℕ → List ℕ → Outcome → Type 0
CardsComeTo h file it = (it.status ≡ 3) ⊎ AreCardsOf h file it
