-- Where tables are kept: what a command comes to that keeps their columns is what it comes to elsewhere.
use Rattle.std.proofs.Common.{◌≡◌, ℕ, Bool, true, false, List, [], Option, None, Some, Result, Ok, Err, refl, ap, sym, subst, ◌∙◌}
use Rattle.fits_edit.specs.declared.edit.Edit.{Edit as SessionEdit}
use Rattle.fits_edit.specs.declared.edit.Edit.TheVariants.{Hdu, NewImage, RemoveHdu}
use Rattle.fits_making.specs.declared.refusal.Refusal.{Refusal}
use Rattle.fits_making.specs.declared.refusal.Refusal.TheVariants.{NoHdu, NoCard, NoKey, BadText, EndCard, Shape as OtherShape, BadName, BadValue, NotImage, BadRect, WrongCount, Range, PrimaryStays, TooLarge, Memory}
use Rattle.fits_passing.specs.declared.verdicts.Verdicts.{Verdicts}
use Rattle.fits_session.specs.Marked.{guarded, is_stamped_after, kept_in, marked_after, marked_refusal, Marked}
use Rattle.fits_session.specs.Query.{datasum_in, positions_in, rect_in, stats_in, value_in, verdicts_in}
use Rattle.fits_session.specs.Refusal.{EditNeedsMemory}
use Rattle.fits_session.proofs.GuardLemmas.{free_edit}
use Rattle.fits_tell.specs.PixelLines.{statistics_line, sums_line, values_line}
use Rattle.fits_script.specs.declared.command.Command.{Command}
use Rattle.fits_script.specs.declared.command.Command.TheVariants.{Nothing, Edit, Offsets, Get, Positions, Report, Statistics, Rectangle, Sums, Kept}
use Rattle.fits_cli.specs.Answer.{asked, keeps_tables, kept_line, outcome_of, places_line, some_places, sums_asked, unless, CommandFails, Done, OutcomeNeedsMemory}
use Rattle.fits_cli.specs.ValueLine.{value_line}
use Rattle.fits_cli.proofs.RefusalLemmas.{CommandFails-by}

-- what was done, where tables are kept or not
abbrev pub guarded_done : Bool → Done → Done
guarded_done tables done = record { text = done.text; left = guarded tables done.left }

-- the same of an outcome
abbrev pub guarded_outcome : Bool → Result Done Refusal → Result Done Refusal
guarded_outcome tables (Ok done) = Ok (guarded_done tables done)
guarded_outcome tables (Err why) = Err why

-- an answer leaves the file
asked_guarded : {X : Type 0} (tables : Bool) (it : Marked) (text : X → List ℕ) (answer : Result X Refusal) → asked (guarded tables it) text answer ≡ guarded_outcome tables (asked it text answer)
asked_guarded tables it text (Ok answer) = refl
asked_guarded tables it text (Err why) = refl

-- so do two
sums_guarded : (tables : Bool) (it : Marked) (sum : Result ℕ Refusal) (verdicts : Result Verdicts Refusal) → sums_asked (guarded tables it) sum verdicts ≡ guarded_outcome tables (sums_asked it sum verdicts)
sums_guarded tables it (Err why) verdicts = refl
sums_guarded tables it (Ok sum) verdicts = asked_guarded tables it (sums_line sum) verdicts

-- an edit leaves the same file
pub after_guarded : (tables : Bool) (it : Marked) (edit : SessionEdit) → marked_after (guarded tables it) edit ≡ guarded tables (marked_after it edit)
unfolding marked_after
after_guarded tables it (Hdu h edit) = refl
after_guarded tables it (NewImage at kind axes) = refl
after_guarded tables it (RemoveHdu h) = refl

-- or its refusal
unless_guarded : (tables : Bool) (refused : Option Refusal) (done : Done) → unless refused (guarded_done tables done) ≡ guarded_outcome tables (unless refused done)
unless_guarded tables None done = refl
unless_guarded tables (Some why) done = refl

-- an edit that keeps columns comes to what it does where none are kept
edit_guarded : (tables : Bool) (it : Marked) (edit : SessionEdit) → keeps_tables tables it.file (Edit edit) ≡ true → outcome_of (guarded tables it) (Edit edit) ≡ guarded_outcome tables (outcome_of (guarded false it) (Edit edit))
unfolding outcome_of
edit_guarded tables it edit free =
    let done : Done = record { text = []; left = marked_after (guarded false it) edit } in
    ap (λ refused. unless refused (record { text = []; left = marked_after (guarded tables it) edit })) (free_edit tables it edit free)
    ∙ (ap (λ left. unless (marked_refusal (guarded false it) edit) (record { text = []; left = left })) (after_guarded tables it edit ∙ sym (ap (guarded tables) (after_guarded false it edit)))
    ∙ unless_guarded tables (marked_refusal (guarded false it) edit) done)

-- so does any command
pub free_outcome : (tables : Bool) (it : Marked) (command : Command) → keeps_tables tables it.file command ≡ true → outcome_of (guarded tables it) command ≡ guarded_outcome tables (outcome_of (guarded false it) command)
unfolding outcome_of
free_outcome tables it Nothing free = refl
free_outcome tables it (Edit edit) free = edit_guarded tables it edit free
free_outcome tables it Offsets free = refl
free_outcome tables it (Get hdu name) free = asked_guarded tables (guarded false it) (λ said. value_line said.0 said.1) (value_in it.file hdu name)
free_outcome tables it (Positions hdu name) free = asked_guarded tables (guarded false it) places_line (some_places (positions_in it.file hdu name))
free_outcome tables it Report free = refl
free_outcome tables it (Statistics hdu) free = asked_guarded tables (guarded false it) statistics_line (stats_in it.file hdu)
free_outcome tables it (Rectangle hdu lo hi) free = asked_guarded tables (guarded false it) values_line (rect_in it.file hdu lo hi)
free_outcome tables it (Sums hdu) free = sums_guarded tables (guarded false it) (datasum_in it.file hdu) (verdicts_in it.file hdu)
free_outcome tables it (Kept hdu) free = asked_guarded tables (guarded false it) kept_line (kept_in it hdu)

-- what is done is done
pub free_done : (tables : Bool) (it left : Marked) (command : Command) (text : List ℕ) → keeps_tables tables it.file command ≡ true → outcome_of (guarded false it) command ≡ Ok (record { text = text; left = left }) → outcome_of (guarded tables it) command ≡ Ok (record { text = text; left = guarded tables left })
free_done tables it left command text free done = free_outcome tables it command free ∙ ap (guarded_outcome tables) done

-- memory may run out where it may elsewhere
free_needs : (tables : Bool) (it : Marked) (command : Command) → keeps_tables tables it.file command ≡ true → OutcomeNeedsMemory (guarded false it) command → OutcomeNeedsMemory (guarded tables it) command
unfolding OutcomeNeedsMemory
free_needs tables it Nothing free needs = needs
free_needs tables it (Edit edit) free needs = subst (EditNeedsMemory (is_stamped_after it.kept edit) edit) (sym (free_edit tables it edit free)) needs
free_needs tables it Offsets free needs = needs
free_needs tables it (Get hdu name) free needs = needs
free_needs tables it (Positions hdu name) free needs = needs
free_needs tables it Report free needs = needs
free_needs tables it (Statistics hdu) free needs = needs
free_needs tables it (Rectangle hdu lo hi) free needs = needs
free_needs tables it (Sums hdu) free needs = needs
free_needs tables it (Kept hdu) free needs = needs

-- a command that fails, and not by memory, has that refusal
pub fails_refused : (it : Marked) (command : Command) (why : Refusal) → CommandFails it command why → (why ≡ Memory → ⊥) → outcome_of it command ≡ Err why
fails_refused it command Memory fails other = absurd (other refl)
fails_refused it command NoHdu fails other = fails
fails_refused it command NoCard fails other = fails
fails_refused it command NoKey fails other = fails
fails_refused it command BadText fails other = fails
fails_refused it command EndCard fails other = fails
fails_refused it command OtherShape fails other = fails
fails_refused it command BadName fails other = fails
fails_refused it command BadValue fails other = fails
fails_refused it command NotImage fails other = fails
fails_refused it command BadRect fails other = fails
fails_refused it command WrongCount fails other = fails
fails_refused it command Range fails other = fails
fails_refused it command PrimaryStays fails other = fails
fails_refused it command TooLarge fails other = fails

-- so one that fails elsewhere fails
pub free_fails : (tables : Bool) (it : Marked) (command : Command) (why : Refusal) → keeps_tables tables it.file command ≡ true → CommandFails (guarded false it) command why → CommandFails (guarded tables it) command why
free_fails tables it command why free fails =
    CommandFails-by (guarded tables it) command why
    (λ memory. free_needs tables it command free (subst (CommandFails (guarded false it) command) memory fails))
    (λ other. free_outcome tables it command free ∙ ap (guarded_outcome tables) (fails_refused (guarded false it) command why fails other))
