-- What an edit's or a query's refusal makes of its command.
use Rattle.std.proofs.Common.{◌≡◌, ap, ◌∙◌, inl, inr, refl, Result, Err, Some}
use Rattle.std.specs.Prelude.{IsOk}
use Rattle.fits_session.specs.Marked.{Marked, is_stamped_after, marked_refusal}
use Rattle.fits_session.specs.Query.{QueryFails}
use Rattle.fits_session.specs.Refusal.{EditNeedsMemory}
use Rattle.fits_making.specs.Refusal.{Fails}
use Rattle.fits_edit.specs.declared.edit.Edit.{Edit}
use Rattle.fits_making.specs.declared.refusal.Refusal.{Refusal}
use Rattle.fits_making.specs.declared.refusal.Refusal.TheVariants.{NoHdu, NoCard, NoKey, BadText, EndCard, Shape as OtherShape, BadName, BadValue, NotImage, BadRect, WrongCount, Range, PrimaryStays, TooLarge, Memory}
use Rattle.fits_session.proofs.RefusalLemmas.{never_memory}
use Rattle.fits_cli.specs.Answer.{outcome_of, OutcomeNeedsMemory, CommandFails}
use Rattle.fits_script.specs.declared.command.Command.{Command}
use Rattle.fits_script.specs.declared.command.Command.TheVariants as command

-- a command fails by memory where that may run out, and by another refusal where that is its outcome
pub CommandFails-by : (it : Marked) (command : Command) (why : Refusal) → (why ≡ Memory → OutcomeNeedsMemory it command) → ((why ≡ Memory → ⊥) → outcome_of it command ≡ Err why) → CommandFails it command why
CommandFails-by it command Memory memory refused = memory refl
CommandFails-by it command NoHdu memory refused = refused (λ e. cc)
CommandFails-by it command NoCard memory refused = refused (λ e. cc)
CommandFails-by it command NoKey memory refused = refused (λ e. cc)
CommandFails-by it command BadText memory refused = refused (λ e. cc)
CommandFails-by it command EndCard memory refused = refused (λ e. cc)
CommandFails-by it command OtherShape memory refused = refused (λ e. cc)
CommandFails-by it command BadName memory refused = refused (λ e. cc)
CommandFails-by it command BadValue memory refused = refused (λ e. cc)
CommandFails-by it command NotImage memory refused = refused (λ e. cc)
CommandFails-by it command BadRect memory refused = refused (λ e. cc)
CommandFails-by it command WrongCount memory refused = refused (λ e. cc)
CommandFails-by it command Range memory refused = refused (λ e. cc)
CommandFails-by it command PrimaryStays memory refused = refused (λ e. cc)
CommandFails-by it command TooLarge memory refused = refused (λ e. cc)

-- a query that fails, and not by memory, has that refusal
QueryFails-refused : {X : Type 0} (answer : Result X Refusal) (why : Refusal) → QueryFails answer why → (why ≡ Memory → ⊥) → answer ≡ Err why
QueryFails-refused answer Memory fails other = absurd (other refl)
QueryFails-refused answer NoHdu fails other = fails
QueryFails-refused answer NoCard fails other = fails
QueryFails-refused answer NoKey fails other = fails
QueryFails-refused answer BadText fails other = fails
QueryFails-refused answer EndCard fails other = fails
QueryFails-refused answer OtherShape fails other = fails
QueryFails-refused answer BadName fails other = fails
QueryFails-refused answer BadValue fails other = fails
QueryFails-refused answer NotImage fails other = fails
QueryFails-refused answer BadRect fails other = fails
QueryFails-refused answer WrongCount fails other = fails
QueryFails-refused answer Range fails other = fails
QueryFails-refused answer PrimaryStays fails other = fails
QueryFails-refused answer TooLarge fails other = fails

-- a refused edit is a refused command
refused_edit : (it : Marked) (edit : Edit) (why : Refusal) → marked_refusal it edit ≡ Some why → outcome_of it (command.Edit edit) ≡ Err why
unfolding outcome_of
refused_edit it edit why e = rw e refl

-- an edit that fails is a command that fails
pub CommandFails-edit : (it : Marked) (edit : Edit) (why : Refusal) → Fails (EditNeedsMemory (is_stamped_after it.kept edit) edit) (marked_refusal it edit) why → CommandFails it (command.Edit edit) why
unfolding OutcomeNeedsMemory
CommandFails-edit it edit why (inl e) = CommandFails-by it (command.Edit edit) why (λ memory. absurd (never_memory it edit (e ∙ ap Some memory))) (λ other. refused_edit it edit why e)
CommandFails-edit it edit why (inr p) = CommandFails-by it (command.Edit edit) why (λ memory. p.1) (λ other. absurd (other p.0))

-- a query that fails is a command that fails
pub CommandFails-query : {X : Type 0} (it : Marked) (command : Command) (answer : Result X Refusal) (why : Refusal) → QueryFails answer why → (IsOk answer → OutcomeNeedsMemory it command) → (answer ≡ Err why → outcome_of it command ≡ Err why)
    → CommandFails it command why
CommandFails-query it command answer why fails needs refused =
    CommandFails-by it command why (λ memory. needs (rw memory at fails)) (λ other. refused (QueryFails-refused answer why fails other))

-- and so is one that fails without any need of memory
pub CommandFails-refused : (it : Marked) (command : Command) (why : Refusal) → (why ≡ Memory → ⊥) → outcome_of it command ≡ Err why → CommandFails it command why
CommandFails-refused it command why firm e = CommandFails-by it command why (λ memory. absurd (firm memory)) (λ other. e)
