-- Queries of pixels and sums as their commands.
use Rattle.std.proofs.Common.{◌≡◌, ℕ, List, Bool, refl, ap, ◌∙◌, Option, None, Some, Result, Ok, Err}
use Rattle.std.specs.Prelude.{◌&&◌, ok_or}
use Rattle.fits_passing.specs.Hdu.{HduParts}
use Rattle.fits_passing.specs.Sums.{verdicts_of}
use Rattle.fits_passing.specs.Stats.{stats_of, Stats}
use Rattle.fits_hdu.specs.declared.pixel_fault.PixelFault.TheVariants as pixel
use Rattle.fits_rules.specs.Shape.{shape_of}
use Rattle.fits_rules.specs.declared.array_shape.Shape.{Shape}
use Rattle.fits_session.specs.Edit.{hdu_of}
use Rattle.fits_passing.specs.File.{is_primary_hdu, FileParts}
use Rattle.fits_making.specs.HduEdit.{pixels_made, shaped}
use Rattle.fits_making.specs.Keeping.{are_right}
use Rattle.fits_session.specs.Marked.{Marked, is_kept, kept_in}
use Rattle.fits_session.specs.Query.{by_shape, datasum_in, in_hdu, rect_in, stats_in, verdicts_in, QueryFails}
use Rattle.fits_making.specs.declared.refusal.Refusal.{Refusal}
use Rattle.fits_making.specs.declared.refusal.Refusal.TheVariants.{NoHdu, NotImage, Memory}
use Rattle.fits_cli.specs.Answer.{outcome_of, OutcomeNeedsMemory, CommandFails}
use Rattle.fits_script.specs.declared.command.Command.TheVariants as command
use Rattle.fits_cli.proofs.RefusalLemmas.{CommandFails-query, CommandFails-refused}

-- statistics that are there, or not
stats_made : (stats : Option Stats) → pixels_made (ok_or stats pixel.NotImage) ≡ Err Memory → ⊥
stats_made (Some stats) e = absurd (let z : ◌≡◌ {A = Result Stats Refusal} (Ok stats) (Err Memory) = e in cc)
stats_made None e = absurd (let z : ◌≡◌ {A = Result Stats Refusal} (Err NotImage) (Err Memory) = e in cc)

-- statistics of a shape, or none, never fail by memory
stats_shaped : (shape : Result Shape ℕ) (hdu : HduParts) → shaped shape (λ shape. ok_or (stats_of shape hdu) pixel.NotImage) ≡ Err Memory → ⊥
stats_shaped (Err place) hdu e = absurd (let z : ◌≡◌ {A = Result Stats Refusal} (Err NotImage) (Err Memory) = e in cc)
stats_shaped (Ok shape) hdu e = stats_made (stats_of shape hdu) e

-- statistics of an HDU, if it is there, never fail by memory
stats_there : (primary : Bool) (hdu : Option HduParts) → in_hdu (by_shape primary (λ shape hdu. ok_or (stats_of shape hdu) pixel.NotImage)) hdu ≡ Err Memory → ⊥
stats_there primary None e = absurd (let z : ◌≡◌ {A = Result Stats Refusal} (Err NoHdu) (Err Memory) = e in cc)
stats_there primary (Some hdu) e = stats_shaped (shape_of primary hdu.header.cards) hdu e

-- statistics of an HDU never fail by memory
stats_in-memory : (file : FileParts) (h : ℕ) → stats_in file h ≡ Err Memory → ⊥
stats_in-memory file h e = stats_there (is_primary_hdu h) (hdu_of file h) e

-- asking for statistics fails as the query does
pub statistics_fails : (it : Marked) (h : ℕ) (why : Refusal) → stats_in it.file h ≡ Err why → CommandFails it (command.Statistics h) why
unfolding outcome_of
statistics_fails it h why e = CommandFails-refused it (command.Statistics h) why (λ memory. stats_in-memory it.file h (e ∙ ap Err memory)) (rw e refl)

-- asking for a rectangle fails as the query does
pub rectangle_fails : (it : Marked) (h : ℕ) (lo hi : List ℕ) (why : Refusal) → QueryFails (rect_in it.file h lo hi) why → CommandFails it (command.Rectangle h lo hi) why
unfolding outcome_of OutcomeNeedsMemory
rectangle_fails it h lo hi why fails = CommandFails-query it (command.Rectangle h lo hi) (rect_in it.file h lo hi) why fails (λ needs. needs) (λ e. rw e refl)

-- the same, where the corners that were asked for are the command's
pub rectangle_of_corners_fails : (it : Marked) (h : ℕ) (los his lo hi : List ℕ) (why : Refusal) → los ≡ lo → his ≡ hi → QueryFails (rect_in it.file h los his) why → CommandFails it (command.Rectangle h lo hi) why
rectangle_of_corners_fails it h los his lo hi why a b p = rw (← a, ← b) (rectangle_fails it h los his why p)

-- the sum of an HDU, if it is there, never fails by memory
there_memory : {X : Type 0} (answer : HduParts → X) (hdu : Option HduParts) → in_hdu (λ hdu. Ok (answer hdu)) hdu ≡ Err Memory → ⊥
there_memory {X = X} answer None e = absurd (let z : ◌≡◌ {A = Result X Refusal} (Err NoHdu) (Err Memory) = e in cc)
there_memory {X = X} answer (Some hdu) e = absurd (let z : ◌≡◌ {A = Result X Refusal} (Ok (answer hdu)) (Err Memory) = e in cc)

-- asking for sums fails as the sum of the data unit does
pub sums_fails : (it : Marked) (h : ℕ) (why : Refusal) → datasum_in it.file h ≡ Err why → CommandFails it (command.Sums h) why
unfolding outcome_of
sums_fails it h why e = CommandFails-refused it (command.Sums h) why (λ memory. there_memory _ (hdu_of it.file h) (e ∙ ap Err memory)) (rw e refl)

-- or as the verdicts do
pub verdicts_fails : (it : Marked) (h sum : ℕ) (why : Refusal) → datasum_in it.file h ≡ Ok sum → verdicts_in it.file h ≡ Err why → CommandFails it (command.Sums h) why
unfolding outcome_of
verdicts_fails it h sum why s e = CommandFails-refused it (command.Sums h) why (λ memory. there_memory _ (hdu_of it.file h) (e ∙ ap Err memory)) (rw (s, e) refl)

-- asking whether an HDU is kept stamped fails as the query does
pub kept_fails : (it : Marked) (h : ℕ) (why : Refusal) → kept_in it h ≡ Err why → CommandFails it (command.Kept h) why
unfolding outcome_of
kept_fails it h why e = CommandFails-refused it (command.Kept h) why (λ memory. there_memory (λ (hdu : HduParts). is_kept it.kept h && are_right (verdicts_of hdu)) (hdu_of it.file h) (e ∙ ap Err memory)) (rw e refl)
