-- A plan of what a script made of a file.
use Rattle.std.proofs.Common.{◌≡◌, ℕ, ◌&&◌, ◌∙◌, Bool, List, ap, sym, false}
use Rattle.std.specs.Prelude.{not}
use Rattle.fits_redo.specs.declared.plan.Plan.{Plan}
use Rattle.fits_passing.specs.File.{file_bytes}
use Rattle.fits_session.specs.Overwriting.{MakesFile}
use Rattle.fits_session.specs.Session.{file_of, session_at, SessionState}
use Rattle.fits_cli.specs.Answer.{Standing}
use Rattle.fits_cli.specs.Output.{saved_bytes}
use Rattle.fits_cli.specs.Planned.{MakesBytes}
use Rattle.fits_cli.specs.declared.terms.Terms.{Terms}
use Rattle.fits_cli.proofs.UnderWayLemmas.{saved_whole}

-- a plan of the session's file is one of what is saved, where that isn't spared
pub plans_saved : (terms : Terms) (standing : Standing) (told : List ℕ) (session : SessionState) (spared : Bool) (plan : Plan) → spared ≡ (terms.spare && not standing.edited) → spared ≡ false → standing.marked.file ≡ file_of (session_at told session) → MakesFile told session plan
    → MakesBytes told (saved_bytes terms standing) plan
plans_saved terms standing told session spared plan is all file makes = record { agrees = makes.agrees; gives = makes.gives ∙ ap file_bytes (sym file) ∙ sym (saved_whole terms standing (sym is ∙ all)) }
