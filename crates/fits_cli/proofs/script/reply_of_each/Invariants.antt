use Rattle.std.proofs.Common.{◌≡◌, ◌++◌, ◌+◌, ℕ, List, length}
use Rattle.std.specs.Prelude.{◌&&◌, not}
use Rattle.fits_extended.specs.Stands.{lines_in}
use Rattle.fits_unit.specs.Again.{Follows}
use Rattle.fits_cli.specs.Answer.{all_refused, first_line, hdu_answers, held_after, AtEach}
use Rattle.fits_cli.specs.Running.{standing_at, IsToldBy, LacksOne}
use Rattle.fits_tell.specs.declared.fault.Fault.{Fault}
use Rattle.fits_cli.proofs.script.reply_of_each.Given as goal

abbrev pub invariant-plains : goal.invariant-plains
invariant-plains g l = record {
  text : (told : List ℕ) → IsToldBy g.H.Holder.whole told l.runner.log → l.text.items ++ hdu_answers (l.hdu + 1) (standing_at told l.runner) (lines_in l.rest) ≡ hdu_answers 1 (standing_at told l.fn.runner) (lines_in l.plains);
  any : (told : List ℕ) → IsToldBy g.H.Holder.whole told l.runner.log → all_refused (standing_at told l.fn.runner) (lines_in l.plains) ≡ (not l.any && all_refused (standing_at told l.runner) (lines_in l.rest));
  held : (told : List ℕ) → IsToldBy g.H.Holder.whole told l.runner.log → held_after (standing_at told l.runner) (lines_in l.rest) ≡ held_after (standing_at told l.fn.runner) (lines_in l.plains);
  lacks : (told : List ℕ) → IsToldBy g.H.Holder.whole told l.runner.log → (fault : Fault) → AtEach (LacksOne fault) (first_line (lines_in l.plains)) (standing_at told l.runner) (lines_in l.rest) → AtEach (LacksOne fault) (first_line (lines_in l.plains)) (standing_at told l.fn.runner) (lines_in l.plains);
  within : l.hdu + length l.rest ≡ length l.plains;
  quiet : l.runner.log.failures ≡ l.fn.runner.log.failures;
  here : l.runner.line ≡ l.fn.runner.line;
  count : l.runner.refused ≡ l.fn.runner.refused;
  look : l.runner.look ≡ l.fn.runner.look;
  follows : Follows l.fn.runner.log l.runner.log;
}

abbrev pub decreases-plains : goal.decreases-plains
decreases-plains g l = length l.rest
