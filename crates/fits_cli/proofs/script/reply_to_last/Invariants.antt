use Rattle.std.proofs.Common.{◌≡◌, ℕ, List, length}
use Rattle.fits_extended.specs.Stands.{lines_in}
use Rattle.fits_unit.specs.Again.{Follows}
use Rattle.fits_cli.specs.Answer.{done_last, AtOne}
use Rattle.fits_cli.specs.Running.{LacksOne, IsToldBy, standing_at}
use Rattle.fits_tell.specs.declared.fault.Fault.{Fault}
use Rattle.fits_cli.proofs.script.reply_to_last.Given as goal

abbrev pub invariant-plains : goal.invariant-plains
invariant-plains g l = record {
  last : (told : List ℕ) → IsToldBy g.H.Holder.whole told l.runner.log → done_last (standing_at told l.fn.runner) (lines_in l.plains) ≡ done_last (standing_at told l.runner) (lines_in l.rest);
  lacks : (told : List ℕ) → IsToldBy g.H.Holder.whole told l.runner.log → (fault : Fault) → AtOne (LacksOne fault) (standing_at told l.runner) (lines_in l.rest) → AtOne (LacksOne fault) (standing_at told l.fn.runner) (lines_in l.plains);
  quiet : l.runner.log.failures ≡ l.fn.runner.log.failures;
  here : l.runner.line ≡ l.fn.runner.line;
  look : l.runner.look ≡ l.fn.runner.look;
  follows : Follows l.fn.runner.log l.runner.log;
}

abbrev pub decreases-plains : goal.decreases-plains
decreases-plains g l = length l.rest
