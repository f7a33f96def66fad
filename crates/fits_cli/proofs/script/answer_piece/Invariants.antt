use Rattle.std.proofs.Common.{◌≡◌, ◌≤◌, ◌+◌, ◌++◌, ℕ, List, length}
use Rattle.std.specs.Prelude.{vec_len, vec_capacity}
use Rattle.std.specs.Option.{option_map}
use Rattle.fits_unit.specs.Again.{Follows}
use Rattle.fits_script.specs.declared.limits.TheConstants.{LINE_LIMIT}
use Rattle.fits_cli.specs.Frame.{PrintsSome}
use Rattle.fits_cli.specs.Running.{heard, Continues, IsToldBy, standing_at}
use Rattle.fits_cli.proofs.script.answer_piece.Given as goal

abbrev pub invariant-loop-front : goal.invariant-loop-front
invariant-loop-front g l = record {
  done : List ℕ;
  split : l.piece ≡ done ++ l.rest;
  answered : (told : List ℕ) → IsToldBy g.H.Holder.whole told l.runner.log → Continues done l.fn.line.items l.line.items (standing_at told l.fn.runner) (standing_at told l.runner) (heard (g.O.Sink.state l.fn.out) (option_map g.E.Sink.state l.fn.told)) (heard (g.O.Sink.state l.out) (option_map g.E.Sink.state l.told));
  said : PrintsSome (g.O.Sink.state l.fn.out) (g.O.Sink.state l.out);
  quiet : l.runner.log.failures ≡ l.fn.runner.log.failures;
  look : l.runner.look ≡ l.fn.runner.look;
  follows : Follows l.fn.runner.log l.runner.log;
  numbered : l.runner.line + length l.rest ≤ l.fn.runner.line + length l.piece;
  room : LINE_LIMIT + 1 ≤ vec_capacity l.line;
  within : vec_len l.line ≤ LINE_LIMIT + 1;
}

abbrev pub decreases-loop-front : goal.decreases-loop-front
decreases-loop-front g l = length l.rest
