use Rattle.std.proofs.Common.{◌≡◌, ◌<◌, ◌≤◌, ◌+◌, ◌-◌, List, ℕ, length}
use Rattle.std.specs.Prelude.{vec_len, vec_capacity}
use Rattle.std.specs.Option.{option_map}
use Rattle.fits_stream.specs.Stream.{Reads}
use Rattle.fits_unit.specs.Again.{Follows}
use Rattle.fits_script.specs.declared.limits.TheConstants.{LINE_LIMIT}
use Rattle.fits_cli.specs.declared.limits.TheConstants.{SCRIPT_LIMIT}
use Rattle.fits_cli.specs.Frame.{PrintsSome}
use Rattle.fits_cli.specs.Running.{heard, HasCome, IsToldBy, standing_at}
use Rattle.fits_cli.proofs.script.answer_pieces.Given as goal

abbrev pub invariant-loop-n : goal.invariant-loop-n
invariant-loop-n g l = record {
  came : List ℕ;
  read : Reads came (g.S.Source.state l.fn.script) (g.S.Source.state l.script);
  counted : l.taken ≡ length came;
  short : l.taken ≤ SCRIPT_LIMIT;
  has : (told : List ℕ) → IsToldBy g.H.Holder.whole told l.runner.log → HasCome came l.line.items (standing_at told l.fn.runner) (standing_at told l.runner) (heard (g.O.Sink.state l.fn.out) (option_map g.E.Sink.state l.fn.told)) (heard (g.O.Sink.state l.out) (option_map g.E.Sink.state l.told));
  said : PrintsSome (g.O.Sink.state l.fn.out) (g.O.Sink.state l.out);
  quiet : l.runner.log.failures ≡ l.fn.runner.log.failures;
  look : l.runner.look ≡ l.fn.runner.look;
  follows : Follows l.fn.runner.log l.runner.log;
  numbered : l.runner.line ≤ l.taken + 1;
  wide : 0 < length l.piece;
  passed_on : 0 < l.taken → (g.O.Sink.state l.out).unflushed ≡ 0;
  room : LINE_LIMIT + 1 ≤ vec_capacity l.line;
  within : vec_len l.line ≤ LINE_LIMIT + 1;
}

abbrev pub decreases-loop-n : goal.decreases-loop-n
decreases-loop-n g l = SCRIPT_LIMIT - l.taken
