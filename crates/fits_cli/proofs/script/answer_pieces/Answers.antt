use Rattle.std.proofs.Common.{◌≡◌, ◌++◌, ◌∙◌, [], take, length, refl, ap, arith, rules}
use Rattle.std.proofs.lemmas.List.{length-append, length-take-le}
use Rattle.fits_stream.proofs.StreamLemmas.{Reads-none, Reads-more, quiet_read, reads_fail_now}
use Rattle.fits_tell.proofs.ExitLemmas.{at_exit, last_err, last_ok}
use Rattle.fits_cli.specs.Running.{standing_at}
use Rattle.fits_cli.proofs.RunLemmas.{HasCome-none}
use Rattle.fits_cli.proofs.UnderWayLemmas.{follows_more, follows_none, told_before}
use Rattle.fits_cli.proofs.ScriptLemmas.{ScriptReadFails-after, ScriptStops-piece, ScriptStops-over, ScriptStops-end, AnswersTooLong-over, AnswersScript-end}
use Rattle.fits_cli.specs.Frame.{ScriptAnswers}
use Rattle.fits_cli.proofs.FrameLemmas.{script_more, some_more, some_none}
use Rattle.fits_cli.proofs.script.answer_pieces.Goals as goal

pub loop-n-init : goal.loop-n-init
loop-n-init g c = record {
  came = [];
  read = Reads-none (g.S.Source.state c.args.script.now);
  counted = refl;
  short = omega arith;
  has = λ told by. rw c.requires.empty (HasCome-none (standing_at told c.args.runner.now) _);
  quiet = refl;
  said = some_none _;
  look = refl;
  follows = follows_none c.args.runner.now.log;
  numbered = omega (arith, c.requires.first);
  wide = c.requires.wide;
  passed_on = λ some. absurd (omega (arith, some));
  room = c.requires.room;
  within = let none : length c.args.line.now.items ≡ 0 = ap length c.requires.empty in omega (arith, none, c.args.line.now.ok.0);
}

pub returns-in_default-clause-err : goal.returns-in_default-clause-err
returns-in_default-clause-err g c told by =
    let inv = c.loop-n.invariant in
    ScriptReadFails-after _ (g.S.Source.state c.loop-n.script) _ inv.came c.loop-n.line.items (standing_at told c.args.runner.now) (standing_at told c.loop-n.runner) _ _
    inv.read c.in_default.ensures.err (omega (arith, inv.counted, inv.short)) (inv.has told by)

pub returns-then-n-eq0-clause-err : goal.returns-then-n-eq0-clause-err
returns-then-n-eq0-clause-err g c told by =
    let inv = c.loop-n.invariant in
    last_err _ (rw c.deref.ensures.value at (c.answer_last_line.ensures.err told by))
    (λ why stops. ScriptStops-end _ (g.S.Source.state c.loop-n.script) _ c.in-Ok.n inv.came c.read_on.new.piece c.loop-n.line.items (standing_at told c.args.runner.now) (standing_at told c.loop-n.runner) _ _ _
    why inv.read c.in-Ok.ensures.ok c.if-n-eq0.true (c.in-Ok.ensures.ends c.if-n-eq0.true (search rules)) (omega (arith, inv.counted, inv.short))
    (inv.has told (told_before g.H.Holder.whole told _ _ c.answer_last_line.ensures.follows by)) stops)

pub returns-then-n-eq0-clause-ok : goal.returns-then-n-eq0-clause-ok
returns-then-n-eq0-clause-ok g c told by =
    let inv = c.loop-n.invariant in
    last_ok _ (rw c.deref.ensures.value at (c.answer_last_line.ensures.ok told by))
    (λ ends. AnswersScript-end _ (g.S.Source.state c.loop-n.script) _ c.in-Ok.n inv.came c.read_on.new.piece c.loop-n.line.items (standing_at told c.args.runner.now) (standing_at told c.loop-n.runner) _ _ _ _
    inv.read c.in-Ok.ensures.ok c.if-n-eq0.true (c.in-Ok.ensures.ends c.if-n-eq0.true (search rules)) (omega (arith, inv.counted, inv.short))
    (inv.has told (told_before g.H.Holder.whole told _ _ c.answer_last_line.ensures.follows by)) ends)

pub returns-in_err-answer_piece-clause-err : goal.returns-in_err-answer_piece-clause-err
returns-in_err-answer_piece-clause-err g c told by =
    let inv = c.loop-n.invariant in
    at_exit _ _ _ c.from_residual.ensures.1
    (ScriptStops-over _ (g.S.Source.state c.loop-n.script) _ c.in-Ok.n inv.came c.read_on.new.piece c.loop-n.line.items (standing_at told c.args.runner.now) (standing_at told c.loop-n.runner) _ _ _
    c.in_err-answer_piece.field-0.0 inv.read c.in-Ok.ensures.ok (omega (arith, inv.counted, inv.short)) (omega (arith, c.if-n-room.true, inv.counted)) (search rules)
    (inv.has told (told_before g.H.Holder.whole told _ _ c.answer_piece.ensures.follows by)) (rw (c.split_at.ensures.front, inv.counted) at (c.in_err-answer_piece.ensures.err told by)))

pub returns-then-n-room-clause-err : goal.returns-then-n-room-clause-err
returns-then-n-room-clause-err g c told by =
    let inv = c.loop-n.invariant in
    AnswersTooLong-over _ (g.S.Source.state c.loop-n.script) _ c.in-Ok.n inv.came c.read_on.new.piece c.loop-n.line.items c.answer_piece.new.line.items
    (standing_at told c.args.runner.now) (standing_at told c.loop-n.runner) (standing_at told c.answer_piece.new.runner) _ _ _ inv.read c.in-Ok.ensures.ok (omega (arith, inv.counted, inv.short)) (omega (arith, c.if-n-room.true, inv.counted)) (search rules)
    (inv.has told (told_before g.H.Holder.whole told _ _ c.answer_piece.ensures.follows by)) (rw (c.split_at.ensures.front, inv.counted) at (c.in_ok-answer_piece.ensures.ok told by))

pub returns-in_err-answer_at_once-clause-err : goal.returns-in_err-answer_at_once-clause-err
returns-in_err-answer_at_once-clause-err g c told by =
    let inv = c.loop-n.invariant in
    let size : length (take c.in-Ok.n c.read_on.new.piece) ≡ c.in-Ok.n = length-take-le c.in-Ok.n c.read_on.new.piece (search rules) in
    at_exit _ _ _ c.from_residual-in_err-answer_at_once.ensures.1
    (ScriptStops-piece _ (g.S.Source.state c.loop-n.script) _ inv.came (take c.in-Ok.n c.read_on.new.piece) c.loop-n.line.items (standing_at told c.args.runner.now) (standing_at told c.loop-n.runner) _ _ _
    c.in_err-answer_at_once.field-0.0 inv.read c.in-Ok.ensures.ok (omega (arith, c.if-n-room.false, inv.counted, inv.short, size))
    (inv.has told (told_before g.H.Holder.whole told _ _ c.answer_at_once.ensures.follows by)) (rw c.split_at-in-loop-n.ensures.front at (c.in_err-answer_at_once.ensures.err told by)))

pub loop-n-preserved : goal.loop-n-preserved
loop-n-preserved g c =
    let inv = c.loop-n.invariant in
    record {
      came = inv.came ++ take c.in-Ok.n c.read_on.new.piece;
      read = Reads-more _ _ _ _ _ inv.read c.in-Ok.ensures.ok;
      counted = omega (arith, inv.counted, length-append inv.came (take c.in-Ok.n c.read_on.new.piece), length-take-le c.in-Ok.n c.read_on.new.piece (search rules));
      short = omega (arith, c.if-n-room.false, inv.short);
      has = λ told by. (rw c.split_at-in-loop-n.ensures.front at (c.in_ok-answer_at_once.ensures.ok told by)) inv.came (standing_at told c.args.runner.now) _ (inv.has told (told_before g.H.Holder.whole told _ _ c.answer_at_once.ensures.follows by));
      quiet = c.in_ok-answer_at_once.ensures.quiet ∙ inv.quiet;
      said = some_more _ _ _ inv.said c.in_ok-answer_at_once.ensures.said;
      look = c.answer_at_once.ensures.look ∙ inv.look;
      follows = follows_more _ _ _ inv.follows c.answer_at_once.ensures.follows;
      numbered = omega (arith, c.in_ok-answer_at_once.ensures.line, c.split_at-in-loop-n.ensures.front_len, inv.numbered);
      wide = omega (arith, inv.wide, c.read_on.ensures.size);
      passed_on = λ some. c.in_ok-answer_at_once.ensures.flushed;
      room = c.in_ok-answer_at_once.ensures.room;
      within = c.in_ok-answer_at_once.ensures.within;
    }

pub returns-then-n-eq0-clause-follows : goal.returns-then-n-eq0-clause-follows
returns-then-n-eq0-clause-follows g c = follows_more _ _ _ c.loop-n.invariant.follows c.answer_last_line.ensures.follows

pub returns-in_err-answer_piece-clause-follows : goal.returns-in_err-answer_piece-clause-follows
returns-in_err-answer_piece-clause-follows g c = follows_more _ _ _ c.loop-n.invariant.follows c.answer_piece.ensures.follows

pub returns-then-n-room-clause-follows : goal.returns-then-n-room-clause-follows
returns-then-n-room-clause-follows g c = follows_more _ _ _ c.loop-n.invariant.follows c.answer_piece.ensures.follows

pub returns-in_err-answer_at_once-clause-follows : goal.returns-in_err-answer_at_once-clause-follows
returns-in_err-answer_at_once-clause-follows g c = follows_more _ _ _ c.loop-n.invariant.follows c.answer_at_once.ensures.follows

pub returns-in_default-clause-leaves : goal.returns-in_default-clause-leaves
returns-in_default-clause-leaves g c = (reads_fail_now _ (g.S.Source.state c.loop-n.script) _ c.loop-n.invariant.came c.loop-n.invariant.read c.in_default.ensures.err, c.loop-n.invariant.said)

pub returns-then-n-eq0-clause-said : goal.returns-then-n-eq0-clause-said
returns-then-n-eq0-clause-said g c =
    let inv = c.loop-n.invariant in
    let quiet = quiet_read _ _ _ (Reads-more _ (g.S.Source.state c.loop-n.script) _ _ _ inv.read c.in-Ok.ensures.ok) in
    last_ok {Q = ScriptAnswers (g.S.Source.state c.args.script.now) (g.S.Source.state c.read_on.new.script) (g.O.Sink.state c.args.out.now) (g.O.Sink.state c.answer_last_line.new.out)}
    _ c.answer_last_line.ensures.said (λ said. record { quiet = quiet; said = some_more _ _ _ inv.said said })

pub returns-then-n-eq0-clause-leaves : goal.returns-then-n-eq0-clause-leaves
returns-then-n-eq0-clause-leaves g c =
    let inv = c.loop-n.invariant in
    let quiet = quiet_read _ _ _ (Reads-more _ (g.S.Source.state c.loop-n.script) _ _ _ inv.read c.in-Ok.ensures.ok) in
    last_err _ c.answer_last_line.ensures.leaves (λ why stops. script_more _ _ _ _ _ why quiet inv.said stops)

pub returns-in_err-answer_piece-clause-leaves : goal.returns-in_err-answer_piece-clause-leaves
returns-in_err-answer_piece-clause-leaves g c =
    let inv = c.loop-n.invariant in
    let quiet = quiet_read _ _ _ (Reads-more _ (g.S.Source.state c.loop-n.script) _ _ _ inv.read c.in-Ok.ensures.ok) in
    at_exit _ _ _ c.from_residual.ensures.1 (script_more _ _ _ _ _ c.in_err-answer_piece.field-0.0 quiet inv.said c.in_err-answer_piece.ensures.leaves)

pub returns-then-n-room-clause-leaves : goal.returns-then-n-room-clause-leaves
returns-then-n-room-clause-leaves g c =
    let inv = c.loop-n.invariant in
    let quiet = quiet_read _ _ _ (Reads-more _ (g.S.Source.state c.loop-n.script) _ _ _ inv.read c.in-Ok.ensures.ok) in
    record { quiet = quiet; said = some_more _ _ _ inv.said c.in_ok-answer_piece.ensures.said }

pub returns-in_err-answer_at_once-clause-leaves : goal.returns-in_err-answer_at_once-clause-leaves
returns-in_err-answer_at_once-clause-leaves g c =
    let inv = c.loop-n.invariant in
    let quiet = quiet_read _ _ _ (Reads-more _ (g.S.Source.state c.loop-n.script) _ _ _ inv.read c.in-Ok.ensures.ok) in
    at_exit _ _ _ c.from_residual-in_err-answer_at_once.ensures.1 (script_more _ _ _ _ _ c.in_err-answer_at_once.field-0.0 quiet inv.said c.in_err-answer_at_once.ensures.leaves)
