use Rattle.std.proofs.Common.{◌≡◌, ◌++◌, ◌∷◌, [], ◌∙◌, length, ap, sym, append_assoc, refl, arith}
use Rattle.std.proofs.lemmas.List.{length-append}
use Rattle.fits_tell.proofs.ExitLemmas.{at_exit}
use Rattle.fits_cli.specs.Running.{standing_at}
use Rattle.fits_cli.proofs.UnderWayLemmas.{follows_more, follows_none, told_before}
use Rattle.fits_cli.proofs.RunLemmas.{Continues-none, Continues-open, Continues-line, PieceStops-line}
use Rattle.fits_cli.proofs.FrameLemmas.{line_more, some_more, some_none}
use Rattle.fits_cli.proofs.script.answer_piece.Goals as goal

pub loop-front-init : goal.loop-front-init
loop-front-init g c = record {
  done = [];
  split = refl;
  answered = λ told by. Continues-none c.args.line.now.items (standing_at told c.args.runner.now) _;
  quiet = refl;
  said = some_none _;
  look = refl;
  follows = follows_none c.args.runner.now.log;
  numbered = omega arith;
  room = c.requires.room;
  within = c.requires.within;
}

pub returns-in_default-clause-ok : goal.returns-in_default-clause-ok
returns-in_default-clause-ok g c told by =
    let inv = c.loop-front.invariant in
    rw inv.split
    (Continues-open inv.done c.loop-front.rest.now c.args.line.now.items c.loop-front.line.items c.keep.new.line.items (standing_at told c.args.runner.now) (standing_at told c.loop-front.runner) _ _
    (inv.answered told by) c.in_default.ensures.none c.keep.ensures.kept)

pub returns-in_err-answer_line-clause-err : goal.returns-in_err-answer_line-clause-err
returns-in_err-answer_line-clause-err g c told by =
    let inv = c.loop-front.invariant in
    let front = c.in-Some.front.now in
    let next = c.in-Some.next.now in
    let cut : c.loop-front.rest.now ≡ front ++ 10 ∷ next = c.in-Some.ensures.some.1 in
    let whole : c.args.piece.now ≡ inv.done ++ (front ++ 10 ∷ next) = inv.split ∙ ap (λ t. inv.done ++ t) cut in
    at_exit _ _ _ c.from_residual.ensures.1
    (rw whole
    (PieceStops-line inv.done front next c.args.line.now.items c.loop-front.line.items c.keep-in-loop-front.new.line.items (standing_at told c.args.runner.now) (standing_at told c.loop-front.runner) _ _ _ c.in_err-answer_line.field-0.0
    (inv.answered told (told_before g.H.Holder.whole told _ _ c.answer_line.ensures.follows by)) c.in-Some.ensures.some.0 c.keep-in-loop-front.ensures.kept (rw c.deref.ensures.value at (c.in_err-answer_line.ensures.err told by))))

pub loop-front-preserved : goal.loop-front-preserved
loop-front-preserved g c =
    let inv = c.loop-front.invariant in
    let done = inv.done in
    let front = c.in-Some.front.now in
    let next = c.in-Some.next.now in
    let cut : c.loop-front.rest.now ≡ front ++ 10 ∷ next = c.in-Some.ensures.some.1 in
    record {
      done = done ++ (front ++ 10 ∷ []);
      split = inv.split ∙ ap (λ t. done ++ t) (cut ∙ sym (append_assoc front (10 ∷ []) next)) ∙ sym (append_assoc done (front ++ 10 ∷ []) next);
      answered = λ told by. rw c.clear.ensures.items
          (Continues-line done front c.args.line.now.items c.loop-front.line.items c.keep-in-loop-front.new.line.items (standing_at told c.args.runner.now) (standing_at told c.loop-front.runner) (standing_at told c.answer_line.new.runner) _ _ _
          (inv.answered told (told_before g.H.Holder.whole told _ _ c.answer_line.ensures.follows by)) c.in-Some.ensures.some.0 c.keep-in-loop-front.ensures.kept (rw c.deref.ensures.value at (c.in_ok-answer_line.ensures.ok told by)));
      quiet = c.in_ok-answer_line.ensures.quiet ∙ inv.quiet;
      said = some_more _ _ _ inv.said c.in_ok-answer_line.ensures.said;
      look = c.answer_line.ensures.look ∙ inv.look;
      follows = follows_more _ _ _ inv.follows c.answer_line.ensures.follows;
      numbered = omega (arith, c.in_ok-answer_line.ensures.line, ap length cut, length-append front (10 ∷ next), inv.numbered);
      room = omega (arith, c.clear.ensures.capacity, c.keep-in-loop-front.ensures.room);
      within = omega (arith, c.clear.ensures.len);
    }

pub returns-in_err-answer_line-clause-follows : goal.returns-in_err-answer_line-clause-follows
returns-in_err-answer_line-clause-follows g c = follows_more _ _ _ c.loop-front.invariant.follows c.answer_line.ensures.follows

pub returns-in_err-answer_line-clause-leaves : goal.returns-in_err-answer_line-clause-leaves
returns-in_err-answer_line-clause-leaves g c =
    at_exit _ _ _ c.from_residual.ensures.1 (line_more _ _ _ c.in_err-answer_line.field-0.0 c.loop-front.invariant.said c.in_err-answer_line.ensures.leaves)
