use Rattle.std.proofs.Common.{◌≡◌, ◌∙◌, ◌∷◌, [], ℕ, List, ap, subst, sym, Some, None, Ok, Err}
use Rattle.fits_tell.specs.declared.fault.Fault.TheVariants.{Memory}
use Rattle.fits_tell.proofs.ExitLemmas.{at_exit, last_err, last_ok}
use Rattle.fits_extended.specs.Stands.{lines_in}
use Rattle.std.specs.Option.{option_map}
use Rattle.fits_cli.specs.Answer.{Standing, in_turn, line_stands, of_each, of_none, queries_by}
use Rattle.fits_cli.specs.Running.{heard, standing_at, AnswersMeant, AnswersPlain, MeantStops, PlainStops}
use Rattle.fits_cli.proofs.RunLemmas.{AnswersLine-plain, AnswersLine-stands, LineStops-finding, LineStops-plain, LineStops-stands, meant_each, meant_none, meant_turn}
use Rattle.fits_cli.proofs.script.answer_line.Goals as goal

pub returns-in_err-queries-clause-err : goal.returns-in_err-queries-clause-err
returns-in_err-queries-clause-err g c told by =
    at_exit _ _ Memory c.from_residual.ensures.1 (LineStops-finding c.args.line.now (standing_at told c.args.runner.now) _ c.in_err-queries.ensures.err c.in_err-queries.ensures.may)

pub returns-in_err-stands_for-clause-err : goal.returns-in_err-stands_for-clause-err
returns-in_err-stands_for-clause-err g c told by =
    at_exit _ _ Memory c.from_residual-in_err-stands_for.ensures.1 (LineStops-finding c.args.line.now (standing_at told c.args.runner.now) _ c.in_err-stands_for.ensures.err c.in_err-stands_for.ensures.may)

pub returns-in-Itself-clause-ok : goal.returns-in-Itself-clause-ok
returns-in-Itself-clause-ok g c told by =
    let stands : line_stands (standing_at told c.args.runner.now) c.args.line.now ≡ in_turn (c.args.line.now ∷ []) = meant_turn (standing_at told c.args.runner.now) c.args.line.now (c.args.line.now ∷ []) (sym (rw c.in_default.is at (c.in_ok-queries.ensures.ok told))) (sym (rw c.in-Itself.is at (c.in_ok-stands_for.ensures.ok told))) in
    last_ok c.answer_plain.result (c.answer_plain.ensures.ok told by) (λ one. AnswersLine-plain c.args.line.now c.args.line.now (standing_at told c.args.runner.now) (standing_at told c.answer_plain.new.runner) (heard (g.O.Sink.state c.args.out.now) (option_map g.E.Sink.state c.args.told.now)) (heard (g.O.Sink.state c.answer_plain.new.out) (option_map g.E.Sink.state c.answer_plain.new.told)) stands (subst (λ (s : Standing). AnswersPlain c.args.line.now s (standing_at told c.answer_plain.new.runner) (heard (g.O.Sink.state c.args.out.now) (option_map g.E.Sink.state c.args.told.now)) (heard (g.O.Sink.state c.answer_plain.new.out) (option_map g.E.Sink.state c.answer_plain.new.told))) (c.stands_for.ensures.standing told) one))

pub returns-in-Itself-clause-err : goal.returns-in-Itself-clause-err
returns-in-Itself-clause-err g c told by =
    let stands : line_stands (standing_at told c.args.runner.now) c.args.line.now ≡ in_turn (c.args.line.now ∷ []) = meant_turn (standing_at told c.args.runner.now) c.args.line.now (c.args.line.now ∷ []) (sym (rw c.in_default.is at (c.in_ok-queries.ensures.ok told))) (sym (rw c.in-Itself.is at (c.in_ok-stands_for.ensures.ok told))) in
    last_err c.answer_plain.result (c.answer_plain.ensures.err told by) (λ why stops. LineStops-plain c.args.line.now c.args.line.now (standing_at told c.args.runner.now) (heard (g.O.Sink.state c.args.out.now) (option_map g.E.Sink.state c.args.told.now)) (heard (g.O.Sink.state c.answer_plain.new.out) (option_map g.E.Sink.state c.answer_plain.new.told)) why stands (subst (λ (s : Standing). PlainStops c.args.line.now s (heard (g.O.Sink.state c.args.out.now) (option_map g.E.Sink.state c.args.told.now)) (heard (g.O.Sink.state c.answer_plain.new.out) (option_map g.E.Sink.state c.answer_plain.new.told)) why) (c.stands_for.ensures.standing told) stops))

pub returns-in-Itself-clause-follows : goal.returns-in-Itself-clause-follows
returns-in-Itself-clause-follows g c = rw c.stands_for.ensures.log at c.answer_plain.ensures.follows

pub returns-in-Line-clause-ok : goal.returns-in-Line-clause-ok
returns-in-Line-clause-ok g c told by =
    let stands : line_stands (standing_at told c.args.runner.now) c.args.line.now ≡ in_turn (c.deref-in-Line.result.now ∷ []) = meant_turn (standing_at told c.args.runner.now) c.args.line.now (c.in-Line.plain.items ∷ []) (sym (rw c.in_default.is at (c.in_ok-queries.ensures.ok told))) (sym (rw c.in-Line.is at (c.in_ok-stands_for.ensures.ok told))) ∙ ap (λ (t : List ℕ). in_turn (t ∷ [])) (sym c.deref-in-Line.ensures.value) in
    last_ok c.answer_plain-in-Line.result (c.answer_plain-in-Line.ensures.ok told by) (λ one. AnswersLine-plain c.args.line.now c.deref-in-Line.result.now (standing_at told c.args.runner.now) (standing_at told c.answer_plain-in-Line.new.runner) (heard (g.O.Sink.state c.args.out.now) (option_map g.E.Sink.state c.args.told.now)) (heard (g.O.Sink.state c.answer_plain-in-Line.new.out) (option_map g.E.Sink.state c.answer_plain-in-Line.new.told)) stands (subst (λ (s : Standing). AnswersPlain c.deref-in-Line.result.now s (standing_at told c.answer_plain-in-Line.new.runner) (heard (g.O.Sink.state c.args.out.now) (option_map g.E.Sink.state c.args.told.now)) (heard (g.O.Sink.state c.answer_plain-in-Line.new.out) (option_map g.E.Sink.state c.answer_plain-in-Line.new.told))) (c.stands_for.ensures.standing told) one))

pub returns-in-Line-clause-err : goal.returns-in-Line-clause-err
returns-in-Line-clause-err g c told by =
    let stands : line_stands (standing_at told c.args.runner.now) c.args.line.now ≡ in_turn (c.deref-in-Line.result.now ∷ []) = meant_turn (standing_at told c.args.runner.now) c.args.line.now (c.in-Line.plain.items ∷ []) (sym (rw c.in_default.is at (c.in_ok-queries.ensures.ok told))) (sym (rw c.in-Line.is at (c.in_ok-stands_for.ensures.ok told))) ∙ ap (λ (t : List ℕ). in_turn (t ∷ [])) (sym c.deref-in-Line.ensures.value) in
    last_err c.answer_plain-in-Line.result (c.answer_plain-in-Line.ensures.err told by) (λ why stops. LineStops-plain c.args.line.now c.deref-in-Line.result.now (standing_at told c.args.runner.now) (heard (g.O.Sink.state c.args.out.now) (option_map g.E.Sink.state c.args.told.now)) (heard (g.O.Sink.state c.answer_plain-in-Line.new.out) (option_map g.E.Sink.state c.answer_plain-in-Line.new.told)) why stands (subst (λ (s : Standing). PlainStops c.deref-in-Line.result.now s (heard (g.O.Sink.state c.args.out.now) (option_map g.E.Sink.state c.args.told.now)) (heard (g.O.Sink.state c.answer_plain-in-Line.new.out) (option_map g.E.Sink.state c.answer_plain-in-Line.new.told)) why) (c.stands_for.ensures.standing told) stops))

pub returns-in-Line-clause-follows : goal.returns-in-Line-clause-follows
returns-in-Line-clause-follows g c = rw c.stands_for.ensures.log at c.answer_plain-in-Line.ensures.follows

pub returns-in-Unmet-clause-ok : goal.returns-in-Unmet-clause-ok
returns-in-Unmet-clause-ok g c told by =
    let stands : line_stands (standing_at told c.args.runner.now) c.args.line.now ≡ of_none c.in-Unmet.why = meant_none (standing_at told c.args.runner.now) c.args.line.now c.in-Unmet.why (sym (rw c.in_default.is at (c.in_ok-queries.ensures.ok told))) (sym (rw c.in-Unmet.is at (c.in_ok-stands_for.ensures.ok told))) in
    last_ok c.answer_unmet.result (c.answer_unmet.ensures.ok told) (λ one. AnswersLine-stands c.args.line.now (of_none c.in-Unmet.why) (standing_at told c.args.runner.now) (standing_at told c.answer_unmet.new.runner) (heard (g.O.Sink.state c.args.out.now) (option_map g.E.Sink.state c.args.told.now)) (heard (g.O.Sink.state c.answer_unmet.new.out) (option_map g.E.Sink.state c.answer_unmet.new.told)) stands (subst (λ (s : Standing). AnswersMeant (of_none c.in-Unmet.why) s (standing_at told c.answer_unmet.new.runner) (heard (g.O.Sink.state c.args.out.now) (option_map g.E.Sink.state c.args.told.now)) (heard (g.O.Sink.state c.answer_unmet.new.out) (option_map g.E.Sink.state c.answer_unmet.new.told))) (c.stands_for.ensures.standing told) one))

pub returns-in-Unmet-clause-err : goal.returns-in-Unmet-clause-err
returns-in-Unmet-clause-err g c told by =
    let stands : line_stands (standing_at told c.args.runner.now) c.args.line.now ≡ of_none c.in-Unmet.why = meant_none (standing_at told c.args.runner.now) c.args.line.now c.in-Unmet.why (sym (rw c.in_default.is at (c.in_ok-queries.ensures.ok told))) (sym (rw c.in-Unmet.is at (c.in_ok-stands_for.ensures.ok told))) in
    last_err c.answer_unmet.result (c.answer_unmet.ensures.err told) (λ fault stops. LineStops-stands c.args.line.now (of_none c.in-Unmet.why) (standing_at told c.args.runner.now) (heard (g.O.Sink.state c.args.out.now) (option_map g.E.Sink.state c.args.told.now)) (heard (g.O.Sink.state c.answer_unmet.new.out) (option_map g.E.Sink.state c.answer_unmet.new.told)) fault stands (subst (λ (s : Standing). MeantStops (of_none c.in-Unmet.why) s (heard (g.O.Sink.state c.args.out.now) (option_map g.E.Sink.state c.args.told.now)) (heard (g.O.Sink.state c.answer_unmet.new.out) (option_map g.E.Sink.state c.answer_unmet.new.told)) fault) (c.stands_for.ensures.standing told) stops))

pub returns-in-Lines-clause-ok : goal.returns-in-Lines-clause-ok
returns-in-Lines-clause-ok g c told by =
    let stands : line_stands (standing_at told c.args.runner.now) c.args.line.now ≡ in_turn (lines_in c.deref-in-Lines.result.now) = meant_turn (standing_at told c.args.runner.now) c.args.line.now (lines_in c.in-Lines.plains.items) (sym (rw c.in_default.is at (c.in_ok-queries.ensures.ok told))) (sym (rw c.in-Lines.is at (c.in_ok-stands_for.ensures.ok told))) ∙ ap (λ t. in_turn (lines_in t)) (sym c.deref-in-Lines.ensures.value) in
    last_ok c.answer_plains.result (c.answer_plains.ensures.ok told by) (λ one. AnswersLine-stands c.args.line.now (in_turn (lines_in c.deref-in-Lines.result.now)) (standing_at told c.args.runner.now) (standing_at told c.answer_plains.new.runner) (heard (g.O.Sink.state c.args.out.now) (option_map g.E.Sink.state c.args.told.now)) (heard (g.O.Sink.state c.answer_plains.new.out) (option_map g.E.Sink.state c.answer_plains.new.told)) stands (subst (λ (s : Standing). AnswersMeant (in_turn (lines_in c.deref-in-Lines.result.now)) s (standing_at told c.answer_plains.new.runner) (heard (g.O.Sink.state c.args.out.now) (option_map g.E.Sink.state c.args.told.now)) (heard (g.O.Sink.state c.answer_plains.new.out) (option_map g.E.Sink.state c.answer_plains.new.told))) (c.stands_for.ensures.standing told) one))

pub returns-in-Lines-clause-err : goal.returns-in-Lines-clause-err
returns-in-Lines-clause-err g c told by =
    let stands : line_stands (standing_at told c.args.runner.now) c.args.line.now ≡ in_turn (lines_in c.deref-in-Lines.result.now) = meant_turn (standing_at told c.args.runner.now) c.args.line.now (lines_in c.in-Lines.plains.items) (sym (rw c.in_default.is at (c.in_ok-queries.ensures.ok told))) (sym (rw c.in-Lines.is at (c.in_ok-stands_for.ensures.ok told))) ∙ ap (λ t. in_turn (lines_in t)) (sym c.deref-in-Lines.ensures.value) in
    last_err c.answer_plains.result (c.answer_plains.ensures.err told by) (λ why stops. LineStops-stands c.args.line.now (in_turn (lines_in c.deref-in-Lines.result.now)) (standing_at told c.args.runner.now) (heard (g.O.Sink.state c.args.out.now) (option_map g.E.Sink.state c.args.told.now)) (heard (g.O.Sink.state c.answer_plains.new.out) (option_map g.E.Sink.state c.answer_plains.new.told)) why stands (subst (λ (s : Standing). MeantStops (in_turn (lines_in c.deref-in-Lines.result.now)) s (heard (g.O.Sink.state c.args.out.now) (option_map g.E.Sink.state c.args.told.now)) (heard (g.O.Sink.state c.answer_plains.new.out) (option_map g.E.Sink.state c.answer_plains.new.told)) why) (c.stands_for.ensures.standing told) stops))

pub returns-in-Lines-clause-follows : goal.returns-in-Lines-clause-follows
returns-in-Lines-clause-follows g c = rw c.stands_for.ensures.log at c.answer_plains.ensures.follows

-- queries of each HDU
pub returns-in-Some-clause-ok : goal.returns-in-Some-clause-ok
returns-in-Some-clause-ok g c told by =
    let stands : line_stands (standing_at told c.args.runner.now) c.args.line.now ≡ of_each (lines_in c.deref.result.now) = meant_each (standing_at told c.args.runner.now) c.args.line.now (lines_in c.in-Some.queries.items) (sym (rw c.in-Some.is at (c.in_ok-queries.ensures.ok told))) ∙ ap (λ t. of_each (lines_in t)) (sym c.deref.ensures.value) in
    last_ok c.answer_each.result (c.answer_each.ensures.ok told by) (λ one. AnswersLine-stands c.args.line.now (of_each (lines_in c.deref.result.now)) (standing_at told c.args.runner.now) (standing_at told c.answer_each.new.runner) (heard (g.O.Sink.state c.args.out.now) (option_map g.E.Sink.state c.args.told.now)) (heard (g.O.Sink.state c.answer_each.new.out) (option_map g.E.Sink.state c.answer_each.new.told)) stands one)

pub returns-in-Some-clause-err : goal.returns-in-Some-clause-err
returns-in-Some-clause-err g c told by =
    let stands : line_stands (standing_at told c.args.runner.now) c.args.line.now ≡ of_each (lines_in c.deref.result.now) = meant_each (standing_at told c.args.runner.now) c.args.line.now (lines_in c.in-Some.queries.items) (sym (rw c.in-Some.is at (c.in_ok-queries.ensures.ok told))) ∙ ap (λ t. of_each (lines_in t)) (sym c.deref.ensures.value) in
    last_err c.answer_each.result (c.answer_each.ensures.err told by) (λ why stops. LineStops-stands c.args.line.now (of_each (lines_in c.deref.result.now)) (standing_at told c.args.runner.now) (heard (g.O.Sink.state c.args.out.now) (option_map g.E.Sink.state c.args.told.now)) (heard (g.O.Sink.state c.answer_each.new.out) (option_map g.E.Sink.state c.answer_each.new.told)) why stands stops)
