-- How a run ends whose script was answered to its end.
use Rattle.std.proofs.Common.{◌≡◌, ◌⊎◌, ℕ, ◌+◌, ◌<◌, ◌≤◌, ◌&&◌, Bool, List, take, refl, ap, sym, subst, ◌∙◌, inl, inr, arith, true, false, Result, Ok, Err, Option, None, Some}
use Rattle.std.specs.Prelude.{nat_lt}
use Rattle.std.specs.Result.{IsErrAnd}
use Rattle.std.proofs.lemmas.Result.{err_from_is_err_and}
use Rattle.fits_stream.specs.Stream.{SourceState, SinkState, Prints, PrintsFront}
use Rattle.fits_stream.proofs.StreamLemmas.{quiet_read, Prints-flushed}
use Rattle.fits_passing.specs.File.{file_bytes, FileParts}
use Rattle.fits_redo.specs.declared.plan.Plan.{Plan}
use Rattle.fits_cli.specs.Answer.{Standing, at_first_line}
use Rattle.fits_cli.specs.Ends.{end_of, EndsAs, EndsBy, FailsBy, IsDue, IsKeptBack, IsSaved, IsUnsound, NewErrorsFail, ReachesEnd, RunState, StopsBy, Succeeds}
use Rattle.fits_cli.specs.Faults.{IsOnce, SaveFails}
use Rattle.fits_cli.specs.Holding.{ComesDue}
use Rattle.fits_cli.specs.Reports.{new_error_count, new_lines, new_warning_count, reports_of, HasMore, Reports}
use Rattle.fits_cli.specs.Output.{answers, output_of_lines, Output, saved_bytes, standing_after, status_of}
use Rattle.fits_cli.specs.Running.{heard, IsAnsweredRun}
use Rattle.fits_cli.specs.Planned.{EndsByPlan, EndsOver, MakesBytes, PlansOrSaves}
use Rattle.fits_cli.specs.Script.{script_lines}
use Rattle.fits_cli.specs.Terms.{asking, check_of, holds_back, is_whole}
use Rattle.fits_cli.specs.Ends.{run_by}
use Rattle.fits_cli.specs.declared.edited.Edited.{Edited}
use Rattle.fits_cli.specs.declared.edited.Edited.TheVariants.{Done, KeptBack, Unsound}
use Rattle.fits_cli.specs.declared.manner.Manner.{Manner}
use Rattle.fits_tell.specs.declared.fault.Fault.{Fault}
use Rattle.fits_tell.specs.declared.fault.Fault.TheVariants.{Memory, Reread as RereadFault}
use Rattle.fits_tell.specs.declared.level.Level.{Level}
use Rattle.fits_tell.specs.declared.level.Level.TheVariants.{Quiet}
use Rattle.fits_tell.specs.declared.reread.Reread.TheVariants as again
use Rattle.fits_cli.specs.declared.planned.Planned.{Planned}
use Rattle.fits_cli.specs.declared.saves.Saves.{Saves}
use Rattle.fits_cli.specs.declared.saves.Saves.TheVariants.{Made, Nothing}
use Rattle.fits_cli.proofs.EditingLemmas.{output_whole, script_told}
use Rattle.fits_cli.proofs.ReportsLemmas.{has_counts, none_new, some_new}
use Rattle.fits_cli.proofs.ResultLemmas.{lines_file}

-- the run at the end of its script
unfoldable pub reaches_end : (old new last : RunState) (told told_after : Option SinkState) (now : Standing) (before : Reports) → last.file ≡ new.file → last.script ≡ new.script → IsAnsweredRun old new told told_after now before → ReachesEnd old last new.printed
reaches_end old new last told told_after now before file script run =
    let done = run.script in
    let first : Standing = at_first_line old.terms run.parts in
    record {
      run = record {
        file = file_bytes run.parts;
        script = done.script;
        output = output_of_lines old.terms run.parts (script_lines done.lines done.last);
        told_file = run.opened.told;
        told_script = script_told old.script new.script done.script done.read done.ended;
        is = output_whole old.terms old.script new.script run.parts now (heard old.printed told) (heard run.mid told_after) run.opened.is done;
        printed = Prints-flushed old.printed run.mid new.printed (answers first (script_lines done.lines done.last)) done.answered.said.printed run.flush;
        fault_is = refl;
        read = record { of_file = rw file run.read; of_script = rw script (quiet_read old.script new.script done.script done.read) };
      };
      gave = rw file run.opened.gave;
      flushed = run.flush.flushed;
      before = reports_of old.terms.tables run.parts;
      after = reports_of old.terms.tables now.marked.file;
      before_is = record { file = run.parts; opened = run.opened.is; all = refl };
      after_is = record {
        file = (standing_after first (script_lines done.lines done.last)).marked.file;
        opened = lines_file first (script_lines done.lines done.last) run.opened.is;
        all = ap (λ (s : Standing). reports_of old.terms.tables s.marked.file) done.answered.left;
      };
    }

-- a run that wants no result saved
pub Succeeds-asked : (old new : RunState) (saved : SinkState) (told told_after : Option SinkState) (now : Standing) (before : Reports) → old.terms.saves ≡ Nothing → IsAnsweredRun old new told told_after now before → Succeeds old new saved saved (status_of now)
unfolding reaches_end
Succeeds-asked old new saved told told_after now before nothing run = record {
  end = reaches_end old new new told told_after now before refl refl run;
  status_is = ap status_of run.script.answered.left;
  result = rw nothing refl;
}

-- lines that weren't done keep the result back
pub Kept-back : (old new : RunState) (told told_after : Option SinkState) (now : Standing) (before : Reports) → holds_back old.terms.saves now.refused ≡ true → IsAnsweredRun old new told told_after now before → IsKeptBack old new now.refused
unfolding reaches_end standing_after
Kept-back old new told told_after now before kept run = record {
  end = reaches_end old new new told told_after now before refl refl run;
  kept = ap (λ (s : Standing). holds_back old.terms.saves s.refused) (sym run.script.answered.left) ∙ kept;
  count = ap (λ (s : Standing). s.refused) run.script.answered.left;
}

-- no line does
lines_done : (old new last : RunState) (told told_after : Option SinkState) (now : Standing) (before : Reports) (file : last.file ≡ new.file) (script : last.script ≡ new.script) (run : IsAnsweredRun old new told told_after now before) → holds_back old.terms.saves now.refused ≡ false
    → holds_back old.terms.saves (reaches_end old new last told told_after now before file script run).run.output.undone ≡ false
unfolding reaches_end standing_after
lines_done old new last told told_after now before file script run all = ap (λ (s : Standing). holds_back old.terms.saves s.refused) (sym run.script.answered.left) ∙ all

-- memory is refused after the script
pub Lacks-report : (old new : RunState) (told told_after : Option SinkState) (now : Standing) (before : Reports) → IsAnsweredRun old new told told_after now before → holds_back old.terms.saves now.refused ≡ false → (check_of old.terms.saves ≡ Quiet → ⊥) → StopsBy old new Memory
Lacks-report old new told told_after now before run all checked = inr (record {
  end = reaches_end old new new told told_after now before refl refl run;
  done = lines_done old new new told told_after now before refl refl run all;
  checked = checked;
})

-- how many problems are new of those that count, since these reports
pub record AreNew (level : Level) (before : Reports) (tables : Bool) (file : FileParts) (errors warnings : ℕ) : Type 0 where
  pub errors_are : errors ≡ new_error_count level before (reports_of tables file)
  pub warnings_are : warnings ≡ new_warning_count level before (reports_of tables file)

-- there are more where some are
some-more : (level : Level) (before : Reports) (tables : Bool) (file : FileParts) (errors warnings : ℕ) → AreNew level before tables file errors warnings → 0 < errors + warnings → HasMore level before (reports_of tables file)
some-more level before tables file errors warnings are some = some_new level before (reports_of tables file) (omega (arith, are.errors_are, are.warnings_are, some))

-- and none where none is, also since the reports of a run's file
none-more : (level : Level) (before first : Reports) (tables : Bool) (file : FileParts) (errors warnings : ℕ) → ((level ≡ Quiet → ⊥) → before ≡ first) → AreNew level before tables file errors warnings → errors + warnings ≤ 0 → HasMore level first (reports_of tables file) → ⊥
none-more level before first tables file errors warnings is are none more =
    let own : HasMore level before (reports_of tables file) = subst (λ (b : Reports). HasMore level b (reports_of tables file)) (sym (is (has_counts level first (reports_of tables file) more))) more in
    none_new level before tables file (omega (arith, are.errors_are, are.warnings_are, none)) own

-- the reports of a run's file, where some are new
its_report : (old new : RunState) (told told_after : Option SinkState) (now : Standing) (before : Reports) (run : IsAnsweredRun old new told told_after now before) (errors warnings : ℕ) → AreNew (check_of old.terms.saves) before old.terms.tables now.marked.file errors warnings → 0 < errors + warnings → before ≡ reports_of old.terms.tables run.parts
its_report old new told told_after now before run errors warnings are some =
    run.before_is (has_counts (check_of old.terms.saves) before (reports_of old.terms.tables now.marked.file) (some-more (check_of old.terms.saves) before old.terms.tables now.marked.file errors warnings are some))

-- problems are new
pub Unsound-printed : (old new last : RunState) (told told_after : Option SinkState) (now : Standing) (before : Reports) (errors warnings : ℕ) → last.file ≡ new.file → last.script ≡ new.script → IsAnsweredRun old new told told_after now before → holds_back old.terms.saves now.refused ≡ false
    → AreNew (check_of old.terms.saves) before old.terms.tables now.marked.file errors warnings → 0 < errors + warnings → Prints (new_lines (check_of old.terms.saves) before (reports_of old.terms.tables now.marked.file)) new.printed last.printed → last.printed.unflushed ≡ 0
    → IsUnsound old last errors warnings
unfolding reaches_end
Unsound-printed old new last told told_after now before errors warnings file script run all are some lines flushed =
    let own = its_report old new told told_after now before run errors warnings are some in
    record {
      answered = new.printed;
      end = reaches_end old new last told told_after now before file script run;
      done = lines_done old new last told told_after now before file script run all;
      more = rw own at (some-more (check_of old.terms.saves) before old.terms.tables now.marked.file errors warnings are some);
      some = some;
      errors_are = rw own at are.errors_are;
      warnings_are = rw own at are.warnings_are;
      lines = rw own at lines;
      flushed = flushed;
    }

-- their lines can't be written
pub New-errors-fail : (old new last : RunState) (told told_after : Option SinkState) (now : Standing) (before : Reports) (errors warnings : ℕ) → last.file ≡ new.file → last.script ≡ new.script → IsAnsweredRun old new told told_after now before → holds_back old.terms.saves now.refused ≡ false
    → AreNew (check_of old.terms.saves) before old.terms.tables now.marked.file errors warnings → 0 < errors + warnings → PrintsFront (new_lines (check_of old.terms.saves) before (reports_of old.terms.tables now.marked.file)) new.printed last.printed
    → NewErrorsFail old last
unfolding reaches_end
New-errors-fail old new last told told_after now before errors warnings file script run all are some lines =
    let own = its_report old new told told_after now before run errors warnings are some in
    record {
      answered = new.printed;
      end = reaches_end old new last told told_after now before file script run;
      done = lines_done old new last told told_after now before file script run all;
      more = rw own at (some-more (check_of old.terms.saves) before old.terms.tables now.marked.file errors warnings are some);
      lines = rw own at lines;
    }

-- what is wanted, and kept back by nothing, is due
due_of : (saves : Saves) (output : Output) (before after : Reports) (whole : Bool) (check : Level) → saves ≡ Made whole check → holds_back saves output.undone ≡ false → (HasMore (check_of saves) before after → ⊥) → IsDue saves output before after
due_of saves output before after whole check is done sound = rw is (rw is at done, rw is at sound)

-- nothing keeps the result from being saved
is_due : (old new : RunState) (told told_after : Option SinkState) (now : Standing) (before : Reports) (whole : Bool) (check : Level) (errors warnings : ℕ) (run : IsAnsweredRun old new told told_after now before) → old.terms.saves ≡ Made whole check → holds_back old.terms.saves now.refused ≡ false
    → AreNew (check_of old.terms.saves) before old.terms.tables now.marked.file errors warnings → errors + warnings ≤ 0
    → IsDue old.terms.saves (reaches_end old new new told told_after now before refl refl run).run.output (reports_of old.terms.tables run.parts) (reports_of old.terms.tables now.marked.file)
is_due old new told told_after now before whole check errors warnings run is all are none =
    let done = lines_done old new new told told_after now before refl refl run all in
    let sound = none-more (check_of old.terms.saves) before (reports_of old.terms.tables run.parts) old.terms.tables now.marked.file errors warnings run.before_is are none in
    due_of old.terms.saves _ (reports_of old.terms.tables run.parts) (reports_of old.terms.tables now.marked.file) whole check is done sound

-- so it is to be
pub Comes-due : (old new : RunState) (told told_after : Option SinkState) (now : Standing) (before : Reports) (whole : Bool) (check : Level) (errors warnings : ℕ) → IsAnsweredRun old new told told_after now before → old.terms.saves ≡ Made whole check → holds_back old.terms.saves now.refused ≡ false
    → AreNew (check_of old.terms.saves) before old.terms.tables now.marked.file errors warnings → errors + warnings ≤ 0 → ComesDue old new (saved_bytes old.terms now) (status_of now)
unfolding reaches_end
Comes-due old new told told_after now before whole check errors warnings run is all are none = record {
  end = reaches_end old new new told told_after now before refl refl run;
  due = is_due old new told told_after now before whole check errors warnings run is all are none;
  bytes_are = ap (saved_bytes old.terms) run.script.answered.left;
  status_is = ap status_of run.script.answered.left;
}

-- what is due is saved once it is printed and flushed
due_saved : (saves : Saves) (output : Output) (before after : Reports) (saved holds : SinkState) → IsDue saves output before after → Prints output.saved saved holds → holds.unflushed ≡ 0 → IsSaved saves output before after saved holds
due_saved Nothing output before after saved holds due printed flushed = absurd due
due_saved (Made whole check) output before after saved holds due printed flushed = (due, printed, flushed)

-- so the run ends
pub Succeeds-due : (old new : RunState) (saved holds : SinkState) (bytes : List ℕ) (status : ℕ) → ComesDue old new bytes status → Prints bytes saved holds → holds.unflushed ≡ 0 → Succeeds old new saved holds status
Succeeds-due old new saved holds bytes status it printed flushed = record {
  end = it.end;
  status_is = it.status_is;
  result = due_saved old.terms.saves it.end.run.output it.end.before it.end.after saved holds it.due (subst (λ (t : List ℕ). Prints t saved holds) it.bytes_are printed) flushed;
}

-- as one does by a plan that makes it
pub Ends-planned : (old new : RunState) (file bytes : List ℕ) (status : ℕ) (plan : Plan) → ComesDue old new bytes status → MakesBytes file bytes plan → EndsByPlan old new file (Done status) plan
Ends-planned old new file bytes status plan it makes = record {
  agrees = makes.agrees;
  ends = λ was now printed flushed. Succeeds-due old new was now bytes status it (subst (λ (t : List ℕ). Prints t was now) makes.gives printed) flushed;
}

-- whether it is saved or planned
pub Ends-over : (len : ℕ) (file : List ℕ) (old new : RunState) (saved holds : SinkState) (bytes : List ℕ) (status : ℕ) (found : Option Plan) → ComesDue old new bytes status → PlansOrSaves len file bytes saved holds found → EndsOver len file old new saved holds (Ok (record { edited = Done status; plan = found }))
Ends-over len file old new saved holds bytes status None it saves = Succeeds-due old new saved holds bytes status it saves.0 saves.1
Ends-over len file old new saved holds bytes status (Some plan) it plans = (plans.0, λ size. Ends-planned old new file bytes status plan it (plans.1 size))

-- data are read again where the file is stored alone
again_stored : (stored : Bool) (fault : Fault) → fault ≡ RereadFault again.Failed → (stored ≡ true) ⊎ IsOnce fault → stored ≡ true
again_stored stored fault is (inl there) = there
again_stored stored fault is (inr once) = absurd (subst IsOnce is once)

-- what is due can't be saved
pub Fails-due : (old new : RunState) (saved holds : SinkState) (bytes : List ℕ) (status : ℕ) (fault : Fault) → ComesDue old new bytes status → (old.stored ≡ true) ⊎ IsOnce fault → SaveFails bytes saved holds fault → FailsBy old new saved holds fault
Fails-due old new saved holds bytes status fault it re (inl fails) =
    inr (inl (fails.0, record { end = it.end; due = it.due; front = subst (λ (t : List ℕ). PrintsFront t saved holds) it.bytes_are fails.1 }))
Fails-due old new saved holds bytes status fault it re (inr fails) =
    inr (inr (
      again_stored old.stored fault fails.0 re,
      fails.0,
      record { end = it.end; due = it.due; count = fails.1.0; front = subst (λ (t : List ℕ). Prints (take fails.1.0 t) saved holds) it.bytes_are fails.1.1 },
    ))

-- a fault that is passed on ends a run
pub ends_exit : (old new : RunState) (saved holds : SinkState) (result : Result Edited Fault) (why : Fault) → IsErrAnd result (λ e. e ≡ why) → FailsBy old new saved holds why → EndsBy old new saved holds result
ends_exit old new saved holds result why is fails = let exit = err_from_is_err_and result is in rw (exit.1, exit.2) fails

-- or one that plans
pub over_exit : (len : ℕ) (file : List ℕ) (old new : RunState) (saved holds : SinkState) (result : Result Planned Fault) (why : Fault) → IsErrAnd result (λ e. e ≡ why) → FailsBy old new saved holds why → EndsOver len file old new saved holds result
over_exit len file old new saved holds result why is fails = let exit = err_from_is_err_and result is in rw (exit.1, exit.2) fails

-- how a run ends whose result nothing keeps back
pub EndsAs-free : (old new : RunState) (saved holds : SinkState) (result : Result Edited Fault) → is_whole old.terms.saves ≡ false → check_of old.terms.saves ≡ Quiet → EndsBy old new saved holds result → EndsAs old new saved holds (end_of result)
EndsAs-free old new saved holds (Ok (Done status)) any quiet ends = ends
EndsAs-free old new saved holds (Ok (KeptBack undone)) any quiet ends = absurd (let e = subst (λ w. (w && nat_lt 0 ends.0.end.run.output.undone) ≡ true) any ends.0.kept in cc)
EndsAs-free old new saved holds (Ok (Unsound errors warnings)) any quiet ends = absurd (has_counts (check_of old.terms.saves) ends.0.end.before ends.0.end.after ends.0.more quiet)
EndsAs-free old new saved holds (Err fault) any quiet ends = (ends, refl)

-- a run that wants no result saved saves nothing
pub EndsAs-asked : (manner : Manner) (stored : Bool) (file file_after script script_after : SourceState) (out out_after saved holds anywhere : SinkState) (result : Result Edited Fault)
    → EndsBy (run_by (asking manner) stored file script out) (run_by (asking manner) stored file_after script_after out_after) saved holds result
    → EndsAs (run_by (asking manner) stored file script out) (run_by (asking manner) stored file_after script_after out_after) anywhere anywhere (end_of result)
EndsAs-asked manner stored file file_after script script_after out out_after saved holds anywhere result ends =
    EndsAs-free (run_by (asking manner) stored file script out) (run_by (asking manner) stored file_after script_after out_after) anywhere anywhere result refl refl (moved result ends)
  where
    moved : (r : Result Edited Fault) → EndsBy (run_by (asking manner) stored file script out) (run_by (asking manner) stored file_after script_after out_after) saved holds r → EndsBy (run_by (asking manner) stored file script out) (run_by (asking manner) stored file_after script_after out_after) anywhere anywhere r
    moved (Ok (Done status)) e = record { end = e.end; status_is = e.status_is; result = refl }
    moved (Ok (KeptBack undone)) e = (e.0, refl)
    moved (Ok (Unsound errors warnings)) e = (e.0, refl)
    moved (Err fault) (inl e) = inl (e.0, refl)
    moved (Err fault) (inr (inl e)) = absurd e.1.due
    moved (Err fault) (inr (inr e)) = absurd e.2.due
