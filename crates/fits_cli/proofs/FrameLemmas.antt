-- What a run leaves, step by step, whatever the reads of its file gave.
use Rattle.std.proofs.Common.{◌≡◌, ℕ, List, [], ◌++◌, refl, sym, ap, subst, ◌∙◌, inl, inr, Result, Ok, Err, Option, None, Some}
use Rattle.std.specs.Result.{IfErr, IfOk, IsErrAnd, OnOk}
use Rattle.std.proofs.lemmas.Result.{err_from_is_err_and}
use Rattle.fits_unit.specs.Again.{CopyWrites, PrintsAs}
use Rattle.fits_cli.specs.declared.manner.Manner.{Manner}
use Rattle.fits_passing.specs.declared.look.Look.{Look}
use Rattle.fits_cli.specs.Terms.{look_of}
use Rattle.fits_unit.specs.declared.again.CopyFault.{CopyFault}
use Rattle.fits_unit.specs.declared.again.CopyFault.TheVariants.{Failed, Changed, Write}
use Rattle.fits_stream.specs.Stream.{SinkState, SourceState, FailsToFlush, Flushes, StaysQuiet}
use Rattle.fits_stream.proofs.StreamLemmas.{Prints-flushed, Prints-more, Prints-none, PrintsFront-more, PrintsFront-unflushed, quiet_none}
use Rattle.fits_passing.specs.declared.open_fault.OpenFault.TheVariants.{NotFits, NoEnd, BadShape, ShortData, TooLarge, Memory as OpenMemory}
use Rattle.fits_passing.specs.declared.read_file_fault.ReadFileFault.{ReadFileFault}
use Rattle.fits_passing.specs.declared.read_file_fault.ReadFileFault.TheVariants as opening
use Rattle.fits_cli.specs.Answer.{Standing}
use Rattle.fits_tell.specs.Faults.{fault_of_copy, fault_of_file, FlushFails, PrintFails}
use Rattle.fits_cli.specs.Ends.{end_of}
use Rattle.fits_cli.specs.Frame.{AnswersLeave, AsksLeave, EndLeaves, IsUnanswered, LeavesAs, LeavesFault, LinesLeave, PrintsPart, PrintsSome, ResultLeaves, SavingLeaves, ScriptAnswers, ScriptLeaves}
use Rattle.fits_cli.specs.Output.{saved_bytes}
use Rattle.fits_cli.specs.Planned.{LeavesOver, OverLeaves}
use Rattle.fits_cli.specs.Running.{FlushesAnswers}
use Rattle.fits_cli.specs.declared.edited.Edited.{Edited}
use Rattle.fits_cli.specs.declared.planned.Planned.{Planned}
use Rattle.fits_redo.specs.declared.plan.Plan.{Plan}
use Rattle.fits_tell.specs.declared.fault.Fault.{Fault}
use Rattle.fits_tell.specs.declared.fault.Fault.TheVariants.{Refused, ScriptTooLong, Memory, ReadFailed, WriteFailed, Reread as RereadFault}
use Rattle.fits_tell.specs.declared.level.Level.{Level}
use Rattle.fits_cli.specs.declared.saves.Saves.{Saves}
use Rattle.fits_cli.specs.declared.terms.Terms.{Terms}
use Rattle.fits_cli.specs.Terms.{asking}
use Rattle.fits_cli.proofs.EditingLemmas.{no_fault, same_fault}

-- nothing was written
pub some_none : (a : SinkState) → PrintsSome a a
some_none a = record { text = []; printed = Prints-none a }

-- more was
pub some_more : (a b c : SinkState) → PrintsSome a b → PrintsSome b c → PrintsSome a c
some_more a b c p q = record { text = p.text ++ q.text; printed = Prints-more a b c p.text q.text p.printed q.printed }

-- it was passed on
pub some_flushed : (a b c : SinkState) → PrintsSome a b → Flushes b c → PrintsSome a c
some_flushed a b c p flush = record { text = p.text; printed = Prints-flushed a b c p.text p.printed flush }

-- a call failed then
part_more : (a b c : SinkState) → PrintsSome a b → PrintsPart b c → PrintsPart a c
part_more a b c p q = record { text = p.text ++ q.text; front = PrintsFront-more a b c p.text q.text p.printed q.front }

-- it was the one that passes on
part_unflushed : (a b c : SinkState) → PrintsSome a b → FailsToFlush b c → PrintsPart a c
part_unflushed a b c p failed = record { text = p.text; front = PrintsFront-unflushed a b c p.text p.printed failed }

-- a line without an answer
pub line_none : (a : SinkState) (fault : Fault) → IsUnanswered fault → LinesLeave a a fault
line_none a (Refused why) is = absurd is
line_none a ScriptTooLong is = absurd is
line_none a Memory is = some_none a
line_none a ReadFailed is = absurd is
line_none a WriteFailed is = absurd is
line_none a (RereadFault why) is = some_none a

-- a line whose answer isn't written
pub line_part : (a b : SinkState) (text : List ℕ) (fault : Fault) → PrintFails text a b fault → LinesLeave a b fault
line_part a b text fault failed = rw failed.0 (record { text = text; front = failed.1 })

-- lines that were answered come before it
pub line_more : (a b c : SinkState) (fault : Fault) → PrintsSome a b → LinesLeave b c fault → LinesLeave a c fault
line_more a b c (Refused why) p q = absurd q
line_more a b c ScriptTooLong p q = absurd q
line_more a b c Memory p q = some_more a b c p q
line_more a b c ReadFailed p q = absurd q
line_more a b c WriteFailed p q = part_more a b c p q
line_more a b c (RereadFault why) p q = some_more a b c p q

-- or they aren't passed on
pub line_unflushed : (a b c : SinkState) (fault : Fault) → PrintsSome a b → FlushFails b c fault → LinesLeave a c fault
line_unflushed a b c fault p failed = rw failed.0 (part_unflushed a b c p failed.1)

-- lines that aren't all answered end a script
pub script_more : (old new : SourceState) (a b c : SinkState) (fault : Fault) → StaysQuiet old new → PrintsSome a b → LinesLeave b c fault → ScriptLeaves old new a c fault
script_more old new a b c (Refused why) quiet p q = absurd q
script_more old new a b c ScriptTooLong quiet p q = absurd q
script_more old new a b c Memory quiet p q = record { quiet = quiet; said = some_more a b c p q }
script_more old new a b c ReadFailed quiet p q = absurd q
script_more old new a b c WriteFailed quiet p q = (quiet, part_more a b c p q)
script_more old new a b c (RereadFault why) quiet p q = record { quiet = quiet; said = some_more a b c p q }

-- memory is refused on the way to the first line
pub script_none : (script : SourceState) (out : SinkState) → ScriptAnswers script script out out
script_none script out = record { quiet = quiet_none script; said = some_none out }

-- answers that are passed on
flushed_answers : (old new : SourceState) (a b c : SinkState) → ScriptAnswers old new a b → Flushes b c → ScriptAnswers old new a c × (c.unflushed ≡ 0)
flushed_answers old new a b c p flush = (record { quiet = p.quiet; said = some_flushed a b c p.said flush }, flush.flushed)

-- a script was answered to its end, and its answers flushed
pub answers_done : (old new : SourceState) (a b c : SinkState) (answered result : Result (Unit {0}) Fault) (done : Unit {0}) → result ≡ Ok done → OnOk answered (ScriptAnswers old new a b) → FlushesAnswers answered result b c
    → ScriptAnswers old new a c × (c.unflushed ≡ 0)
answers_done old new a b c (Ok d) result done is said (inl flush) = flushed_answers old new a b c said flush.1
answers_done old new a b c (Ok d) result done is said (inr flush) = absurd (no_fault result done WriteFailed is flush.0)
answers_done old new a b c (Err (Refused why)) result done is said (inl flush) = absurd (no_fault result done (Refused why) is flush.0)
answers_done old new a b c (Err (Refused why)) result done is said (inr flush) = absurd (no_fault result done WriteFailed is flush.0)
answers_done old new a b c (Err ScriptTooLong) result done is said (inl flush) = absurd (no_fault result done ScriptTooLong is flush.0)
answers_done old new a b c (Err ScriptTooLong) result done is said (inr flush) = absurd (no_fault result done WriteFailed is flush.0)
answers_done old new a b c (Err Memory) result done is said (inl flush) = absurd (no_fault result done Memory is flush.0)
answers_done old new a b c (Err Memory) result done is said (inr flush) = absurd (no_fault result done WriteFailed is flush.0)
answers_done old new a b c (Err (RereadFault why)) result done is said (inl flush) = absurd (no_fault result done (RereadFault why) is flush.0)
answers_done old new a b c (Err (RereadFault why)) result done is said (inr flush) = absurd (no_fault result done WriteFailed is flush.0)
answers_done old new a b c (Err ReadFailed) result done is said flush = absurd (no_fault result done ReadFailed is flush.0)
answers_done old new a b c (Err WriteFailed) result done is said flush = absurd (no_fault result done WriteFailed is flush.0)

-- the flush is the fault
unflushed_answers : (old new : SourceState) (a b c : SinkState) (result : Result (Unit {0}) Fault) (fault : Fault) → result ≡ Err fault → ScriptAnswers old new a b → (result ≡ Err WriteFailed) × FailsToFlush b c → AnswersLeave old new a c fault
unflushed_answers old new a b c result fault is said flush =
    subst (λ (f : Fault). AnswersLeave old new a c f) (same_fault result WriteFailed fault flush.0 is) (said.quiet, part_unflushed a b c said.said flush.1)

-- it wasn't, or its answers weren't
pub answers_stop : (old new : SourceState) (a b c : SinkState) (answered result : Result (Unit {0}) Fault) (fault : Fault) → result ≡ Err fault → OnOk answered (ScriptAnswers old new a b) → IfErr answered (ScriptLeaves old new a b) → FlushesAnswers answered result b c
    → AnswersLeave old new a c fault
answers_stop old new a b c (Ok d) result fault is said stops (inl flush) = absurd (no_fault result d fault flush.0 is)
answers_stop old new a b c (Ok d) result fault is said stops (inr flush) = unflushed_answers old new a b c result fault is said flush
answers_stop old new a b c (Err (Refused why)) result fault is said stops flush = absurd stops
answers_stop old new a b c (Err ScriptTooLong) result fault is said stops (inl flush) =
    subst (λ (f : Fault). AnswersLeave old new a c f) (same_fault result ScriptTooLong fault flush.0 is) (flushed_answers old new a b c stops flush.1)
answers_stop old new a b c (Err ScriptTooLong) result fault is said stops (inr flush) = unflushed_answers old new a b c result fault is stops flush
answers_stop old new a b c (Err Memory) result fault is said stops (inl flush) =
    subst (λ (f : Fault). AnswersLeave old new a c f) (same_fault result Memory fault flush.0 is) (flushed_answers old new a b c stops flush.1).0
answers_stop old new a b c (Err Memory) result fault is said stops (inr flush) = unflushed_answers old new a b c result fault is stops flush
answers_stop old new a b c (Err (RereadFault why)) result fault is said stops (inl flush) =
    subst (λ (f : Fault). AnswersLeave old new a c f) (same_fault result (RereadFault why) fault flush.0 is) (flushed_answers old new a b c stops flush.1)
answers_stop old new a b c (Err (RereadFault why)) result fault is said stops (inr flush) = unflushed_answers old new a b c result fault is stops flush
answers_stop old new a b c (Err ReadFailed) result fault is said stops flush = subst (λ (f : Fault). AnswersLeave old new a c f) (same_fault result ReadFailed fault flush.0 is) stops.0
answers_stop old new a b c (Err WriteFailed) result fault is said stops flush =
    subst (λ (f : Fault). AnswersLeave old new a c f) (same_fault result WriteFailed fault flush.0 is) (subst (λ (s : SinkState). StaysQuiet old new × PrintsPart a s) (sym flush.1) stops)

-- what was written of a file that isn't saved whole
pub saving_of : (old new : SinkState) (why : CopyFault) → CopyWrites old new why → SavingLeaves old new (fault_of_copy why)
saving_of old new Failed p = record { text = p.0; printed = p.1 }
saving_of old new Changed p = record { text = p.0; printed = p.1 }
saving_of old new Write p = record { text = p.0; front = p.1 }

-- or isn't passed on
pub saving_unflushed : (Is : List ℕ → Type 0) (len : ℕ) (a b c : SinkState) (fault : Fault) → PrintsAs Is len a b → FlushFails b c fault → SavingLeaves a c fault
saving_unflushed Is len a b c fault p failed = rw failed.0 (record { text = p.like; front = PrintsFront-unflushed a b c p.like p.written failed.1 })

-- what is like a file is so once it is passed on
pub like_flushed : (Is : List ℕ → Type 0) (len : ℕ) (a b c : SinkState) → PrintsAs Is len a b → Flushes b c → PrintsAs Is len a c
like_flushed Is len a b c p flush = record { like = p.like; size = p.size; is = p.is; written = Prints-flushed a b c p.like p.written flush }

-- a run that ends after its answers
leaves_result : (saves : Saves) (script script' : SourceState) (out mid out' saved holds : SinkState) (fault : Fault) → ScriptAnswers script script' out mid → mid.unflushed ≡ 0 → ResultLeaves saves mid out' saved holds fault → LeavesFault saves script script' out out' saved holds fault
leaves_result saves script script' out mid out' saved holds (Refused why) answers flushed p = absurd p
leaves_result saves script script' out mid out' saved holds ScriptTooLong answers flushed p = absurd p
leaves_result saves script script' out mid out' saved holds Memory answers flushed p = (subst (λ (s : SinkState). ScriptAnswers script script' out s) (sym p.0) answers, p.1)
leaves_result saves script script' out mid out' saved holds ReadFailed answers flushed p = absurd p
leaves_result saves script script' out mid out' saved holds WriteFailed answers flushed (inl p) = (answers.quiet, inl (part_more out mid out' answers.said p.0, p.1))
leaves_result saves script script' out mid out' saved holds WriteFailed answers flushed (inr p) =
    (answers.quiet, inr (subst (λ (s : SinkState). PrintsSome out s) (sym p.0) answers.said, ap (λ (s : SinkState). s.unflushed) p.0 ∙ flushed, p.1))
leaves_result saves script script' out mid out' saved holds (RereadFault why) answers flushed p =
    (subst (λ (s : SinkState). ScriptAnswers script script' out s) (sym p.0) answers, ap (λ (s : SinkState). s.unflushed) p.0 ∙ flushed, p.1)

-- a run that comes to its end
pub leaves_answered : (terms : Terms) (script script' : SourceState) (out mid out' saved holds : SinkState) (now : Standing) (result : Result Edited Fault) → ScriptAnswers script script' out mid × (mid.unflushed ≡ 0)
    → OnOk result (PrintsSome mid out') → OnOk result (mid.unflushed ≡ 0 → out'.unflushed ≡ 0) → IfOk result (EndLeaves (look_of terms) terms.saves (saved_bytes terms now) saved holds) → IfErr result (ResultLeaves terms.saves mid out' saved holds)
    → LeavesAs terms script script' out out' saved holds result
leaves_answered terms script script' out mid out' saved holds now (Ok it) answers said flushed ends stops = record {
  answers = record { quiet = answers.0.quiet; said = some_more out mid out' answers.0.said said };
  flushed = flushed answers.1;
  now = now;
  result = ends;
}
leaves_answered terms script script' out mid out' saved holds now (Err fault) answers said flushed ends stops = leaves_result terms.saves script script' out mid out' saved holds fault answers.0 answers.1 stops

-- or by a plan
pub over_answered : (terms : Terms) (script script' : SourceState) (out mid out' saved holds : SinkState) (now : Standing) (result : Result Planned Fault) → ScriptAnswers script script' out mid × (mid.unflushed ≡ 0)
    → OnOk result (PrintsSome mid out') → OnOk result (mid.unflushed ≡ 0 → out'.unflushed ≡ 0) → IfOk result (OverLeaves (look_of terms) terms.saves (saved_bytes terms now) saved holds) → IfErr result (ResultLeaves terms.saves mid out' saved holds)
    → LeavesOver terms script script' out out' saved holds result
over_answered terms script script' out mid out' saved holds now (Ok it) answers said flushed ends stops = ended it.edited it.plan ends
  where
    ended : (edited : Edited) (plan : Option Plan) → OverLeaves (look_of terms) terms.saves (saved_bytes terms now) saved holds (record { edited = edited; plan = plan }) → LeavesOver terms script script' out out' saved holds (Ok (record { edited = edited; plan = plan }))
    ended edited None p = record { answers = record { quiet = answers.0.quiet; said = some_more out mid out' answers.0.said said }; flushed = flushed answers.1; now = now; result = p }
    ended edited (Some plan) p = record { answers = record { quiet = answers.0.quiet; said = some_more out mid out' answers.0.said said }; flushed = flushed answers.1; done = p.0; saved_is = p.1 }
over_answered terms script script' out mid out' saved holds now (Err fault) answers said flushed ends stops = leaves_result terms.saves script script' out mid out' saved holds fault answers.0 answers.1 stops

-- a run that ends before its script does
pub leaves_stopped : (saves : Saves) (script script' : SourceState) (out out' saved : SinkState) (fault : Fault) → AnswersLeave script script' out out' fault → LeavesFault saves script script' out out' saved saved fault
leaves_stopped saves script script' out out' saved (Refused why) p = absurd p
leaves_stopped saves script script' out out' saved ScriptTooLong p = (p.0, p.1, refl)
leaves_stopped saves script script' out out' saved Memory p = (p, refl)
leaves_stopped saves script script' out out' saved ReadFailed p = (inl p, refl)
leaves_stopped saves script script' out out' saved WriteFailed p = (p.0, inl (p.1, refl))
leaves_stopped saves script script' out out' saved (RereadFault why) p = (p.0, p.1, some_none saved)

-- the fault is passed on
pub leaves_exit : (terms : Terms) (script script' : SourceState) (out out' saved holds : SinkState) (result : Result Edited Fault) (why : Fault) → IsErrAnd result (λ e. e ≡ why) → LeavesFault terms.saves script script' out out' saved holds why → LeavesAs terms script script' out out' saved holds result
leaves_exit terms script script' out out' saved holds result why is p = let exit = err_from_is_err_and result is in rw (exit.1, exit.2) p

-- also where it plans
pub over_stopped : (terms : Terms) (script script' : SourceState) (out out' saved holds : SinkState) (result : Result Planned Fault) (why : Fault) → IsErrAnd result (λ e. e ≡ why) → LeavesFault terms.saves script script' out out' saved holds why → LeavesOver terms script script' out out' saved holds result
over_stopped terms script script' out out' saved holds result why is p = let exit = err_from_is_err_and result is in rw (exit.1, exit.2) p

-- a file that doesn't open
pub leaves_unread : (saves : Saves) (script : SourceState) (out saved : SinkState) (why : ReadFileFault) → LeavesFault saves script script out out saved saved (fault_of_file why)
leaves_unread saves script out saved (opening.Open NotFits) = (refl, refl, refl)
leaves_unread saves script out saved (opening.Open (NoEnd hdu)) = (refl, refl, refl)
leaves_unread saves script out saved (opening.Open (BadShape hdu place)) = (refl, refl, refl)
leaves_unread saves script out saved (opening.Open (ShortData hdu)) = (refl, refl, refl)
leaves_unread saves script out saved (opening.Open TooLarge) = (refl, refl, refl)
leaves_unread saves script out saved (opening.Open OpenMemory) = (script_none script out, refl)
leaves_unread saves script out saved opening.Failed = (inr (refl, refl), refl)

-- a run that saves nothing
pub asks_leave : (manner : Manner) (script script' : SourceState) (out out' saved holds : SinkState) (result : Result Edited Fault) → LeavesAs (asking manner) script script' out out' saved holds result → AsksLeave script script' out out' (end_of result)
asks_leave manner script script' out out' saved holds (Ok it) p = (p.answers, p.flushed)
asks_leave manner script script' out out' saved holds (Err (Refused why)) p = (p.0, p.1)
asks_leave manner script script' out out' saved holds (Err ScriptTooLong) p = (p.0, p.1)
asks_leave manner script script' out out' saved holds (Err Memory) p = p.0
asks_leave manner script script' out out' saved holds (Err ReadFailed) p = p.0
asks_leave manner script script' out out' saved holds (Err WriteFailed) p = (p.0, elim p.1 [ inl part ↦ part.0 | inr never ↦ absurd never.2 ])
asks_leave manner script script' out out' saved holds (Err (RereadFault why)) p = (p.0, p.1)
