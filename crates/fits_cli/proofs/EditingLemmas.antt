-- A whole run of `edit`, from the bytes that were read to its end.
use Rattle.std.proofs.Common.{◌≡◌, ◌⊎◌, ℕ, ◌<◌, ◌≤◌, List, [], ◌∷◌, ◌++◌, length, refl, ap, sym, subst, ◌∙◌, inl, inr, rules, arith, true, false, Result, Ok, Err, Option, None, Some}
use Rattle.std.specs.Prelude.{nat_le, if◌then◌else◌, IfSome}
use Rattle.std.specs.Result.{OnOk, IfErr, IsErrAnd}
use Rattle.std.proofs.lemmas.Result.{err_from_is_err_and}
use Rattle.std.specs.Io.KnownBytes.{Consumes, IsAtEnd}
use Rattle.fits_stream.specs.Gave.{Gave, GaveAll}
use Rattle.fits_stream.specs.Intake.{Gives, Tells}
use Rattle.fits_stream.specs.Stream.{SourceState, SinkState, FailsToFlush, Flushes, Gains, IsDry, Prints, PrintsFront, Reads, StaysQuiet}
use Rattle.fits_stream.specs.Log.{Logs}
use Rattle.fits_stream.proofs.LogLemmas.{Logs-none}
use Rattle.fits_stream.proofs.StreamLemmas.{Consumes-none, quiet_none, quiet_read}
use Rattle.std.proofs.lemmas.List.{append-nil, take_all}
use Rattle.fits_passing.specs.File.{file_bytes, FileParts, IsFile, IsFileOf}
use Rattle.fits_passing.specs.Opening.{HasOpenFault}
use Rattle.fits_passing.specs.Reading.{GaveFault, ReadStops}
use Rattle.fits_passing.specs.declared.open_fault.OpenFault.{OpenFault}
use Rattle.fits_passing.specs.declared.open_fault.OpenFault.TheVariants.{NotFits, NoEnd, BadShape, ShortData, TooLarge, Memory as OpenMemory}
use Rattle.fits_passing.specs.declared.read_file_fault.ReadFileFault.{ReadFileFault}
use Rattle.fits_passing.specs.declared.read_file_fault.ReadFileFault.TheVariants.{Open, Failed}
use Rattle.fits_cli.specs.Answer.{Standing, at_first_line}
use Rattle.fits_cli.specs.Ends.{end_of, RunState, AreToldOf, FlushesOrFails, GaveFile, IsQuiet, HasLines, LacksWantedData, IsRefused, AnswersFail, RemarksBy, RemarksEndAs, StopsBy}
use Rattle.fits_tell.specs.Faults.{fault_of_file}
use Rattle.fits_cli.specs.Terms.{check_of}
use Rattle.fits_cli.specs.declared.edited.Edited.{Edited}
use Rattle.fits_cli.specs.declared.planned.Planned.{Planned}
use Rattle.fits_tell.specs.declared.level.Level.TheVariants.{Quiet}
use Rattle.fits_cli.specs.declared.limits.TheConstants.{SCRIPT_LIMIT}
use Rattle.fits_cli.specs.Remark.{remarks, Remarks}
use Rattle.fits_cli.specs.Output.{Output, answers, standing_after, output_unopened, output_of_lines, output_too_long, IsOutputOf}
use Rattle.fits_cli.specs.Planned.{edited_of}
use Rattle.fits_cli.specs.Reports.{reports_of, Reports}
use Rattle.fits_cli.specs.Running.{Heard, heard, AnswersScript, AnswersTooLong, NeedsMemoryAt, ScriptLacksData, ScriptReadFails, ScriptWriteFails, ScriptStops, FlushesThen, FlushesAnswers, IsAnsweredRun}
use Rattle.fits_cli.specs.Script.{script_lines}
use Rattle.fits_tell.specs.declared.fault.Fault.{Fault}
use Rattle.fits_tell.specs.declared.fault.Fault.TheVariants.{Refused, ScriptTooLong, Memory, ReadFailed, WriteFailed, Reread as RereadFault}
use Rattle.fits_tell.specs.declared.reread.Reread.{Reread}
use Rattle.fits_cli.specs.declared.terms.Terms.{Terms}
use Rattle.fits_cli.specs.Faults.{IsOnce}
use Rattle.fits_cli.proofs.LinesLemmas.{IsCutInLines-none}
use Rattle.fits_cli.proofs.ResultLemmas.{own_bytes}
use Rattle.fits_cli.proofs.RunLemmas.{answers-append, answers-none}
use Rattle.fits_stream.proofs.StreamLemmas.{Gains-kept, Prints-none, Prints-flushed, PrintsFront-unflushed, PrintsFront-longer}

-- a file that opens is what was given to the end
pub gave_file : (old new : SourceState) (parts : FileParts) → Gives old (λ bytes. IsFileOf bytes parts) → Gave old new (file_bytes parts) → GaveFile old new parts
gave_file old new parts gives gave = record {
  told = subst (λ (bytes : List ℕ). Tells old bytes) gives.2.front.joined gives.1;
  gave = gave;
  is = own_bytes gives.0 parts gives.2;
}

-- bytes that a source had
some_known : (left : Option (List ℕ)) → (bytes : List ℕ) × IfSome left (λ xs. xs ≡ bytes)
some_known None = ([], tt)
some_known (Some xs) = (xs, refl)

-- bytes that it tells
some_bytes : (source : SourceState) → (bytes : List ℕ) × Tells source bytes
some_bytes source = some_known source.remaining

-- a source that wasn't read
quiet_same : (a b : SourceState) → b ≡ a → StaysQuiet a b
quiet_same a b same = subst (λ (s : SourceState). StaysQuiet a s) (sym same) (quiet_none a)

-- a sink that wasn't touched
Prints-same : (a b : SinkState) → b ≡ a → Prints [] a b
Prints-same a b same = subst (λ (s : SinkState). Prints [] a s) (sym same) (Prints-none a)

-- a file whose bytes don't open: no other stream is touched
IsRefused-opening : (old new : RunState) (why : OpenFault) → new.script ≡ old.script → new.printed ≡ old.printed → Gives old.file (λ bytes. HasOpenFault bytes why) × StaysQuiet old.file new.file → GaveAll old.file new.file (λ bytes. HasOpenFault bytes why) → IsRefused old new why
IsRefused-opening old new why script printed stops gave = record {
  run =
      let other = some_bytes old.script in
      record {
        file = stops.0.0;
        script = other.0;
        output = output_unopened why;
        told_file = stops.0.1;
        told_script = other.1;
        is = inl (record { why = why; fails = stops.0.2; is = refl });
        printed = Prints-same old.printed new.printed printed;
        fault_is = refl;
        read = record { of_file = inr stops.1; of_script = quiet_same old.script new.script script };
      };
  gave = gave;
  script = script;
  printed = printed;
}

-- memory is refused before the first line
pub StopsBy-unread : (old new : RunState) → IsQuiet old.stored old.file new.file → new.script ≡ old.script → new.printed ≡ old.printed → StopsBy old new Memory
StopsBy-unread old new of_file script printed =
    inl (record { read = record { of_file = of_file; of_script = quiet_same old.script new.script script }; printed = inl (script, Prints-same old.printed new.printed printed) })

-- a file that isn't read
pub StopsBy-opening : (old new : RunState) (why : ReadFileFault) → new.script ≡ old.script → new.printed ≡ old.printed → ReadStops old.file new.file why → GaveFault old.file new.file why → StopsBy old new (fault_of_file why)
StopsBy-opening old new (Open NotFits) script printed stops gave = IsRefused-opening old new NotFits script printed stops gave
StopsBy-opening old new (Open (NoEnd hdu)) script printed stops gave = IsRefused-opening old new (NoEnd hdu) script printed stops gave
StopsBy-opening old new (Open (BadShape hdu place)) script printed stops gave = IsRefused-opening old new (BadShape hdu place) script printed stops gave
StopsBy-opening old new (Open (ShortData hdu)) script printed stops gave = IsRefused-opening old new (ShortData hdu) script printed stops gave
StopsBy-opening old new (Open TooLarge) script printed stops gave = IsRefused-opening old new TooLarge script printed stops gave
StopsBy-opening old new (Open OpenMemory) script printed stops gave = StopsBy-unread old new (inr stops) script printed
StopsBy-opening old new Failed script printed stops gave = inl (record { failed = stops; script = script; printed = printed })

-- what comes within a limit
choice-within : (n limit : ℕ) (a b : Output) → n ≤ limit → a ≡ (if nat_le n limit then a else b)
choice-within n limit a b le = let test : nat_le n limit ≡ true = search rules in rw test refl

-- what goes past it
choice-over : (n limit : ℕ) (a b : Output) → limit < n → b ≡ (if nat_le n limit then a else b)
choice-over n limit a b over = let test : nat_le n limit ≡ false = search rules in rw test refl

-- the output of a script that is answered whole
pub output_whole : (terms : Terms) (old new : SourceState) (parts : FileParts) (now : Standing) (held holds : Heard) (is : IsFile parts) (done : AnswersScript old new (at_first_line terms parts) now held holds)
    → IsOutputOf terms (file_bytes parts) done.script (output_of_lines terms parts (script_lines done.lines done.last))
output_whole terms old new parts now held holds is done = inr (record {
  parts = parts;
  lines = done.lines;
  last = done.last;
  opens = is;
  cut = rw (take_all SCRIPT_LIMIT done.script done.short) done.cut;
  is = choice-within (length done.script) SCRIPT_LIMIT (output_of_lines terms parts (script_lines done.lines done.last)) (output_too_long terms parts done.lines) done.short;
})

-- a script that was read to its end
known_told : (a b : Option (List ℕ)) (bytes : List ℕ) → Consumes a b bytes → IsAtEnd b → IfSome a (λ xs. xs ≡ bytes)
known_told None b bytes read ended = tt
known_told (Some xs) None bytes read ended = absurd read
known_told (Some xs) (Some ys) bytes read ended = read ∙ ap (λ t. bytes ++ t) ended ∙ append-nil bytes

-- so all that it had is told
pub script_told : (a b : SourceState) (bytes : List ℕ) → Reads bytes a b → IsDry b → Tells a bytes
script_told a b bytes read ended = known_told a.remaining b.remaining bytes read.gone ended.left

-- all its lines
all_lines : (old new : SourceState) (before now : Standing) (held holds : Heard) (done : AnswersScript old new before now held holds) → HasLines old new (script_lines done.lines done.last)
all_lines old new before now held holds done = record {
  whole = done.lines;
  last = done.last;
  reached = record { came = done.script; read = done.read.gone; log = done.read.log; cut = rw (take_all SCRIPT_LIMIT done.script done.short) done.cut };
  are = inr (done.ended, done.short, refl);
}

-- the answers to some lines can't be flushed
AnswersFail-flush : (old new : RunState) (mid : SinkState) (parts : FileParts) (lines others all : List (List ℕ)) → IsQuiet old.stored old.file new.file → StaysQuiet old.script new.script
    → GaveFile old.file new.file parts → HasLines old.script new.script all → all ≡ lines ++ others → Prints (answers (at_first_line old.terms parts) lines) old.printed mid → FailsToFlush mid new.printed → AnswersFail old new
AnswersFail-flush old new mid parts lines others all of_file of_script opened has split printed failed = record {
  read = record { of_file = of_file; of_script = of_script };
  parts = parts;
  lines = all;
  opened = opened;
  reached = has;
  printed =
      let first : Standing = at_first_line old.terms parts in
      let whole : answers first all ≡ answers first lines ++ answers (standing_after first lines) others = ap (answers first) split ∙ answers-append first lines others in
      rw whole (PrintsFront-longer old.printed new.printed (answers first lines) (answers (standing_after first lines) others)
      (PrintsFront-unflushed old.printed mid new.printed (answers first lines) printed failed));
}

-- two faults in one place
pub same_fault : (r : Result (Unit {0}) Fault) (a b : Fault) → r ≡ Err a → r ≡ Err b → a ≡ b
same_fault r a b p q = let e : ◌≡◌ {A = Result (Unit {0}) Fault} (Err a) (Err b) = sym p ∙ q in cc

-- done and a fault in one place
pub no_fault : (r : Result (Unit {0}) Fault) (a : Unit {0}) (b : Fault) → r ≡ Ok a → r ≡ Err b → ⊥
no_fault r a b p q = let e : ◌≡◌ {A = Result (Unit {0}) Fault} (Ok a) (Err b) = sym p ∙ q in absurd (cc)

-- a fault after the script, with its answers flushed or not
abbrev Ended : Result (Unit {0}) Fault → Fault → SinkState → SinkState → Type 0
Ended result why mid out = ((result ≡ Err why) × Flushes mid out) ⊎ ((result ≡ Err WriteFailed) × FailsToFlush mid out)

-- a run whose script was answered whole, and whose answers aren't flushed
StopsBy-done : (old new : RunState) (mid : SinkState) (told told_after : Option SinkState) (result : Result (Unit {0}) Fault) (fault : Fault) (parts : FileParts) (now : Standing) → result ≡ Err fault
    → GaveFile old.file new.file parts → IsQuiet old.stored old.file new.file
    → AnswersScript old.script new.script (at_first_line old.terms parts) now (heard old.printed told) (heard mid told_after) → (result ≡ Err WriteFailed) × FailsToFlush mid new.printed → StopsBy old new fault
StopsBy-done old new mid told told_after result fault parts now is opened of_file done flush =
    let lines : List (List ℕ) = script_lines done.lines done.last in
    subst (λ (f : Fault). StopsBy old new f) (same_fault result WriteFailed fault flush.0 is)
    (inl (AnswersFail-flush old new mid parts lines [] lines of_file (quiet_read old.script new.script done.script done.read) opened
    (all_lines old.script new.script (at_first_line old.terms parts) now (heard old.printed told) (heard mid told_after) done) (sym (append-nil lines)) done.answered.said.printed flush.1))

-- a run whose script is too long
StopsBy-too_long : (old new : RunState) (mid : SinkState) (told told_after : Option SinkState) (result : Result (Unit {0}) Fault) (fault : Fault) (parts : FileParts) → result ≡ Err fault
    → GaveFile old.file new.file parts → IsQuiet old.stored old.file new.file
    → AnswersTooLong old.script new.script (at_first_line old.terms parts) (heard old.printed told) (heard mid told_after) → Ended result ScriptTooLong mid new.printed → StopsBy old new fault
StopsBy-too_long old new mid told told_after result fault parts is opened of_file long (inl flush) =
    subst (λ (f : Fault). StopsBy old new f) (same_fault result ScriptTooLong fault flush.0 is)
    (record {
      run = record {
        file = file_bytes parts;
        script = long.script;
        output = output_too_long old.terms parts long.lines;
        told_file = opened.told;
        told_script = long.told;
        is = inr (record {
          parts = parts;
          lines = long.lines;
          last = long.last;
          opens = opened.is;
          cut = long.cut;
          is = choice-over (length long.script) SCRIPT_LIMIT (output_of_lines old.terms parts (script_lines long.lines long.last)) (output_too_long old.terms parts long.lines) long.long;
        });
        printed = Prints-flushed old.printed mid new.printed (answers (at_first_line old.terms parts) long.lines) long.said.printed flush.1;
        fault_is = refl;
        read = record { of_file = of_file; of_script = long.quiet };
      };
      gave = opened.gave;
      printed = flush.1.flushed;
    })
StopsBy-too_long old new mid told told_after result fault parts is opened of_file long (inr flush) =
    subst (λ (f : Fault). StopsBy old new f) (same_fault result WriteFailed fault flush.0 is)
    (inl (AnswersFail-flush old new mid parts long.lines [] long.lines of_file long.quiet opened
    (record { whole = long.lines; last = long.last; reached = long.reached; are = inl refl }) (sym (append-nil long.lines)) long.said.printed flush.1))

-- before the first line
no_lines : (old new : SourceState) → new ≡ old → HasLines old new []
no_lines old new same = record {
  whole = [];
  last = [];
  reached = record { came = []; read = subst (λ (s : SourceState). Consumes old.remaining s.remaining []) (sym same) (Consumes-none old.remaining); log = subst (λ (s : SourceState). Logs old.log s.log []) (sym same) (Logs-none old.log); cut = IsCutInLines-none };
  are = inl refl;
}

-- a run whose script needs memory that is refused
StopsBy-memory : (old new : RunState) (mid : SinkState) (told told_after : Option SinkState) (result : Result (Unit {0}) Fault) (fault : Fault) (parts : FileParts) → result ≡ Err fault
    → GaveFile old.file new.file parts → IsQuiet old.stored old.file new.file → StaysQuiet old.script new.script
    → (new.script ≡ old.script × heard mid told_after ≡ heard old.printed told) ⊎ ((lines : List (List ℕ)) × HasLines old.script new.script lines × NeedsMemoryAt lines (at_first_line old.terms parts) (heard old.printed told) (heard mid told_after))
    → Ended result Memory mid new.printed → StopsBy old new fault
StopsBy-memory old new mid told told_after result fault parts is opened of_file of_script (inl none) (inl flush) =
    subst (λ (f : Fault). StopsBy old new f) (same_fault result Memory fault flush.0 is)
    (inl (record {
      read = record { of_file = of_file; of_script = of_script };
      printed = inl (none.0, Prints-flushed old.printed mid new.printed [] (Prints-same old.printed mid (ap (λ (h : Heard). h.out) none.1)) flush.1);
    }))
StopsBy-memory old new mid told told_after result fault parts is opened of_file of_script (inl none) (inr flush) =
    subst (λ (f : Fault). StopsBy old new f) (same_fault result WriteFailed fault flush.0 is)
    (inl (AnswersFail-flush old new mid parts [] [] [] of_file of_script opened (no_lines old.script new.script none.0) refl
    (rw (answers-none (at_first_line old.terms parts)) (Prints-same old.printed mid (ap (λ (h : Heard). h.out) none.1))) flush.1))
StopsBy-memory old new mid told told_after result fault parts is opened of_file of_script (inr some) (inl flush) =
    let at = some.2 in
    subst (λ (f : Fault). StopsBy old new f) (same_fault result Memory fault flush.0 is)
    (inl (record {
      read = record { of_file = of_file; of_script = of_script };
      printed = inr (record {
        parts = parts;
        lines = at.done;
        line = at.line;
        others = at.others;
        opened = opened;
        reached = subst (λ (ls : List (List ℕ)). HasLines old.script new.script ls) at.split some.1;
        needs = at.needs;
        printed = Prints-flushed old.printed mid new.printed (answers (at_first_line old.terms parts) at.done) at.said.printed flush.1;
        flushed = flush.1.flushed;
      });
    }))
StopsBy-memory old new mid told told_after result fault parts is opened of_file of_script (inr some) (inr flush) =
    let at = some.2 in
    subst (λ (f : Fault). StopsBy old new f) (same_fault result WriteFailed fault flush.0 is)
    (inl (AnswersFail-flush old new mid parts at.done (at.line ∷ at.others) some.0 of_file of_script opened some.1 at.split at.said.printed flush.1))

-- how the answers stand after a failed read, flushed or not
flushed_or_not : (a b c : SinkState) (text : List ℕ) → Prints text a b → Flushes b c ⊎ FailsToFlush b c → Gains a.contents c.contents text × FlushesOrFails a c
flushed_or_not a b c text printed (inl flush) = let whole = Prints-flushed a b c text printed flush in (whole.bytes, inl (whole.quiet, flush.flushed))
flushed_or_not a b c text printed (inr failed) = (Gains-kept a.contents b.contents c.contents text printed.bytes failed.bytes, inr (omega (arith, printed.quiet, failed.failed)))

-- a run whose script can't be read
StopsBy-read : (old new : RunState) (mid : SinkState) (told told_after : Option SinkState) (result : Result (Unit {0}) Fault) (fault : Fault) (parts : FileParts) → result ≡ Err fault
    → GaveFile old.file new.file parts → IsQuiet old.stored old.file new.file
    → ScriptReadFails old.script new.script (at_first_line old.terms parts) (heard old.printed told) (heard mid told_after) → (result ≡ Err ReadFailed) × (Flushes mid new.printed ⊎ FailsToFlush mid new.printed) → StopsBy old new fault
StopsBy-read old new mid told told_after result fault parts is opened of_file fails flush =
    let out = flushed_or_not old.printed mid new.printed (answers (at_first_line old.terms parts) fails.lines) fails.said.printed flush.1 in
    subst (λ (f : Fault). StopsBy old new f) (same_fault result ReadFailed fault flush.0 is)
    (inr (record {
      of_file = of_file;
      failed = fails.failed;
      parts = parts;
      lines = fails.lines;
      last = fails.last;
      opened = opened;
      reached = fails.reached;
      short = fails.short;
      printed = out.0;
      flushed = out.1;
    }))

-- a run whose answers can't be written
StopsBy-write : (old new : RunState) (mid : SinkState) (told told_after : Option SinkState) (result : Result (Unit {0}) Fault) (fault : Fault) (parts : FileParts) → result ≡ Err fault
    → GaveFile old.file new.file parts → IsQuiet old.stored old.file new.file
    → ScriptWriteFails old.script new.script (at_first_line old.terms parts) (heard old.printed told) (heard mid told_after) → (result ≡ Err WriteFailed) × (new.printed ≡ mid) → StopsBy old new fault
StopsBy-write old new mid told told_after result fault parts is opened of_file fails flush =
    subst (λ (f : Fault). StopsBy old new f) (same_fault result WriteFailed fault flush.0 is)
    (inl (record {
      read = record { of_file = of_file; of_script = fails.quiet };
      parts = parts;
      lines = fails.lines;
      opened = opened;
      reached = fails.reached;
      printed = subst (λ (s : SinkState). PrintsFront (answers (at_first_line old.terms parts) fails.lines) old.printed s) (sym flush.1) fails.front.printed;
    }))

-- a run that wants data again, which it doesn't have
StopsBy-pixels : (old new : RunState) (mid : SinkState) (told told_after : Option SinkState) (result : Result (Unit {0}) Fault) (why : Reread) (fault : Fault) (parts : FileParts) → result ≡ Err fault → old.stored ≡ true
    → GaveFile old.file new.file parts → IsQuiet old.stored old.file new.file
    → ScriptLacksData old.script new.script (at_first_line old.terms parts) (heard old.printed told) (heard mid told_after) why → Ended result (RereadFault why) mid new.printed → StopsBy old new fault
StopsBy-pixels old new mid told told_after result why fault parts is stored opened of_file lacks (inl flush) =
    let at = lacks.at in
    let here : LacksWantedData old new = record {
      read = record { of_file = of_file; of_script = lacks.quiet };
      at = record {
        parts = parts;
        lines = at.done;
        line = at.line;
        others = at.others;
        opened = opened;
        reached = subst (λ (ls : List (List ℕ)). HasLines old.script new.script ls) at.split lacks.reached;
        needs = at.needs;
        printed = Prints-flushed old.printed mid new.printed (answers (at_first_line old.terms parts) at.done) at.said.printed flush.1;
        flushed = flush.1.flushed;
      };
    } in
    subst (λ (f : Fault). StopsBy old new f) (same_fault result (RereadFault why) fault flush.0 is) (stored, lacks.unchanged, here)
StopsBy-pixels old new mid told told_after result why fault parts is stored opened of_file lacks (inr flush) =
    let at = lacks.at in
    subst (λ (f : Fault). StopsBy old new f) (same_fault result WriteFailed fault flush.0 is)
    (inl (AnswersFail-flush old new mid parts at.done (at.line ∷ at.others) lacks.lines of_file lacks.quiet opened lacks.reached at.split at.said.printed flush.1))

-- a flush that ends a run whose script was answered whole
flush_fails : (result : Result (Unit {0}) Fault) (done : Unit {0}) (fault : Fault) (mid out : SinkState) → result ≡ Err fault → FlushesThen (Ok done) result mid out → (result ≡ Err WriteFailed) × FailsToFlush mid out
flush_fails result done fault mid out is (inl flush) = absurd (no_fault result done fault flush.0 is)
flush_fails result done fault mid out is (inr flush) = flush

-- a run that ends after its script, before saving
pub StopsBy-script : (old new : RunState) (mid : SinkState) (told told_after : Option SinkState) (answered result : Result (Unit {0}) Fault) (fault : Fault) (parts : FileParts) (now : Standing) → result ≡ Err fault
    → GaveFile old.file new.file parts → IsQuiet old.stored old.file new.file → (old.stored ≡ true) ⊎ IfErr answered IsOnce
    → OnOk answered (AnswersScript old.script new.script (at_first_line old.terms parts) now (heard old.printed told) (heard mid told_after))
    → IfErr answered (ScriptStops old.script new.script (at_first_line old.terms parts) (heard old.printed told) (heard mid told_after))
    → FlushesAnswers answered result mid new.printed → StopsBy old new fault
StopsBy-script old new mid told told_after (Ok done) result fault parts now is opened of_file re ok err flush =
    StopsBy-done old new mid told told_after result fault parts now is opened of_file ok (flush_fails result done fault mid new.printed is flush)
StopsBy-script old new mid told told_after (Err (Refused why)) result fault parts now is opened of_file re ok err flush = absurd err
StopsBy-script old new mid told told_after (Err ScriptTooLong) result fault parts now is opened of_file re ok err flush = StopsBy-too_long old new mid told told_after result fault parts is opened of_file err flush
StopsBy-script old new mid told told_after (Err Memory) result fault parts now is opened of_file re ok err flush = StopsBy-memory old new mid told told_after result fault parts is opened of_file err.quiet err.at flush
StopsBy-script old new mid told told_after (Err ReadFailed) result fault parts now is opened of_file re ok err flush = StopsBy-read old new mid told told_after result fault parts is opened of_file err flush
StopsBy-script old new mid told told_after (Err WriteFailed) result fault parts now is opened of_file re ok err flush = StopsBy-write old new mid told told_after result fault parts is opened of_file err flush
StopsBy-script old new mid told told_after (Err (RereadFault why)) result fault parts now is opened of_file re ok err flush =
    elim re [ inl stored ↦ StopsBy-pixels old new mid told told_after result why fault parts is stored opened of_file err flush | inr once ↦ absurd once ]

-- nothing else is done
pub answered_run : (old new : RunState) (mid : SinkState) (told told_after : Option SinkState) (answered result : Result (Unit {0}) Fault) (done : Unit {0}) (parts : FileParts) (now : Standing) (before : Reports) → result ≡ Ok done
    → GaveFile old.file new.file parts → IsQuiet old.stored old.file new.file → ((check_of old.terms.saves ≡ Quiet → ⊥) → before ≡ reports_of old.terms.tables parts)
    → OnOk answered (AnswersScript old.script new.script (at_first_line old.terms parts) now (heard old.printed told) (heard mid told_after)) → FlushesAnswers answered result mid new.printed → IsAnsweredRun old new told told_after now before
answered_run old new mid told told_after (Ok a) result done parts now before is opened read before_is ok (inl flush) = record { parts = parts; opened = opened; read = read; mid = mid; script = ok; flush = flush.1; before_is = before_is }
answered_run old new mid told told_after (Ok a) result done parts now before is opened read before_is ok (inr flush) = absurd (no_fault result done WriteFailed is flush.0)
answered_run old new mid told told_after (Err (Refused why)) result done parts now before is opened read before_is ok (inl flush) = absurd (no_fault result done (Refused why) is flush.0)
answered_run old new mid told told_after (Err (Refused why)) result done parts now before is opened read before_is ok (inr flush) = absurd (no_fault result done WriteFailed is flush.0)
answered_run old new mid told told_after (Err ScriptTooLong) result done parts now before is opened read before_is ok (inl flush) = absurd (no_fault result done ScriptTooLong is flush.0)
answered_run old new mid told told_after (Err ScriptTooLong) result done parts now before is opened read before_is ok (inr flush) = absurd (no_fault result done WriteFailed is flush.0)
answered_run old new mid told told_after (Err Memory) result done parts now before is opened read before_is ok (inl flush) = absurd (no_fault result done Memory is flush.0)
answered_run old new mid told told_after (Err Memory) result done parts now before is opened read before_is ok (inr flush) = absurd (no_fault result done WriteFailed is flush.0)
answered_run old new mid told told_after (Err (RereadFault why)) result done parts now before is opened read before_is ok (inl flush) = absurd (no_fault result done (RereadFault why) is flush.0)
answered_run old new mid told told_after (Err (RereadFault why)) result done parts now before is opened read before_is ok (inr flush) = absurd (no_fault result done WriteFailed is flush.0)
answered_run old new mid told told_after (Err ReadFailed) result done parts now before is opened read before_is ok flush = absurd (no_fault result done ReadFailed is flush.0)
answered_run old new mid told told_after (Err WriteFailed) result done parts now before is opened read before_is ok flush = absurd (no_fault result done WriteFailed is flush.0)

-- remarks on the first of the lines that were reached
AreToldOf-first : (terms : Terms) (file after old new : SourceState) (told told_after : Option SinkState) (parts : FileParts) (all lines others : List (List ℕ)) → GaveFile file after parts → HasLines old new all → all ≡ lines ++ others
    → Remarks (remarks (at_first_line terms parts) lines) told told_after → AreToldOf terms file after old new told told_after
AreToldOf-first terms file after old new told told_after parts all lines others opened has split remarked =
    inr (record { parts = parts; lines = lines; others = others; opened = opened; reached = subst (λ (ls : List (List ℕ)). HasLines old new ls) split has; made = remarked })

-- remarks on all of them
AreToldOf-all : (terms : Terms) (file after old new : SourceState) (told told_after : Option SinkState) (parts : FileParts) (lines : List (List ℕ)) → GaveFile file after parts → HasLines old new lines
    → Remarks (remarks (at_first_line terms parts) lines) told told_after → AreToldOf terms file after old new told told_after
AreToldOf-all terms file after old new told told_after parts lines opened has remarked =
    AreToldOf-first terms file after old new told told_after parts lines lines [] opened has (sym (append-nil lines)) remarked

-- the remarks of a run that ends after its script, before saving
pub AreToldOf-script : (terms : Terms) (file after old new : SourceState) (held mid : SinkState) (told told_after : Option SinkState) (answered : Result (Unit {0}) Fault) (parts : FileParts) (now : Standing)
    → GaveFile file after parts
    → OnOk answered (AnswersScript old new (at_first_line terms parts) now (heard held told) (heard mid told_after))
    → IfErr answered (ScriptStops old new (at_first_line terms parts) (heard held told) (heard mid told_after))
    → AreToldOf terms file after old new told told_after
AreToldOf-script terms file after old new held mid told told_after (Ok done) parts now opened ok err =
    AreToldOf-all terms file after old new told told_after parts (script_lines ok.lines ok.last) opened
    (all_lines old new (at_first_line terms parts) now (heard held told) (heard mid told_after) ok) ok.answered.said.told
AreToldOf-script terms file after old new held mid told told_after (Err (Refused why)) parts now opened ok err = absurd err
AreToldOf-script terms file after old new held mid told told_after (Err ScriptTooLong) parts now opened ok err =
    AreToldOf-all terms file after old new told told_after parts err.lines opened (record { whole = err.lines; last = err.last; reached = err.reached; are = inl refl }) err.said.told
AreToldOf-script terms file after old new held mid told told_after (Err Memory) parts now opened ok err =
    elim err.at [
      | inl none ↦ inl (ap (λ (h : Heard). h.told) none.1)
      | inr some ↦ AreToldOf-first terms file after old new told told_after parts some.0 some.2.done (some.2.line ∷ some.2.others) opened some.1 some.2.split some.2.said.told
    ]
AreToldOf-script terms file after old new held mid told told_after (Err (RereadFault why)) parts now opened ok err =
    AreToldOf-first terms file after old new told told_after parts err.lines err.at.done (err.at.line ∷ err.at.others) opened err.reached err.at.split err.at.said.told
AreToldOf-script terms file after old new held mid told told_after (Err ReadFailed) parts now opened ok err =
    AreToldOf-all terms file after old new told told_after parts err.lines opened (record { whole = err.lines; last = err.last; reached = err.reached; are = inl refl }) err.said.told
AreToldOf-script terms file after old new held mid told told_after (Err WriteFailed) parts now opened ok err =
    AreToldOf-first terms file after old new told told_after parts err.lines err.front.done err.front.others opened err.reached err.front.split err.front.told

-- those of a run whose script was answered to its end, whatever ends it
pub RemarksBy-answered : (old new : RunState) (told told_after : Option SinkState) (now : Standing) (before : Reports) (result : Result Edited Fault) → IsAnsweredRun old new told told_after now before → RemarksBy old.terms old.file new.file old.script new.script told told_after result
RemarksBy-answered old new told told_after now before (Ok it) run =
    let done = run.script in
    record {
      parts = run.parts;
      text = done.script;
      lines = done.lines;
      last = done.last;
      opened = run.opened;
      told_script = script_told old.script new.script done.script done.read done.ended;
      cut = done.cut;
      made = done.answered.said.told;
    }
RemarksBy-answered old new told told_after now before (Err why) run =
    let done = run.script in
    AreToldOf-all old.terms old.file new.file old.script new.script told told_after run.parts (script_lines done.lines done.last) run.opened
    (all_lines old.script new.script (at_first_line old.terms run.parts) now (heard old.printed told) (heard run.mid told_after) done) done.answered.said.told

-- or of one that ended before, by a fault that is passed on
pub remarks_exit : (terms : Terms) (file file_after script script_after : SourceState) (told told_after : Option SinkState) (result : Result Edited Fault) (why : Fault) → IsErrAnd result (λ e. e ≡ why) → AreToldOf terms file file_after script script_after told told_after → RemarksBy terms file file_after script script_after told told_after result
remarks_exit terms file file_after script script_after told told_after result why is made = let exit = err_from_is_err_and result is in rw exit.1 made

-- also of one that plans
pub over_remarks_exit : (terms : Terms) (file file_after script script_after : SourceState) (told told_after : Option SinkState) (result : Result Planned Fault) (why : Fault) → IsErrAnd result (λ e. e ≡ why) → AreToldOf terms file file_after script script_after told told_after → RemarksBy terms file file_after script script_after told told_after (edited_of result)
over_remarks_exit terms file file_after script script_after told told_after result why is made = let exit = err_from_is_err_and result is in rw exit.1 made

-- so it is by the end
pub RemarksEndAs-end : (terms : Terms) (file file_after script script_after : SourceState) (told told_after : Option SinkState) (result : Result Edited Fault) → RemarksBy terms file file_after script script_after told told_after result → RemarksEndAs terms file file_after script script_after told told_after (end_of result)
RemarksEndAs-end terms file file_after script script_after told told_after (Ok it) made = made
RemarksEndAs-end terms file file_after script script_after told told_after (Err why) made = made
