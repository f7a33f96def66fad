-- A script to its end, as far as its limit, or as far as it could be answered.
use Rattle.std.proofs.Common.{◌≡◌, ℕ, ◌+◌, ◌-◌, ◌<◌, ◌≤◌, List, [], ◌++◌, length, take, refl, ap, subst, sym, ◌∙◌, arith, inl, inr, Option, None, Some}
use Rattle.std.proofs.lemmas.List.{append-nil, take_all, take-append-le, take-take, length-append, length-take-le}
use Rattle.std.proofs.Math.Seq.{take-append-add}
use Rattle.std.specs.Prelude.{IfSome}
use Rattle.std.specs.Io.KnownBytes.{Consumes, Keeps}
use Rattle.fits_stream.specs.Log.{Logs}
use Rattle.fits_stream.proofs.StreamLemmas.{quiet_read, reads_fail_now, Prints-flushed, PrintsFront-unflushed, Reads-more}
use Rattle.fits_cli.specs.Answer.{Standing}
use Rattle.fits_cli.specs.Ends.{CameTo, HasLines}
use Rattle.fits_cli.specs.declared.limits.TheConstants.{SCRIPT_LIMIT}
use Rattle.fits_cli.specs.Running.{Heard, heard, HasCome, HasStopped, Continues, PieceStops, LinesStop, EndsScript, EndStops, AnswersScript, AnswersTooLong, ScriptStops, ScriptReadFails}
use Rattle.fits_cli.specs.Script.{IsCutInLines, script_lines}
use Rattle.fits_tell.specs.Faults.{FlushFails}
use Rattle.fits_stream.specs.Stream.{SourceState, SinkState, FailsToRead, Flushes, IsDry, Reads, StaysQuiet}
use Rattle.fits_tell.specs.declared.fault.Fault.{Fault}
use Rattle.fits_tell.specs.declared.fault.Fault.TheVariants.{Refused, ScriptTooLong, Memory, ReadFailed, WriteFailed, Reread as RereadFault}

-- bytes within a limit are all taken
within_limit : (limit : ℕ) (bytes : List ℕ) → length bytes ≤ limit → take limit bytes ≡ bytes
within_limit limit bytes short = take_all limit bytes short

-- what came within the limit, cut into lines
came_within : (old new : SourceState) (came last : List ℕ) (lines : List (List ℕ)) → Consumes old.remaining new.remaining came → Logs old.log new.log came → length came ≤ SCRIPT_LIMIT → IsCutInLines came lines last → CameTo old new lines last
came_within old new came last lines read log short cut = record { came = came; read = read; log = log; cut = rw (within_limit SCRIPT_LIMIT came short) cut }

-- what a failed read leaves
kept_bytes : (a b c : Option (List ℕ)) (came : List ℕ) → Consumes a b came → Keeps b c → Consumes a c came
kept_bytes None b c came p q = tt
kept_bytes (Some xs) None c came p q = absurd p
kept_bytes (Some xs) (Some ys) None came p q = absurd q
kept_bytes (Some xs) (Some ys) (Some zs) came p q = p ∙ ap (λ t. came ++ t) (sym q)

-- a read fails after these bytes came
pub ScriptReadFails-after : (old mid new : SourceState) (came kept : List ℕ) (before now : Standing) (held holds : Heard)
    → Reads came old mid → FailsToRead mid new → length came ≤ SCRIPT_LIMIT
    → HasCome came kept before now held holds → ScriptReadFails old new before held holds
unfolding came_within
ScriptReadFails-after old mid new came kept before now held holds read failed short come = record {
  failed = reads_fail_now old mid new came read failed;
  lines = come.lines;
  last = come.last;
  reached = came_within old new came come.last come.lines (kept_bytes old.remaining mid.remaining new.remaining came read.gone failed.bytes) (rw failed.log read.log) short come.cut;
  short = short;
  said = come.answered.said;
}

-- lines of a script that aren't all answered
ScriptStops-lines : (old new : SourceState) (lines : List (List ℕ)) (before : Standing) (held holds : Heard) (fault : Fault)
    → HasLines old new lines → StaysQuiet old new → LinesStop lines before held holds fault → ScriptStops old new before held holds fault
ScriptStops-lines old new lines before held holds (Refused why) has quiet stops = stops
ScriptStops-lines old new lines before held holds ScriptTooLong has quiet stops = absurd stops
ScriptStops-lines old new lines before held holds Memory has quiet stops = record { quiet = quiet; at = inr (lines, has, stops) }
ScriptStops-lines old new lines before held holds ReadFailed has quiet stops = absurd stops
ScriptStops-lines old new lines before held holds WriteFailed has quiet stops = record { quiet = quiet; lines = lines; reached = has; front = stops }
ScriptStops-lines old new lines before held holds (RereadFault why) has quiet stops = record { unchanged = stops.0; quiet = quiet; lines = lines; reached = has; at = stops.1 }

-- lines that came aren't all answered
ScriptStops-came : (old new : SourceState) (came text : List ℕ) (before : Standing) (held holds : Heard) (fault : Fault)
    → Reads came old new → take SCRIPT_LIMIT came ≡ text
    → HasStopped text before held holds fault → ScriptStops old new before held holds fault
ScriptStops-came old new came text before held holds fault read within stopped =
    ScriptStops-lines old new stopped.lines before held holds fault
    (record { whole = stopped.lines; last = stopped.last; reached = record { came = came; read = read.gone; log = read.log; cut = rw within stopped.cut }; are = inl refl })
    (quiet_read old new came read) stopped.stops

-- a piece within the limit isn't answered
pub ScriptStops-piece : (old mid new : SourceState) (came piece kept : List ℕ) (before now : Standing) (held holds more : Heard) (fault : Fault)
    → Reads came old mid → Reads piece mid new → length came + length piece ≤ SCRIPT_LIMIT
    → HasCome came kept before now held holds → PieceStops piece kept now holds more fault → ScriptStops old new before held more fault
ScriptStops-piece old mid new came piece kept before now held holds more fault read next short come stops =
    ScriptStops-came old new (came ++ piece) (came ++ piece) before held more fault (Reads-more old mid new came piece read next)
    (within_limit SCRIPT_LIMIT (came ++ piece) (omega (arith, short, length-append came piece))) (stops came before held come)

-- what came as far as the limit, where it goes past it
over_limit : (limit n : ℕ) (came buffer : List ℕ) → length came ≤ limit → limit - length came ≤ n → n ≤ length buffer
    → take limit (came ++ take n buffer) ≡ came ++ take (limit - length came) buffer
over_limit limit n came buffer short over within =
    let whole : limit ≡ length came + (limit - length came) = omega (arith, short) in
    ap (λ k. take k (came ++ take n buffer)) whole ∙ take-append-add came (take n buffer) (limit - length came) ∙ ap (λ t. came ++ t) (take-take (limit - length came) n buffer (omega (arith, over)))

-- a piece that goes past the limit isn't answered as far as it
pub ScriptStops-over : (old mid new : SourceState) (n : ℕ) (came buffer kept : List ℕ) (before now : Standing) (held holds more : Heard) (fault : Fault)
    → Reads came old mid → Reads (take n buffer) mid new → length came ≤ SCRIPT_LIMIT → SCRIPT_LIMIT - length came < n → n ≤ length buffer
    → HasCome came kept before now held holds
    → PieceStops (take (SCRIPT_LIMIT - length came) buffer) kept now holds more fault → ScriptStops old new before held more fault
ScriptStops-over old mid new n came buffer kept before now held holds more fault read next short over within come stops =
    ScriptStops-came old new (came ++ take n buffer) (came ++ take (SCRIPT_LIMIT - length came) buffer) before held more fault
    (Reads-more old mid new came (take n buffer) read next) (over_limit SCRIPT_LIMIT n came buffer short (omega (arith, over)) within) (stops came before held come)

-- the bytes that a source had, of which these came first
source_bytes : (a b : Option (List ℕ)) (came : List ℕ) → Consumes a b came → (bytes : List ℕ) × (rest : List ℕ) × IfSome a (λ left. left ≡ bytes) × (bytes ≡ came ++ rest)
source_bytes None b came read = (came, [], tt, sym (append-nil came))
source_bytes (Some xs) None came read = absurd read
source_bytes (Some xs) (Some ys) came read = (xs, ys, refl, read)

-- a prefix is a prefix of what goes on
take_longer : (limit : ℕ) (came rest : List ℕ) → limit ≤ length came → take limit (came ++ rest) ≡ take limit came
take_longer limit came rest within = take-append-le limit came rest within

-- a script that goes past its limit
pub AnswersTooLong-over : (old mid new : SourceState) (n : ℕ) (came buffer kept kept_now : List ℕ) (before now next : Standing) (held holds more : Heard)
    → Reads came old mid → Reads (take n buffer) mid new → length came ≤ SCRIPT_LIMIT → SCRIPT_LIMIT - length came < n → n ≤ length buffer
    → HasCome came kept before now held holds
    → Continues (take (SCRIPT_LIMIT - length came) buffer) kept kept_now now next holds more → AnswersTooLong old new before held more
AnswersTooLong-over old mid new n came buffer kept kept_now before now next held holds more read after short over within come continues =
    let all : List ℕ = came ++ take n buffer in
    let read_all : Reads all old new = Reads-more old mid new came (take n buffer) read after in
    let script = source_bytes old.remaining new.remaining all read_all.gone in
    let size : length all ≡ length came + n = length-append came (take n buffer) ∙ ap (λ k. length came + k) (length-take-le n buffer within) in
    let front : take SCRIPT_LIMIT all ≡ came ++ take (SCRIPT_LIMIT - length came) buffer = over_limit SCRIPT_LIMIT n came buffer short (omega (arith, over)) within in
    let answered = continues came before held come in
    record {
      script = script.0;
      lines = answered.lines;
      last = answered.last;
      told = script.2;
      long = omega (arith, size, ap length script.3, length-append all script.1, over, short);
      quiet = quiet_read old new all read_all;
      reached = record { came = all; read = read_all.gone; log = read_all.log; cut = rw front answered.cut };
      cut = rw (script.3, take_longer SCRIPT_LIMIT all script.1 (omega (arith, size, over, short)), front) answered.cut;
      said = answered.answered.said;
    }

-- nothing more is read
read_at_end : (a b c : SourceState) (n : ℕ) (came buffer : List ℕ) → Reads came a b → Reads (take n buffer) b c → n ≡ 0 → Reads came a c
read_at_end a b c n came buffer read none zero =
    let nothing : take n buffer ≡ [] = ap (λ k. take k buffer) zero in
    rw (← append-nil came) (Reads-more a b c came [] read (rw nothing at none))

-- the whole script is answered
pub AnswersScript-end : (old mid new : SourceState) (n : ℕ) (came buffer kept : List ℕ) (before now next : Standing) (held holds more : Heard)
    → Reads came old mid → Reads (take n buffer) mid new → n ≡ 0 → IsDry new → length came ≤ SCRIPT_LIMIT
    → HasCome came kept before now held holds → EndsScript kept now next holds more → AnswersScript old new before next held more
AnswersScript-end old mid new n came buffer kept before now next held holds more read none zero ended short come ends = record {
  script = came;
  lines = come.lines;
  last = come.last;
  read = read_at_end old mid new n came buffer read none zero;
  ended = ended;
  short = short;
  cut = come.cut;
  answered = ends come.lines come.last before held come.kept_is come.answered;
}

-- its last line isn't answered
pub ScriptStops-end : (old mid new : SourceState) (n : ℕ) (came buffer kept : List ℕ) (before now : Standing) (held holds more : Heard) (fault : Fault)
    → Reads came old mid → Reads (take n buffer) mid new → n ≡ 0 → IsDry new → length came ≤ SCRIPT_LIMIT
    → HasCome came kept before now held holds → EndStops kept now holds more fault → ScriptStops old new before held more fault
unfolding came_within
ScriptStops-end old mid new n came buffer kept before now held holds more fault read none zero ended short come stops =
    let whole : Reads came old new = read_at_end old mid new n came buffer read none zero in
    ScriptStops-lines old new (script_lines come.lines come.last) before held more fault
    (record {
      whole = come.lines;
      last = come.last;
      reached = came_within old new came come.last come.lines whole.gone whole.log short come.cut;
      are = inr (ended, short, refl);
    })
    (quiet_read old new came whole) (stops come.lines come.last before held come.kept_is come.answered)

-- the answers to a piece are passed on
pub Continues-flushed : (piece kept_before kept_now : List ℕ) (before now : Standing) (held : Heard) (mid out : SinkState) (told : Option SinkState)
    → Continues piece kept_before kept_now before now held (heard mid told) → Flushes mid out → Continues piece kept_before kept_now before now held (heard out told)
Continues-flushed piece kept_before kept_now before now held mid out told p q = λ script first start come.
    let has = p script first start come in
    record {
      lines = has.lines;
      last = has.last;
      cut = has.cut;
      kept_is = has.kept_is;
      answered = record {
        said = record { printed = Prints-flushed start.out mid out _ has.answered.said.printed q; told = has.answered.said.told };
        left = has.answered.left;
      };
    }

-- or they aren't, which ends the run
pub PieceStops-unflushed : (piece kept_before kept_now : List ℕ) (before now : Standing) (held : Heard) (mid out : SinkState) (told : Option SinkState) (fault : Fault)
    → Continues piece kept_before kept_now before now held (heard mid told) → FlushFails mid out fault → PieceStops piece kept_before before held (heard out told) fault
PieceStops-unflushed piece kept_before kept_now before now held mid out told fault p q =
    subst (PieceStops piece kept_before before held (heard out told)) (sym q.0) (λ script first start come.
    let has = p script first start come in
    record {
      lines = has.lines;
      last = has.last;
      cut = has.cut;
      stops = record {
        printed = PrintsFront-unflushed start.out mid out _ has.answered.said.printed q.1;
        done = has.lines;
        others = [];
        split = sym (append-nil has.lines);
        told = has.answered.said.told;
      };
    })
