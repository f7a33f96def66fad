-- What streams took and gave, put together.
use Rattle.std.proofs.Common.{◌≡◌, ℕ, ◌+◌, ◌-◌, ◌≤◌, List, [], ◌++◌, length, take, drop, refl, sym, ◌∙◌, append_assoc, arith, subst, Option, None, Some}
use Rattle.std.proofs.lemmas.List.{append-nil, take_all, take_rest, length-append, take-append-le}
use Rattle.std.proofs.Math.Seq.{take-add, take-append-add}
use Rattle.std.specs.Io.KnownBytes.{Appends, Keeps, Consumes}
use Rattle.fits_stream.specs.Stream.{FailsOnce, FailsToRead, StaysQuiet, Held, SinkState, SourceState, Gains, GainsFront, Prints, PrintsFront, FailsToFlush, FailsToWrite, Flushes, Reads, Stays}
use Rattle.fits_stream.specs.Log.{Grows, Log}
use Rattle.fits_stream.proofs.LogLemmas.{Logs-none, Logs-more}

-- nothing is written
pub Appends-none : (a : Option (List ℕ)) → Appends a a []
Appends-none None = tt
Appends-none (Some xs) = sym (append-nil xs)

-- bytes are written, then others
pub Appends-more : (a b c : Option (List ℕ)) (bs cs : List ℕ) → Appends a b bs → Appends b c cs → Appends a c (bs ++ cs)
Appends-more None b c bs cs p q = tt
Appends-more (Some xs) None c bs cs p q = absurd p
Appends-more (Some xs) (Some ys) None bs cs p q = absurd q
Appends-more (Some xs) (Some ys) (Some zs) bs cs p q = rw (q, p, append_assoc) refl

-- what was written is kept as it is
pub Appends-kept : (a b c : Option (List ℕ)) (bs : List ℕ) → Appends a b bs → Keeps b c → Appends a c bs
Appends-kept None b c bs p q = tt
Appends-kept (Some xs) None c bs p q = absurd p
Appends-kept (Some xs) (Some ys) None bs p q = absurd q
Appends-kept (Some xs) (Some ys) (Some zs) bs p q = q ∙ p

-- a sink took nothing
pub Gains-none : (a : Held) → Gains a a []
Gains-none a = record { told = Appends-none a.told; taken = Appends-none a.taken }

-- a sink took bytes, then others
pub Gains-more : (a b c : Held) (bs cs : List ℕ) → Gains a b bs → Gains b c cs → Gains a c (bs ++ cs)
Gains-more a b c bs cs p q = record {
  told = Appends-more a.told b.told c.told bs cs p.told q.told;
  taken = Appends-more a.taken b.taken c.taken bs cs p.taken q.taken;
}

-- a sink took bytes, and holds them still
pub Gains-kept : (a b c : Held) (bs : List ℕ) → Gains a b bs → Stays b c → Gains a c bs
Gains-kept a b c bs p q = record {
  told = Appends-kept a.told b.told c.told bs p.told q.told;
  taken = Appends-kept a.taken b.taken c.taken bs p.taken q.taken;
}

-- some bytes of a text are a prefix of it
pub GainsFront-taken : (a b : Held) (bs : List ℕ) (n : ℕ) → n ≤ length bs → Gains a b (take n bs) → GainsFront a b bs
GainsFront-taken a b bs n le p = record { count = n; few = le; gains = p }

-- all of them are too
pub GainsFront-whole : (a b : Held) (bs : List ℕ) → Gains a b bs → GainsFront a b bs
GainsFront-whole a b bs p = record { count = length bs; few = omega arith; gains = rw (take_all (length bs) bs (omega arith)) p }

-- a prefix of a longer text
pub GainsFront-longer : (a b : Held) (bs cs : List ℕ) → GainsFront a b bs → GainsFront a b (bs ++ cs)
GainsFront-longer a b bs cs p = record {
  count = p.count;
  few = omega (arith, p.few, length-append bs cs);
  gains = subst (Gains a b) (sym (take-append-le p.count bs cs p.few)) p.gains;
}

-- bytes are written, then a prefix of others
pub GainsFront-more : (a b c : Held) (bs cs : List ℕ) → Gains a b bs → GainsFront b c cs → GainsFront a c (bs ++ cs)
GainsFront-more a b c bs cs p q = record {
  count = length bs + q.count;
  few = omega (arith, q.few, length-append bs cs);
  gains = subst (Gains a c) (sym (take-append-add bs cs q.count)) (Gains-more a b c bs (take q.count cs) p q.gains);
}

-- nothing is printed
pub Prints-none : (a : SinkState) → Prints [] a a
Prints-none a = record { bytes = Gains-none a.contents; quiet = refl }

-- a text, and then another
pub Prints-more : (a b c : SinkState) (xs ys : List ℕ) → Prints xs a b → Prints ys b c → Prints (xs ++ ys) a c
Prints-more a b c xs ys p q = record { bytes = Gains-more a.contents b.contents c.contents xs ys p.bytes q.bytes; quiet = q.quiet ∙ p.quiet }

-- a prefix of a text is one of a longer text
pub PrintsFront-longer : (a b : SinkState) (xs ys : List ℕ) → PrintsFront xs a b → PrintsFront (xs ++ ys) a b
PrintsFront-longer a b xs ys p = record { bytes = GainsFront-longer a.contents b.contents xs ys p.bytes; failed = p.failed }

-- a text, and then a prefix of another
pub PrintsFront-more : (a b c : SinkState) (xs ys : List ℕ) → Prints xs a b → PrintsFront ys b c → PrintsFront (xs ++ ys) a c
PrintsFront-more a b c xs ys p q = record {
  bytes = GainsFront-more a.contents b.contents c.contents xs ys p.bytes q.bytes;
  failed = omega (arith, p.quiet, q.failed);
}

-- a text that is flushed
pub Prints-flushed : (a b c : SinkState) (text : List ℕ) → Prints text a b → Flushes b c → Prints text a c
Prints-flushed a b c text p q = record { bytes = Gains-kept a.contents b.contents c.contents text p.bytes q.bytes; quiet = q.quiet ∙ p.quiet }

-- a text that can't be flushed
pub PrintsFront-unflushed : (a b c : SinkState) (text : List ℕ) → Prints text a b → FailsToFlush b c → PrintsFront text a c
PrintsFront-unflushed a b c text p q = record {
  bytes = GainsFront-whole a.contents c.contents text (Gains-kept a.contents b.contents c.contents text p.bytes q.bytes);
  failed = omega (arith, p.quiet, q.failed);
}

pub ruleset printing_steps = (Prints-more, PrintsFront-longer, PrintsFront-more)

pub ruleset flush_steps = (Prints-flushed, PrintsFront-unflushed)

-- nothing of a text is written yet
pub Prints-begun : (a : SinkState) (text : List ℕ) → Prints (take 0 text) a a
Prints-begun a text = Prints-none a

-- a write takes more of it
pub Prints-taken : (a b c : SinkState) (text : List ℕ) (m n : ℕ) → Prints (take m text) a b → Gains b.contents c.contents (take n (take (length text - m) (drop m text))) → c.failures ≡ b.failures → Prints (take (m + n) text) a c
Prints-taken a b c text m n p q quiet = rw (take-add m n text) (Prints-more a b c _ _ p (record { bytes = rw (take_rest text m) at q; quiet = quiet }))

-- all of it is written
pub Prints-all : (a b : SinkState) (text : List ℕ) (n : ℕ) → length text ≤ n → Prints (take n text) a b → Prints text a b
Prints-all a b text n le p = rw (take_all n text le) at p

-- a write fails within it
pub PrintsFront-failed : (a b c : SinkState) (text : List ℕ) (n : ℕ) → n ≤ length text → Prints (take n text) a b → FailsToWrite b c → PrintsFront text a c
PrintsFront-failed a b c text n le p q = record {
  bytes = GainsFront-taken a.contents c.contents text n le (Gains-kept a.contents b.contents c.contents (take n text) p.bytes q.bytes);
  failed = omega (arith, p.quiet, q.failed);
}

-- or takes nothing
pub PrintsFront-stalled : (a b c : SinkState) (text : List ℕ) (m n : ℕ) → m + n ≤ length text → Prints (take m text) a b → Gains b.contents c.contents (take n (take (length text - m) (drop m text))) → c.failures ≡ b.failures + 1 → PrintsFront text a c
PrintsFront-stalled a b c text m n le p q failed = record {
  bytes = GainsFront-taken a.contents c.contents text (m + n) le (rw (take-add m n text) (Gains-more a.contents b.contents c.contents _ _ p.bytes (rw (take_rest text m) at q)));
  failed = omega (arith, p.quiet, failed);
}

pub ruleset writing_steps = (Prints-begun, Prints-taken, Prints-all, PrintsFront-failed, PrintsFront-stalled)

-- nothing is gone
pub Consumes-none : (a : Option (List ℕ)) → Consumes a a []
Consumes-none None = tt
Consumes-none (Some xs) = refl

-- bytes are gone, then others
pub Consumes-more : (a b c : Option (List ℕ)) (bs cs : List ℕ) → Consumes a b bs → Consumes b c cs → Consumes a c (bs ++ cs)
Consumes-more None b c bs cs p q = tt
Consumes-more (Some xs) None c bs cs p q = absurd p
Consumes-more (Some xs) (Some ys) None bs cs p q = absurd q
Consumes-more (Some xs) (Some ys) (Some zs) bs cs p q = rw (p, q, append_assoc) refl

-- nothing is read
pub Reads-none : (a : SourceState) → Reads [] a a
Reads-none a = record { gone = Consumes-none a.remaining; log = Logs-none a.log; quiet = refl }

-- bytes are read, then others
pub Reads-more : (a b c : SourceState) (bs cs : List ℕ) → Reads bs a b → Reads cs b c → Reads (bs ++ cs) a c
Reads-more a b c bs cs p q = record { gone = Consumes-more a.remaining b.remaining c.remaining bs cs p.gone q.gone; log = Logs-more a.log b.log c.log bs cs p.log q.log; quiet = q.quiet ∙ p.quiet }

-- a log that goes on and goes on
pub Grows-none : (a : Option Log) → Grows a a
Grows-none a = record { bytes = []; logs = Logs-none a }

-- and then goes on
pub Grows-more : (a b c : Option Log) → Grows a b → Grows b c → Grows a c
Grows-more a b c p q = record { bytes = p.bytes ++ q.bytes; logs = Logs-more a b c p.bytes q.bytes p.logs q.logs }

-- no call failed
pub quiet_none : (a : SourceState) → StaysQuiet a a
quiet_none a = record { quiet = refl; log = Grows-none a.log }

-- none does where bytes come
pub quiet_read : (a b : SourceState) (bytes : List ℕ) → Reads bytes a b → StaysQuiet a b
quiet_read a b bytes p = record { quiet = p.quiet; log = record { bytes = bytes; logs = p.log } }

-- nor where none did since, and none since then
pub quiet_more : (a b c : SourceState) → StaysQuiet a b → StaysQuiet b c → StaysQuiet a c
quiet_more a b c p q = record { quiet = q.quiet ∙ p.quiet; log = Grows-more a.log b.log c.log p.log q.log }

-- bytes are read, and then none are
pub reads_quiet : (a b c : SourceState) (bytes : List ℕ) → Reads bytes a b → StaysQuiet b c → StaysQuiet a c
reads_quiet a b c bytes p q = quiet_more a b c (quiet_read a b bytes p) q

-- a call failed
pub fails_now : (a b : SourceState) → FailsToRead a b → FailsOnce a b
fails_now a b p = record { failed = p.failed; log = rw p.log (Grows-none a.log) }

-- after others that didn't
pub quiet_fails : (a b c : SourceState) → StaysQuiet a b → FailsOnce b c → FailsOnce a c
quiet_fails a b c p q = record { failed = omega (arith, p.quiet, q.failed); log = Grows-more a.log b.log c.log p.log q.log }

-- or after bytes that came
pub reads_fails : (a b c : SourceState) (bytes : List ℕ) → Reads bytes a b → FailsOnce b c → FailsOnce a c
reads_fails a b c bytes p q = quiet_fails a b c (quiet_read a b bytes p) q

-- also where that was the next call
pub reads_fail_now : (a b c : SourceState) (bytes : List ℕ) → Reads bytes a b → FailsToRead b c → FailsOnce a c
reads_fail_now a b c bytes p q = reads_fails a b c bytes p (fails_now b c q)
