-- Steps of taking bytes up to a limit.
use Rattle.std.proofs.Common.{◌≡◌, ℕ, ◌+◌, ◌≤◌, List, [], ◌++◌, length, take, drop, refl, ap, sym, subst, ◌∙◌, append_assoc, arith}
use Rattle.std.proofs.lemmas.List.{append-nil, length-append, length-take-le, take-append-drop, take-append-le}
use Rattle.std.proofs.Math.Seq.{take-append-add}
use Rattle.fits_stream.specs.Intake.{Supply, Passes, ReadsAfter, Skips, Takes}
use Rattle.fits_stream.specs.Stored.{GoesPast}
use Rattle.fits_stream.specs.Stream.{SourceState, FailsOnce, FailsToRead, Reads, StaysQuiet}
use Rattle.fits_stream.proofs.StreamLemmas.{Reads-none, Reads-more, fails_now, quiet_none, quiet_read, reads_fail_now, reads_fails, reads_quiet}
use Rattle.fits_stream.specs.Log.{Grows}

-- bytes that are gone, with no failed call, were skipped
pub skips_gone : (a b : SourceState) (n : ℕ) → GoesPast (record { left = a.remaining; log = a.log }) (record { left = b.remaining; log = b.log }) n → b.failures ≡ a.failures → Skips a b n
skips_gone a b n p quiet = record { bytes = p.bytes; read = record { gone = p.come.gone; log = p.come.log; quiet = quiet }; size = p.size }

-- nothing is skipped
pub skips_none : (a : SourceState) → Skips a a 0
skips_none a = record { bytes = []; read = Reads-none a; size = refl }

-- nothing more comes yet
pub reads_after_none : (a : SourceState) (before : List ℕ) → ReadsAfter before a a before
reads_after_none a before = record { more = []; joined = sym (append-nil before); read = Reads-none a }

-- a piece more does
pub reads_after_more : (before : List ℕ) (a b c : SourceState) (bytes piece : List ℕ) → ReadsAfter before a b bytes → Reads piece b c → ReadsAfter before a c (bytes ++ piece)
reads_after_more before a b c bytes piece p q = record {
  more = p.more ++ piece;
  joined = ap (λ t. t ++ piece) p.joined ∙ append_assoc before p.more piece;
  read = Reads-more a b c p.more piece p.read q;
}

-- nothing more does
pub reads_after_nothing : (before : List ℕ) (a b c : SourceState) (bytes buffer : List ℕ) (n : ℕ) → ReadsAfter before a b bytes → Reads (take n buffer) b c → n ≡ 0 → ReadsAfter before a c bytes
reads_after_nothing before a b c bytes buffer n p q none =
    subst (ReadsAfter before a c) (ap (λ k. bytes ++ take k buffer) none ∙ append-nil bytes) (reads_after_more before a b c bytes (take n buffer) p q)

-- a call failed after them
pub after_fails : (before bytes : List ℕ) (a b c : SourceState) → ReadsAfter before a b bytes → FailsToRead b c → FailsOnce a c
after_fails before bytes a b c p q = reads_fail_now a b c p.more p.read q

-- or none did
pub after_quiet : (before bytes : List ℕ) (a b : SourceState) → ReadsAfter before a b bytes → StaysQuiet a b
after_quiet before bytes a b p = quiet_read a b p.more p.read

-- bytes are skipped, and no call fails, or one does then
pub skips_quiet : (a b c : SourceState) (n : ℕ) → Skips a b n → StaysQuiet b c → StaysQuiet a c
skips_quiet a b c n p q = reads_quiet a b c p.bytes p.read q

-- or one does
pub skips_fails : (a b c : SourceState) (n : ℕ) → Skips a b n → FailsOnce b c → FailsOnce a c
skips_fails a b c n p q = reads_fails a b c p.bytes p.read q

-- none does where bytes are gone past
pub skipped_quiet : (a b : SourceState) (n : ℕ) → Skips a b n → StaysQuiet a b
skipped_quiet a b n p = quiet_read a b p.bytes p.read

-- a call failed as bytes were gone past
pub skip_fails : (a b : SourceState) → Grows a.log b.log → b.failures ≡ a.failures + 1 → FailsOnce a b
skip_fails a b grows failed = record { failed = failed; log = grows }

-- nor where more of them came
pub after_more_quiet : (before bytes piece : List ℕ) (a b c : SourceState) → ReadsAfter before a b bytes → Reads piece b c → StaysQuiet a c
after_more_quiet before bytes piece a b c p q = after_quiet before (bytes ++ piece) a c (reads_after_more before a b c bytes piece p q)

pub ruleset taking_steps = (Reads-none, Reads-more, reads_after_none, reads_after_more, after_fails, after_quiet, after_more_quiet, quiet_none, fails_now)

-- so many of the bytes ahead were taken
pub takes_passed : (old new : Supply) (n : ℕ) → old.source ≡ new.source → new.ahead ≡ drop n old.ahead → new.left ≡ old.left → Takes old new (take n old.ahead)
takes_passed old new n same rest left = record {
  more = [];
  joined = append-nil old.ahead ∙ (sym (take-append-drop n old.ahead) ∙ ap (λ t. take n old.ahead ++ t) (sym rest));
  drawn = record { read = subst (λ (s : SourceState). Reads [] old.source s) same (Reads-none old.source); count = omega (arith, left) };
}

-- what was ahead was dropped, and bytes that followed it
pub passes_here : (old new : Supply) (count total : ℕ) → (p : Skips old.source new.source count) → new.ahead ≡ [] → old.left ≡ new.left + count → total ≡ length old.ahead + count → Passes old new total
passes_here old new count total p none e is = record {
  bytes = old.ahead ++ p.bytes;
  taken = record {
    more = p.bytes;
    joined = sym (append-nil (old.ahead ++ p.bytes)) ∙ ap (λ t. (old.ahead ++ p.bytes) ++ t) (sym none);
    drawn = record { read = p.read; count = omega (arith, e, p.size) };
  };
  size = omega (arith, is, length-append old.ahead p.bytes, p.size);
}

-- so many of the bytes ahead were dropped
pub passes_ahead : (old new : Supply) (n : ℕ) → old.source ≡ new.source → new.ahead ≡ drop n old.ahead → new.left ≡ old.left → n ≤ length old.ahead → Passes old new n
passes_ahead old new n same rest left le = record {
  bytes = take n old.ahead;
  taken = takes_passed old new n same rest left;
  size = length-take-le n old.ahead le;
}

pub ruleset intake_steps = (Reads-none, skips_none, quiet_none, quiet_read, fails_now, skips_quiet, skips_fails, skipped_quiet)

-- nothing of a piece is filled
pub filled_none : (a : SourceState) (piece : List ℕ) → Reads (take 0 piece) a a
filled_none a piece = Reads-none a

-- the beginning of a piece is filled, then more of it
pub filled_more : (a b c : SourceState) (piece front room : List ℕ) (m n : ℕ) → Reads (take m piece) a b → front ≡ take m piece → length front ≡ m → Reads (take n room) b c → Reads (take (m + n) (front ++ room)) a c
filled_more a b c piece front room m n p is size q =
    let begun : Reads front a b = rw is p in
    let all : take (m + n) (front ++ room) ≡ front ++ take n room = ap (λ k. take (k + n) (front ++ room)) (sym size) ∙ take-append-add front room n in
    rw all (Reads-more a b c front (take n room) begun q)

-- or no more
pub filled_over : (a b c : SourceState) (piece front room : List ℕ) (m n : ℕ) → Reads (take m piece) a b → front ≡ take m piece → length front ≡ m → Reads (take n room) b c → n ≡ 0 → Reads (take m (front ++ room)) a c
filled_over a b c piece front room m n p is size q none =
    let same : m + n ≡ m = omega (arith, none) in
    subst (λ k. Reads (take k (front ++ room)) a c) same (filled_more a b c piece front room m n p is size q)

-- room is filled after its first bytes
pub filled_after : (a b : SourceState) (piece front room room' rest : List ℕ) (m n : ℕ) → front ≡ take m piece → length front ≡ m → Reads (take n room) a b → n ≤ length room → room' ≡ room ++ rest → ReadsAfter (take m piece) a b (take (m + n) (front ++ room'))
filled_after a b piece front room room' rest m n is size p le more = record {
  more = take n room;
  joined = ap (λ t. take (m + n) (front ++ t)) more ∙ (ap (λ k. take (k + n) (front ++ (room ++ rest))) (sym size) ∙ (take-append-add front (room ++ rest) n
      ∙ (ap (λ t. front ++ t) (take-append-le n room rest le) ∙ ap (λ t. t ++ take n room) is)));
  read = p;
}

pub ruleset filling_steps = (reads_fail_now, fails_now, filled_none, filled_more, filled_over, filled_after)

pub ruleset skip_steps = (skips_gone, skip_fails)
