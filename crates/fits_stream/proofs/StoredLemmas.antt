-- Steps of going past bytes, also at places.
use Rattle.std.proofs.Common.{◌≡◌, ℕ, ◌+◌, ◌-◌, ◌≤◌, List, [], ◌++◌, length, take, drop, replicate, refl, ap, sym, ◌∙◌, arith, subst, Option, None, Some}
use Rattle.std.specs.Prelude.{IfSome}
use Rattle.std.specs.Io.KnownBytes.{Consumes}
use Rattle.fits_stream.proofs.LogLemmas.{Adds-passed, Adds-unskipped, Logs-none, Logs-more}
use Rattle.fits_stream.proofs.StreamLemmas.{Consumes-none, Consumes-more, Grows-more}
use Rattle.std.proofs.lemmas.List.{drop-drop, length-append, length-drop, length-replicate, length-take-le, take-append-drop}
use Rattle.fits_stream.specs.Log.{passed, unskipped, Adds, Grows, Log}
use Rattle.fits_stream.specs.Stored.{bytes_from, left_at, Comes, GoesPast, Stock, Waits}

-- nothing is gone
Comes-none : (a : Stock) → Comes [] a a
Comes-none a = record { gone = Consumes-none a.left; log = Logs-none a.log }

-- bytes are gone, and then others
pub Comes-more : (a b c : Stock) (xs ys : List ℕ) → Comes xs a b → Comes ys b c → Comes (xs ++ ys) a c
Comes-more a b c xs ys p q = record { gone = Consumes-more a.left b.left c.left xs ys p.gone q.gone; log = Logs-more a.log b.log c.log xs ys p.log q.log }

-- nothing is gone past
pub past_none : (a : Stock) → GoesPast a a 0
past_none a = record { bytes = []; come = Comes-none a; size = refl }

-- bytes are gone past, and then some are read
pub past_read : (a b c : Stock) (m n : ℕ) (buffer : List ℕ) → GoesPast a b m → Comes (take n buffer) b c → n ≤ length buffer → GoesPast a c (m + n)
past_read a b c m n buffer p q le = record {
  bytes = p.bytes ++ take n buffer;
  come = Comes-more a b c p.bytes (take n buffer) p.come q;
  size = omega (arith, length-append p.bytes (take n buffer), p.size, length-take-le n buffer le);
}

-- or none are
pub past_ended : (a b c : Stock) (m n : ℕ) (buffer : List ℕ) → GoesPast a b m → Comes (take n buffer) b c → n ≡ 0 → GoesPast a c m
past_ended a b c m n buffer p q none =
    let same : m + 0 ≡ m = omega arith in
    subst (GoesPast a c) same (past_read a b c m 0 buffer p (subst (λ k. Comes (take k buffer) b c) none q) (omega arith))

-- or others are
pub past_more : (a b c : Stock) (m n : ℕ) → GoesPast a b m → GoesPast b c n → GoesPast a c (m + n)
past_more a b c m n p q = record {
  bytes = p.bytes ++ q.bytes;
  come = Comes-more a b c p.bytes q.bytes p.come q.come;
  size = omega (arith, length-append p.bytes q.bytes, p.size, q.size);
}

-- a call failed then
pub past_waits : (a b c : Stock) (m : ℕ) → GoesPast a b m → Waits b c → Grows a.log c.log
past_waits a b c m p q = rw q.log (record { bytes = p.bytes; logs = p.come.log })

-- or one that went on
pub past_grows : (a b : Stock) (c : Option Log) (m : ℕ) → GoesPast a b m → Grows b.log c → Grows a.log c
past_grows a b c m p q = Grows-more a.log b.log c (record { bytes = p.bytes; logs = p.come.log }) q

pub ruleset skipping_steps = (past_none, past_read, past_ended, past_waits)

-- bytes that are known to be there are gone past unread
past_places : (bytes : Option (List ℕ)) (place len count : ℕ) (log : Log) → IfSome bytes (λ xs. len ≤ length xs) → count ≤ len - place
    → GoesPast (record { left = bytes_from place bytes; log = Some log }) (record { left = bytes_from (place + count) bytes; log = Some (passed log count) }) count
past_places None place len count log known le =
    let size : length (replicate count 0) ≡ count = length-replicate {A = ℕ} count 0 in
    record { bytes = replicate count 0; come = record { gone = tt; log = Adds-passed log count (replicate count 0) size }; size = size }
past_places (Some xs) place len count log known le =
    let size : length (take count (drop place xs)) ≡ count = length-take-le count (drop place xs) (omega (arith, le, known, length-drop place xs)) in
    record {
      bytes = take count (drop place xs);
      come = record {
        gone = sym (take-append-drop count (drop place xs)) ∙ ap (λ t. take count (drop place xs) ++ t) (drop-drop count place xs);
        log = Adds-passed log count (take count (drop place xs)) size;
      };
      size = size;
    }

-- the same, of a file that is read at places
pub past_known : (at : Option ℕ) (bytes stream : Option (List ℕ)) (place len left count : ℕ) (log log' : Log) → at ≡ Some place → IfSome bytes (λ xs. len ≤ length xs) → left ≡ len - place → count ≤ left → log' ≡ passed log count
    → GoesPast (record { left = left_at at bytes stream; log = Some log }) (record { left = bytes_from (place + count) bytes; log = Some log' }) count
past_known at bytes stream place len left count log log' is known e le passes = rw (is, passes) (past_places bytes place len count log known (rw e at le))

-- bytes that came are in the log
pub came_grown : (left left' : Option (List ℕ)) (log log' : Log) (bytes : List ℕ) → Consumes left left' bytes → Adds log log' bytes
    → Comes bytes (record { left = left; log = Some log }) (record { left = left'; log = Some log' })
came_grown left left' log log' bytes p adds = record { gone = p; log = adds }

-- the same, of a file that is read as a stream
pub came_streamed : (at : Option ℕ) (told told' left left' : Option (List ℕ)) (log log' : Log) (bytes : List ℕ) → at ≡ None → Consumes left left' bytes → Adds log log' bytes
    → Comes bytes (record { left = left_at at told left; log = Some log }) (record { left = left_at at told' left'; log = Some log' })
came_streamed at told told' left left' log log' bytes is p adds = rw is (came_grown left left' log log' bytes p adds)

-- or at places
pub came_placed : (at : Option ℕ) (told left : Option (List ℕ)) (place n next : ℕ) (log log' : Log) (bytes : List ℕ) → at ≡ Some place → next ≡ place + n → Consumes (bytes_from place told) (bytes_from (place + n) told) bytes → Adds log log' bytes
    → Comes bytes (record { left = left_at at told left; log = Some log }) (record { left = bytes_from next told; log = Some log' })
came_placed at told left place n next log log' bytes is goes p adds = rw (is, goes) (came_grown (bytes_from place told) (bytes_from (place + n) told) log log' bytes p adds)

-- or by a reader of which each byte is read
pub came_read : (left left' : Option (List ℕ)) (log log' : Log) (bytes : List ℕ) → Consumes left left' bytes → Adds log log' bytes → log'.unread ≡ log.unread
    → Comes bytes (record { left = left; log = Some (unskipped log) }) (record { left = left'; log = Some (unskipped log') })
came_read left left' log log' bytes p adds same = came_grown left left' (unskipped log) (unskipped log') bytes p (Adds-unskipped log log' bytes adds same)

-- bytes that came from a place are in the log with it
pub came_lent : (told told' : Option (List ℕ)) (place n : ℕ) (before inside after : Log) (bytes : List ℕ) → inside ≡ before → told ≡ told' → place ≡ inside.at → n ≡ length bytes → Consumes (bytes_from place told) (bytes_from (place + n) told) bytes → Adds inside after bytes → after.unread ≡ inside.unread
    → Comes bytes (record { left = bytes_from before.at told'; log = Some (unskipped before) }) (record { left = bytes_from after.at told; log = Some (unskipped after) })
came_lent told told' place n before inside after bytes view same is size p adds read =
    let here : Consumes (bytes_from inside.at told) (bytes_from (inside.at + length bytes) told) bytes = rw (← is, ← size) p in
    let gone : Consumes (bytes_from inside.at told) (bytes_from after.at told) bytes = subst (λ k. Consumes (bytes_from inside.at told) (bytes_from k told) bytes) (sym adds.at) here in
    let came = came_read (bytes_from inside.at told) (bytes_from after.at told) inside after bytes gone adds read in
    subst (λ (l : Log). Comes bytes (record { left = bytes_from l.at told'; log = Some (unskipped l) }) (record { left = bytes_from after.at told; log = Some (unskipped after) })) view
    (subst (λ t. Comes bytes (record { left = bytes_from inside.at t; log = Some (unskipped inside) }) (record { left = bytes_from after.at told; log = Some (unskipped after) })) same came)
