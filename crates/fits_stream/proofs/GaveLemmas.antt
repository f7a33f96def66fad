-- What a source gave to its end, and the files that it may be.
use Rattle.std.proofs.Common.{◌≡◌, ◌⊎◌, ℕ, zero, suc, ◌+◌, ◌<◌, ◌≤◌, Bool, false, true, List, [], ◌∷◌, ◌++◌, length, drop, refl, ap, sym, subst, ◌∙◌, append_assoc, arith, inl, inr, Option, None, Some}
use Rattle.std.specs.Io.KnownBytes.{Consumes, IsAtEnd}
use Rattle.std.specs.Prelude.{IfSome}
use Rattle.std.specs.List.{slice_get}
use Rattle.std.proofs.lemmas.Bool.{cases_eq, cases_lt}
use Rattle.std.proofs.lemmas.List.{append-nil, length-append}
use Rattle.std.proofs.lemmas.Option.{none-some, same_Some}
use Rattle.fits_stream.specs.Agree.{IsOf, ReadsOn}
use Rattle.fits_stream.specs.Gave.{EndedAfter, FindsAll, Gave, GaveAll, Overruns}
use Rattle.fits_stream.specs.Intake.{Finds, IsOver, IsSpent, Skips, Supply, Takes}
use Rattle.fits_stream.specs.Log.{unskipped, Adds, IsEnded, Log, Logs}
use Rattle.fits_stream.specs.Stored.{ReadLogState}
use Rattle.fits_stream.specs.Stream.{IsDry, Reads, SourceState, StaysQuiet}
use Rattle.fits_stream.proofs.AgreeLemmas.{of_read, reads_on}
use Rattle.fits_stream.proofs.LogLemmas.{Logs-more, Logs-none}
use Rattle.fits_stream.proofs.SightLemmas.{finds_begun, finds_spent, no_bytes, takes_fewer, takes_more}
use Rattle.fits_stream.proofs.StreamLemmas.{quiet_read, Reads-more}

-- an end stays one
ended_then : (a b c : Option Log) (bytes extra : List ℕ) → Logs a b bytes → IsEnded b → Logs b c extra → EndedAfter a c (length bytes)
ended_then None b c bytes extra p end q = tt
ended_then (Some a) None c bytes extra p end q = absurd p
ended_then (Some a) (Some b) None bytes extra p end q = absurd q
ended_then (Some a) (Some b) (Some c) bytes extra p end q = (end.0, q.ends end.0 (a.at + length bytes) (end.1 ∙ ap Some p.at))

-- where none were ahead, what came is what was taken, and what is ahead now
came_all : (a b : Supply) (bytes : List ℕ) → a.ahead ≡ [] → (p : Takes a b bytes) → p.more ≡ bytes ++ b.ahead
came_all a b bytes begun p = ap (λ t. t ++ p.more) (sym begun) ∙ p.joined

-- so the log says
logs_all : (a b : Supply) (bytes : List ℕ) → a.ahead ≡ [] → Takes a b bytes → Logs a.source.log b.source.log (bytes ++ b.ahead)
logs_all a b bytes begun p = subst (Logs a.source.log b.source.log) (came_all a b bytes begun p) p.drawn.read.log

-- no more came than might
overruns_few : (left : ℕ) (a b : SourceState) (p : Overruns left false a b) → length p.bytes ≤ left
overruns_few left a b p = elim (cases_lt left (length p.bytes)) [ inl far ↦ absurd (let no : false ≡ true = p.far.1 far in cc) | inr le ↦ le ]

-- as many were, and then more come, or none does
pub overruns_after : (a b c : SourceState) (left count : ℕ) (more : Bool) → Skips a b count → count ≡ left → Overruns 0 more b c → Overruns left more a c
overruns_after a b c left count more p is q = record {
  bytes = p.bytes ++ q.bytes;
  read = Reads-more a b c p.bytes q.bytes p.read q.read;
  far = (λ e. omega (arith, q.far.0 e, p.size, is, length-append p.bytes q.bytes), λ far. q.far.1 (omega (arith, far, p.size, is, length-append p.bytes q.bytes)));
}

-- more were known
known_over : (a b : Option (List ℕ)) (left : ℕ) (bytes : List ℕ) → Consumes a b bytes → left < length bytes → IfSome a (λ xs. left < length xs)
known_over None b left bytes p far = tt
known_over (Some xs) None left bytes p far = absurd p
known_over (Some xs) (Some ys) left bytes p far = omega (arith, far, ap length p, length-append bytes ys)

-- more came, so more were left
pub overruns_known : (left : ℕ) (a b : SourceState) → Overruns left true a b → IfSome a.remaining (λ xs. left < length xs)
overruns_known left a b p = known_over a.remaining b.remaining left p.bytes p.read.gone (p.far.0 refl)

-- and no call failed
pub overruns_quiet : (left : ℕ) (more : Bool) (a b : SourceState) → Overruns left more a b → StaysQuiet a b
overruns_quiet left more a b p = quiet_read a b p.bytes p.read

-- as a test says
pub overruns_so : (left : ℕ) (a b : SourceState) (more said : Bool) → more ≡ said → Overruns left more a b → Overruns left said a b
overruns_so left a b more said is p = subst (λ (m : Bool). Overruns left m a b) is p

-- bytes came, and then a read gave none: they are what the source gave to its end
gave_here : (a b : SourceState) (bytes : List ℕ) → Logs a.log b.log bytes → IsDry b → Gave a b bytes
gave_here a b bytes logs dry = record {
  extra = [];
  logs = subst (Logs a.log b.log) (sym (append-nil bytes)) logs;
  over = ended_then a.log b.log b.log bytes [] logs dry.told (Logs-none b.log);
}

-- whatever it does after that
gave_before : (a b c : SourceState) (bytes more : List ℕ) → Logs a.log b.log bytes → IsDry b → Reads more b c → Gave a c bytes
gave_before a b c bytes more logs dry read = record {
  extra = more;
  logs = Logs-more a.log b.log c.log bytes more logs read.log;
  over = ended_then a.log b.log c.log bytes more logs dry.told read.log;
}

-- bytes were taken, and no more come
pub gave : (a b : Supply) (c : SourceState) (bytes : List ℕ) → a.ahead ≡ [] → Takes a b bytes → IsOver b → Overruns b.left false b.source c → IsDry c → Gave a.source c bytes
gave a b c bytes begun takes over rest dry =
    let all : bytes ++ b.ahead ≡ bytes = ap (λ t. bytes ++ t) over.none ∙ append-nil bytes in
    let logs : Logs a.source.log b.source.log bytes = subst (Logs a.source.log b.source.log) all (logs_all a b bytes begun takes) in
    elim over.spent [
      | inl none ↦
          let nothing : bytes ++ rest.bytes ≡ bytes = ap (λ t. bytes ++ t) (no_bytes rest.bytes (omega (arith, overruns_few b.left b.source c rest, none))) ∙ append-nil bytes in
          gave_here a.source c bytes (subst (Logs a.source.log c.log) nothing (Logs-more a.source.log b.source.log c.log bytes rest.bytes logs rest.read.log)) dry
      | inr end ↦ gave_before a.source b.source c bytes rest.bytes logs end rest.read
    ]

-- a fact of all that may follow what was taken
pub finds_all_begun : (P : List ℕ → Type 0) (a b : Supply) (bytes : List ℕ) → Takes a b bytes → ((s : List ℕ) → length s ≤ b.left → P (bytes ++ (b.ahead ++ s))) → FindsAll a b P
finds_all_begun P a b bytes p q = record { bytes = bytes; taken = p; all = λ s few none. q s few }

-- or of what was taken, if nothing follows
pub finds_all_spent : (P : List ℕ → Type 0) (a b : Supply) (bytes : List ℕ) → Takes a b bytes → IsSpent b → P (bytes ++ b.ahead) → FindsAll a b P
finds_all_spent P a b bytes p spent q = record {
  bytes = bytes;
  taken = p;
  all = λ s few none. subst P (ap (λ t. bytes ++ t) (sym (append-nil b.ahead) ∙ ap (λ t. b.ahead ++ t) (sym (none spent)))) q;
}

-- what was taken, what is ahead and what follows it, was ahead and followed
ahead_then : (a b : Supply) (bytes s : List ℕ) → (p : Takes a b bytes) → a.ahead ++ (p.more ++ s) ≡ bytes ++ (b.ahead ++ s)
ahead_then a b bytes s p = sym (append_assoc a.ahead p.more s) ∙ (ap (λ t. t ++ s) p.joined ∙ append_assoc bytes b.ahead s)

-- or what follows was found
pub finds_all_next : (P Q : List ℕ → Type 0) (a b c : Supply) (bytes : List ℕ) → Takes a b bytes → FindsAll b c P → ((s : List ℕ) → length s ≤ b.left → P (b.ahead ++ s) → Q (bytes ++ (b.ahead ++ s))) → FindsAll a c Q
finds_all_next P Q a b c bytes p f q = record {
  bytes = bytes ++ f.bytes;
  taken = takes_more a b c bytes f.bytes p f.taken;
  all = λ s few none.
      let rest : List ℕ = f.taken.more ++ s in
      let same : b.ahead ++ rest ≡ f.bytes ++ (c.ahead ++ s) = ahead_then b c f.bytes s f.taken in
      subst Q (ap (λ t. bytes ++ t) same ∙ sym (append_assoc bytes f.bytes (c.ahead ++ s))) (q rest (omega (arith, few, f.taken.drawn.count, length-append f.taken.more s)) (subst P (sym same) (f.all s few none)));
}

-- and of what follows from what was found
pub finds_then : (P Q : List ℕ → Type 0) (a b : Supply) → FindsAll a b P → ((s : List ℕ) → P s → Q s) → FindsAll a b Q
finds_then P Q a b f next = record { bytes = f.bytes; taken = f.taken; all = λ s few none. next (f.bytes ++ (b.ahead ++ s)) (f.all s few none) }

-- no read gave none at a place, if the first didn't and none of the others did
no_end : (end : ℕ) (ends : List ℕ) (place : ℕ) → (end ≡ place → ⊥) → ((n : ℕ) → slice_get ends n ≡ Some place → ⊥) → (n : ℕ) → slice_get (end ∷ ends) n ≡ Some place → ⊥
no_end end ends place other none zero p = other (same_Some end place p)
no_end end ends place other none (suc n) p = none n p

-- one did, or none
find_end : (ends : List ℕ) (place : ℕ) → ((n : ℕ) × (slice_get ends n ≡ Some place)) ⊎ ((n : ℕ) → slice_get ends n ≡ Some place → ⊥)
find_end [] place = inr (λ n p. none-some place p)
find_end (end ∷ ends) place =
    elim (cases_eq end place) [
      | inl same ↦ inl (0, ap Some same)
      | inr other ↦ elim (find_end ends place) [ inl found ↦ inl (suc found.0, found.1) | inr none ↦ inr (no_end end ends place other none) ]
    ]

-- a log has an end where it stands, or hasn't
ended_or : (log : Option Log) → IsEnded log ⊎ (IsEnded log → ⊥)
ended_or None = inl tt
ended_or (Some log) = elim (find_end log.ends log.at) [ inl found ↦ inl found | inr none ↦ inr (λ p. none p.0 p.1) ]

-- known bytes are left, or aren't
at_end_or : (a : Option (List ℕ)) → IsAtEnd a ⊎ (IsAtEnd a → ⊥)
at_end_or None = inl tt
at_end_or (Some []) = inl refl
at_end_or (Some (x ∷ xs)) = inr (λ p. omega (arith, ap length p))

-- a source told its end, or didn't
dry_or : (a : SourceState) → IsDry a ⊎ (IsDry a → ⊥)
dry_or a =
    elim (at_end_or a.remaining) [
      | inl left ↦ elim (ended_or a.log) [ inl told ↦ inl (record { left = left; told = told }) | inr going ↦ inr (λ dry. going dry.told) ]
      | inr going ↦ inr (λ dry. going dry.left)
    ]

-- nothing more may be taken, or the source told its end, or neither
spent_or : (a : Supply) → IsSpent a ⊎ (IsSpent a → ⊥)
spent_or a =
    elim (cases_eq a.left 0) [
      | inl none ↦ inl (inl none)
      | inr some ↦ elim (dry_or a.source) [ inl end ↦ inl (inr end) | inr going ↦ inr (λ spent. elim spent [ inl none ↦ some none | inr end ↦ going end ]) ]
    ]

-- what was found whatever follows is so of what is in sight
pub finds : (P : List ℕ → Type 0) (a b : Supply) → FindsAll a b P → Finds a b P
finds P a b f =
    elim (spent_or b) [
      | inl spent ↦ finds_spent P a b f.bytes f.taken spent (subst P (ap (λ t. f.bytes ++ t) (append-nil b.ahead)) (f.all [] (omega arith) (λ _. refl)))
      | inr going ↦ finds_begun P a b f.bytes f.taken (λ s few. f.all s few (λ spent. absurd (going spent)))
    ]

-- nothing follows what a source gave to its end: a fact of it is one of all that may follow
pub gave_fact : (P : List ℕ → Type 0) (a b : SourceState) (bytes : List ℕ) → Gave a b bytes → P bytes → GaveAll a b P
gave_fact P a b bytes p fact = record {
  bytes = bytes;
  extra = p.extra;
  logs = p.logs;
  all = λ s none. subst P (sym (append-nil bytes) ∙ ap (λ t. bytes ++ t) (sym (none p.over))) fact;
}

-- what was found is so of all that a source gave, if no more came than might
pub found_gave : (P : List ℕ → Type 0) (a b : Supply) (c : SourceState) → a.ahead ≡ [] → FindsAll a b P → Overruns b.left false b.source c → IsDry c → GaveAll a.source c P
found_gave P a b c begun f rest dry =
    let front : List ℕ = f.bytes ++ b.ahead in
    let logs : Logs a.source.log b.source.log front = logs_all a b f.bytes begun f.taken in
    let few : length rest.bytes ≤ b.left = overruns_few b.left b.source c rest in
    elim (dry_or b.source) [
      | inl end ↦ gave_fact P a.source c front (gave_before a.source b.source c front rest.bytes logs end rest.read)
          (subst P (ap (λ t. f.bytes ++ t) (append-nil b.ahead)) (f.all [] (omega arith) (λ _. refl)))
      | inr going ↦ gave_fact P a.source c (front ++ rest.bytes) (gave_here a.source c (front ++ rest.bytes) (Logs-more a.source.log b.source.log c.log front rest.bytes logs rest.read.log) dry)
          (subst P (sym (append_assoc f.bytes b.ahead rest.bytes))
          (f.all rest.bytes few (λ spent. elim spent [ inl none ↦ no_bytes rest.bytes (omega (arith, few, none)) | inr end ↦ absurd (going end) ])))
    ]

-- if more came, they are more than the limit
pub long_gave : (limit : ℕ) (a b : Supply) (c : SourceState) (bytes : List ℕ) → a.ahead ≡ [] → limit ≤ a.left → Takes a b bytes → Overruns b.left true b.source c → GaveAll a.source c (λ all. limit < length all)
long_gave limit a b c bytes begun many p rest =
    let front : List ℕ = bytes ++ b.ahead in
    record {
      bytes = front ++ rest.bytes;
      extra = [];
      logs = subst (Logs a.source.log c.log) (sym (append-nil (front ++ rest.bytes))) (Logs-more a.source.log b.source.log c.log front rest.bytes (logs_all a b bytes begun p) rest.read.log);
      all = λ s none. omega (arith, many, rest.far.0 refl, ap length begun, takes_fewer a b bytes p, length-append (front ++ rest.bytes) s, length-append front rest.bytes, length-append bytes b.ahead);
    }

-- what follows from a fact of all is one too
pub gave_then : (P Q : List ℕ → Type 0) (a b : SourceState) → GaveAll a b P → ((s : List ℕ) → P s → Q s) → GaveAll a b Q
gave_then P Q a b p next = record { bytes = p.bytes; extra = p.extra; logs = p.logs; all = λ s none. next (p.bytes ++ s) (p.all s none) }

-- reads of a stored file from its start: a fact of all that they gave is one of each file that they may be of
pub gave_of : (P : List ℕ → Type 0) (xs : List ℕ) (a b : Log) (s t : SourceState) (old new : ReadLogState) → s.log ≡ Some (unskipped a) → t.log ≡ Some (unskipped b) → a.at ≡ 0 → old.came ≡ a.came → old.ends ≡ a.ends → new.came ≡ b.came → new.ends ≡ b.ends
    → GaveAll s t P → IsOf xs new → P xs
gave_of P xs a b s t old new is is' start came ends came' ends' p of =
    let read : List ℕ = p.bytes ++ p.extra in
    let adds : Adds (unskipped a) (unskipped b) read = rw (is, is') at p.logs in
    let on : ReadsOn 0 old new read = subst (λ k. ReadsOn k old new read) start (reads_on a b old new read adds came ends came' ends') in
    let rest : List ℕ = p.extra ++ drop (0 + length read) xs in
    let all : xs ≡ p.bytes ++ rest = of_read xs 0 old new read on of ∙ append_assoc p.bytes p.extra (drop (0 + length read) xs) in
    let zero_at : a.at + length p.bytes ≡ length p.bytes = omega (arith, start) in
    subst P (sym all) (p.all rest (λ over.
    let end : (n : ℕ) × (slice_get b.ends n ≡ Some (a.at + length p.bytes)) = rw (is, is') at over in
    let few : length xs ≤ length p.bytes = of.ends end.0 (length p.bytes) (ap (λ t. slice_get t end.0) ends' ∙ end.1 ∙ ap Some zero_at) in
    no_bytes rest (omega (arith, few, ap length all, length-append p.bytes rest))))
