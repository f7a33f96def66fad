-- What is in sight of a source, and what of it was taken.
use Rattle.std.proofs.Common.{◌≡◌, ◌⊎◌, ℕ, ◌+◌, ◌<◌, ◌≤◌, List, [], ◌∷◌, ◌++◌, length, take, replicate, refl, ap, sym, ◌∙◌, append_assoc, subst, arith, inl, inr, true, false, Option, None, Some}
use Rattle.std.specs.Prelude.{IfSome, IsTrue, ◌↔◌, MatchOption}
use Rattle.std.specs.Io.KnownBytes.{Consumes}
use Rattle.fits_stream.specs.Log.{IsDone, Log}
use Rattle.std.proofs.lemmas.Bool.{cases_lt}
use Rattle.std.proofs.lemmas.List.{append-nil, length-append, length-replicate, length-take-le, take_all}
use Rattle.std.proofs.Math.Seq.{take-append-add}
use Rattle.fits_stream.specs.Intake.{supply, Draws, Finds, Gives, GivesAll, IntakeState, IsInSight, IsLimited, IsSpent, Supply, Takes, Tells, TellsAll}
use Rattle.fits_stream.specs.Stream.{FailsOnce, SourceState, StaysQuiet}
use Rattle.fits_stream.proofs.StreamLemmas.{Reads-none, Reads-more, quiet_read, reads_fails, reads_quiet}

-- nothing is taken
pub takes_none : (a : Supply) → Takes a a []
takes_none a = record { more = []; joined = append-nil a.ahead; drawn = record { read = Reads-none a.source; count = omega arith } }

-- bytes came, and then others
draws_more : (a b c : Supply) (bs cs : List ℕ) → Draws a b bs → Draws b c cs → Draws a c (bs ++ cs)
draws_more a b c bs cs p q = record {
  read = Reads-more a.source b.source c.source bs cs p.read q.read;
  count = omega (arith, p.count, q.count, length-append bs cs);
}

-- bytes are taken, then others
pub takes_more : (a b c : Supply) (bs cs : List ℕ) → Takes a b bs → Takes b c cs → Takes a c (bs ++ cs)
takes_more a b c bs cs p q = record {
  more = p.more ++ q.more;
  joined = sym (append_assoc a.ahead p.more q.more) ∙ (ap (λ t. t ++ q.more) p.joined ∙ (append_assoc bs b.ahead q.more ∙ (ap (λ t. bs ++ t) q.joined ∙ sym (append_assoc bs cs c.ahead))));
  drawn = draws_more a b c p.more q.more p.drawn q.drawn;
}

-- bytes are taken, and then some are held ahead
pub takes_and_holds : (a b c : Supply) (bs : List ℕ) → Takes a b bs → Takes b c [] → Takes a c bs
takes_and_holds a b c bs p q = subst (Takes a c) (append-nil bs) (takes_more a b c bs [] p q)

-- so many fewer may be taken
pub takes_fewer : (a b : Supply) (bs : List ℕ) → Takes a b bs → length a.ahead + a.left ≡ length b.ahead + b.left + length bs
takes_fewer a b bs p = omega (arith, p.drawn.count, ap length p.joined, length-append a.ahead p.more, length-append bs b.ahead)

-- no more is in sight than may be taken
length-take-within : (n : ℕ) (xs : List ℕ) → length (take n xs) ≤ n
length-take-within n xs = elim (cases_lt n (length xs)) [ inl l ↦ omega (arith, length-take-le n xs (omega arith)) | inr le ↦ rw (take_all n xs le) le ]

-- these known bytes may be taken up to a limit
abbrev InSight : Option (List ℕ) → ℕ → List ℕ → Type 0
InSight known left s = MatchOption known (length s ≤ left) (λ xs. s ≡ take left xs)

-- no more of them are in sight than may be taken
known_within : (a : Option (List ℕ)) (left : ℕ) (s : List ℕ) → InSight a left s → length s ≤ left
known_within None left s p = p
known_within (Some xs) left s p = omega (arith, ap length p, length-take-within left xs)

-- no more bytes are in sight than may be taken
pub sight_within : (a : Supply) (s : List ℕ) → IsInSight a s → length s ≤ a.left
sight_within a s p = known_within a.source.remaining a.left s p

-- something is
known_there : (a : Option (List ℕ)) (left : ℕ) → (s : List ℕ) × InSight a left s
known_there None left = ([], omega arith)
known_there (Some xs) left = (take left xs, refl)

-- what is gone, and what is in sight after it, was in sight
known_after : (a b : Option (List ℕ)) (left left' : ℕ) (bytes s : List ℕ) → Consumes a b bytes → left ≡ left' + length bytes → InSight b left' s → InSight a left (bytes ++ s)
known_after None b left left' bytes s p e q = omega (arith, e, known_within b left' s q, length-append bytes s)
known_after (Some xs) None left left' bytes s p e q = absurd p
known_after (Some xs) (Some ys) left left' bytes s p e q =
    let count : left ≡ length bytes + left' = omega (arith, e) in
    let all : take left xs ≡ bytes ++ take left' ys =
    ap (λ t. take left t) p ∙ ap (λ n. take n (bytes ++ ys)) count ∙ take-append-add bytes ys left' in
    sym (all ∙ ap (λ t. bytes ++ t) (sym q))

-- what came, and what is in sight after it, was in sight
sight_after : (a b : Supply) (bytes s : List ℕ) → Draws a b bytes → IsInSight b s → IsInSight a (bytes ++ s)
sight_after a b bytes s p q = known_after a.source.remaining b.source.remaining a.left b.left bytes s p.read.gone p.count q

-- what was taken, what is ahead and what is in sight after it, was ahead and in sight
ahead_after : (a b : Supply) (bytes s : List ℕ) → (p : Takes a b bytes) → a.ahead ++ (p.more ++ s) ≡ bytes ++ (b.ahead ++ s)
ahead_after a b bytes s p = sym (append_assoc a.ahead p.more s) ∙ (ap (λ t. t ++ s) p.joined ∙ append_assoc bytes b.ahead s)

-- nothing is in sight of what is spent
known_spent : (a : Option (List ℕ)) (log : Option Log) (left : ℕ) → (left ≡ 0) ⊎ IsDone a log → InSight a left []
known_spent None log left p = omega arith
known_spent (Some xs) log left p =
    elim p [
      | inl none ↦ sym (ap (λ n. take n xs) none)
      | inr end ↦ sym (ap (take left) end.left ∙ take_all left [] (omega arith))
    ]

-- bytes that begin what is ahead and in sight have a fact, whatever follows them
pub finds_begun : (P : List ℕ → Type 0) (a b : Supply) (bytes : List ℕ) → Takes a b bytes → ((s : List ℕ) → length s ≤ b.left → P (bytes ++ (b.ahead ++ s))) → Finds a b P
finds_begun P a b bytes p q =
    let s = known_there b.source.remaining b.left in
    record {
      sight = p.more ++ s.0;
      in_sight = sight_after a b p.more s.0 p.drawn s.1;
      is = subst P (sym (ahead_after a b bytes s.0 p)) (q s.0 (sight_within b s.0 s.1));
      bytes = bytes;
      taken = p;
    }

-- or they are all
pub finds_spent : (P : List ℕ → Type 0) (a b : Supply) (bytes : List ℕ) → Takes a b bytes → IsSpent b → P (bytes ++ b.ahead) → Finds a b P
finds_spent P a b bytes p spent q = record {
  sight = p.more;
  in_sight = subst (IsInSight a) (append-nil p.more) (sight_after a b p.more [] p.drawn (known_spent b.source.remaining b.source.log b.left spent));
  is = subst P (sym p.joined) q;
  bytes = bytes;
  taken = p;
}

-- no bytes
pub no_bytes : (xs : List ℕ) → length xs ≤ 0 → xs ≡ []
no_bytes [] le = refl
no_bytes (x ∷ xs) le = absurd (omega arith)

-- what was in sight is all
known_given : (a b : Option (List ℕ)) (left left' : ℕ) (bytes s : List ℕ) → InSight a left s → Consumes a b bytes → left ≡ left' + length bytes → IfSome b (λ ys. length ys ≤ left') → IfSome a (λ xs. xs ≡ s)
known_given None b left left' bytes s f p e few = tt
known_given (Some xs) None left left' bytes s f p e few = absurd p
known_given (Some xs) (Some ys) left left' bytes s f p e few =
    let all : take left xs ≡ xs = take_all left xs (omega (arith, e, ap length p, length-append bytes ys, few)) in
    sym (f ∙ all)

-- what is left, with what is ahead of it
known_ahead : (a : Option (List ℕ)) (ahead s : List ℕ) → IfSome a (λ xs. xs ≡ s) → IfSome a (λ xs. ahead ++ xs ≡ ahead ++ s)
known_ahead None ahead s p = tt
known_ahead (Some xs) ahead s p = ap (λ t. ahead ++ t) p

-- no more is left than may be taken: what was ahead and in sight is all
pub finds_given : (P : List ℕ → Type 0) (a b : Supply) → Finds a b P → IfSome b.source.remaining (λ ys. length ys ≤ b.left) → GivesAll a P
finds_given P a b f few =
    let told = known_given a.source.remaining b.source.remaining a.left b.left f.taken.more f.sight f.in_sight f.taken.drawn.read.gone f.taken.drawn.count few in
    (a.ahead ++ f.sight, known_ahead a.source.remaining a.ahead f.sight told, f.is)

-- and what was taken begins it
pub takes_ahead : (a b : Supply) (bytes : List ℕ) → a.left ≡ 0 → Takes a b bytes → a.ahead ≡ bytes ++ b.ahead
takes_ahead a b bytes none p =
    let few : length p.more ≤ 0 = omega (arith, none, p.drawn.count) in
    sym (append-nil a.ahead) ∙ (ap (λ t. a.ahead ++ t) (sym (no_bytes p.more few)) ∙ p.joined)

-- what is left, which is nothing where the source is spent
known_rest : (a : Option (List ℕ)) (log : Option Log) (left : ℕ) → IfSome a (λ xs. length xs ≤ left) → (s : List ℕ) × IfSome a (λ xs. xs ≡ s) × ((length s ≤ left) × ((left ≡ 0) ⊎ IsDone a log → s ≡ []))
known_rest None log left few = ([], tt, (omega arith, λ _. refl))
known_rest (Some xs) log left few = (xs, refl, (few, λ spent. elim spent [ inl zero ↦ no_bytes xs (omega (arith, few, zero)) | inr end ↦ end.left ]))

-- the same of a source that is read up to a limit
pub rest_given : (a : Supply) → IfSome a.source.remaining (λ xs. length xs ≤ a.left) → Gives a.source (λ s. (length s ≤ a.left) × (IsSpent a → s ≡ []))
rest_given a few = known_rest a.source.remaining a.source.log a.left few

-- what is gone, and what is left, is all
known_tells : (a b : Option (List ℕ)) (bytes s : List ℕ) → Consumes a b bytes → IfSome b (λ ys. ys ≡ s) → IfSome a (λ xs. xs ≡ bytes ++ s)
known_tells None b bytes s p q = tt
known_tells (Some xs) None bytes s p q = absurd p
known_tells (Some xs) (Some ys) bytes s p q = p ∙ ap (λ t. bytes ++ t) q

-- what was taken, what is ahead and what is left, is all
pub tells_after : (a b : Supply) (bytes s : List ℕ) → Takes a b bytes → Tells b.source s → TellsAll a (bytes ++ (b.ahead ++ s))
tells_after a b bytes s p q =
    subst (TellsAll a) (ahead_after a b bytes s p) (known_ahead a.source.remaining a.ahead (p.more ++ s) (known_tells a.source.remaining b.source.remaining p.more s p.drawn.read.gone q))

-- more is left than may be taken, and that is more than a limit
known_long : (a b : Option (List ℕ)) (left left' limit : ℕ) (ahead bytes : List ℕ) → Consumes a b bytes → left ≡ left' + length bytes → IfSome a (λ xs. left < length xs → limit < length ahead + length xs) → IfSome b (λ ys. left' < length ys)
    → (all : List ℕ) × IfSome a (λ xs. ahead ++ xs ≡ all) × (limit < length all)
known_long None b left left' limit ahead bytes p e far more = (replicate (limit + 1) 0, tt, omega (arith, length-replicate {A = ℕ} (limit + 1) 0))
known_long (Some xs) None left left' limit ahead bytes p e far more = absurd p
known_long (Some xs) (Some ys) left left' limit ahead bytes p e far more =
    (ahead ++ xs, refl, omega (arith, far (omega (arith, e, ap length p, length-append bytes ys, more)), length-append ahead xs))

-- so all are more than the limit
pub long_given : (limit : ℕ) (a b : Supply) (bytes : List ℕ) → Takes a b bytes → IsLimited limit a → IfSome b.source.remaining (λ ys. b.left < length ys) → GivesAll a (λ all. limit < length all)
long_given limit a b bytes p far more = known_long a.source.remaining b.source.remaining a.left b.left limit a.ahead p.more p.drawn.read.gone p.drawn.count far more

-- more than may be taken of a source is more than the limit
known_limited : (a : Option (List ℕ)) (limit : ℕ) → IfSome a (λ xs. limit < length xs → limit < 0 + length xs)
known_limited None limit = tt
known_limited (Some xs) limit = λ more. omega (arith, more)

-- of which none is ahead
pub limited_source : (limit : ℕ) (source : SourceState) (i : IntakeState) → i ≡ record { ahead = []; left = limit } → IsLimited limit (supply source i)
limited_source limit source i is = rw is (known_limited source.remaining limit)

-- what overruns is more than may be taken, and nothing else is
pub within_limit : (a : Option (List ℕ)) (left : ℕ) → IfSome a (λ xs. IsTrue false ↔ (left < length xs)) → IfSome a (λ xs. length xs ≤ left)
within_limit None left p = tt
within_limit (Some xs) left p = elim (cases_lt left (length xs)) [ inl over ↦ absurd (let no : false ≡ true = p.1 over in cc) | inr le ↦ le ]

-- a source has more than may be taken
pub past_limit : (a : Option (List ℕ)) (left : ℕ) → IfSome a (λ xs. IsTrue true ↔ (left < length xs)) → IfSome a (λ xs. left < length xs)
past_limit None left p = tt
past_limit (Some xs) left p = p.0 refl

-- bytes are taken without a failed call
pub takes_quiet : (a b : Supply) (bytes : List ℕ) → Takes a b bytes → StaysQuiet a.source b.source
takes_quiet a b bytes p = quiet_read a.source b.source p.more p.drawn.read

-- and then none fails, or one does
pub takes_then_quiet : (a b : Supply) (c : SourceState) (bytes : List ℕ) → Takes a b bytes → StaysQuiet b.source c → StaysQuiet a.source c
takes_then_quiet a b c bytes p q = reads_quiet a.source b.source c p.more p.drawn.read q

-- or a call failed then
pub takes_then_fails : (a b : Supply) (c : SourceState) (bytes : List ℕ) → Takes a b bytes → FailsOnce b.source c → FailsOnce a.source c
takes_then_fails a b c bytes p q = reads_fails a.source b.source c p.more p.drawn.read q

pub ruleset takes_steps = (takes_quiet, takes_then_quiet, takes_then_fails)
