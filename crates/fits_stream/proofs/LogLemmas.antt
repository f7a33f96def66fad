-- What came of a source, put together.
use Rattle.std.proofs.Common.{◌≡◌, ℕ, zero, suc, ◌+◌, ◌-◌, ◌<◌, ◌≤◌, List, [], ◌∷◌, ◌++◌, length, refl, ap, sym, subst, ◌∙◌, append_assoc, arith, Option, None, Some}
use Rattle.std.specs.List.{slice_get}
use Rattle.std.proofs.lemmas.List.{append-nil, length-append}
use Rattle.std.proofs.lemmas.Bool.{le-ltb, lt-ltb}
use Rattle.std.proofs.lemmas.Option.{none-some}
use Rattle.std.specs.Prelude.{OnErr, Result, Ok, Err, false, true, ◌==◌, nat_lt}
use Rattle.fits_stream.specs.Log.{ended, grown, met_end, passed, placed, unskipped, Adds, HasEnded, AreThere, IsThere, Log, Logs, NotesEnd}

-- bytes, and others after them, each with its place
pub placed-append : (at : ℕ) (xs ys : List ℕ) → placed at (xs ++ ys) ≡ placed at xs ++ placed (at + length xs) ys
placed-append at [] ys = let e : at ≡ at + 0 = omega arith in ap (λ n. placed n ys) e
placed-append at (x ∷ xs) ys =
    let e : at + 1 + length xs ≡ at + length (x ∷ xs) = omega arith in
    ap (λ t. (at, x) ∷ t) (placed-append (at + 1) xs ys ∙ ap (λ n. placed (at + 1) xs ++ placed n ys) e)

-- a log that grew by a piece, and then by another
pub grown-more : (log : Log) (xs ys : List ℕ) → grown (grown log xs) ys ≡ grown log (xs ++ ys)
grown-more log xs ys =
    let at : log.at + length xs + length ys ≡ log.at + length (xs ++ ys) = omega (arith, length-append xs ys) in
    let came : (log.came ++ placed log.at xs) ++ placed (log.at + length xs) ys ≡ log.came ++ placed log.at (xs ++ ys) =
    append_assoc log.came (placed log.at xs) (placed (log.at + length xs) ys) ∙ ap (λ t. log.came ++ t) (sym (placed-append log.at xs ys)) in
    ap (λ (n : ℕ). record { at = n; came = (log.came ++ placed log.at xs) ++ placed (log.at + length xs) ys; ends = log.ends; unread = log.unread }) at
    ∙ ap (λ (t : List (ℕ × ℕ)). record { at = log.at + length (xs ++ ys); came = t; ends = log.ends; unread = log.unread }) came

-- an element after others
slice_get-after : (xs ys : List ℕ) (i : ℕ) → slice_get (xs ++ ys) (length xs + i) ≡ slice_get ys i
slice_get-after [] ys i = let e : 0 + i ≡ i = omega arith in ap (slice_get ys) e
slice_get-after (x ∷ xs) ys i = let e : length (x ∷ xs) + i ≡ suc (length xs + i) = omega arith in ap (slice_get (x ∷ (xs ++ ys))) e ∙ slice_get-after xs ys i

-- an element before others
slice_get-before : (xs ys : List ℕ) (i x : ℕ) → slice_get xs i ≡ Some x → slice_get (xs ++ ys) i ≡ Some x
slice_get-before [] ys i x p = absurd (none-some x p)
slice_get-before (y ∷ xs) ys zero x p = p
slice_get-before (y ∷ xs) ys (suc i) x p = slice_get-before xs ys i x p

-- a byte that lies from a place on is one of those that follow others
there-right : (at : ℕ) (xs ys : List ℕ) (one : ℕ × ℕ) → IsThere (at + length xs) ys one → IsThere at (xs ++ ys) one
there-right at xs ys one p =
    let far : one.0 - at ≡ length xs + (one.0 - (at + length xs)) = omega (arith, p.0) in
    (omega (arith, p.0), ap (slice_get (xs ++ ys)) far ∙ slice_get-after xs ys (one.0 - (at + length xs)) ∙ p.1)

-- and of those that others follow
there-left : (at : ℕ) (xs ys : List ℕ) (one : ℕ × ℕ) → IsThere at xs one → IsThere at (xs ++ ys) one
there-left at xs ys one p = (p.0, slice_get-before xs ys (one.0 - at) one.1 p.1)

-- the same of several
are-right : (at : ℕ) (xs ys : List ℕ) (more : List (ℕ × ℕ)) → AreThere (at + length xs) ys more → AreThere at (xs ++ ys) more
are-right at xs ys [] p = tt
are-right at xs ys (one ∷ more) p = (there-right at xs ys one p.0, are-right at xs ys more p.1)

-- bytes that are there are so with more after them
are-left : (at : ℕ) (xs ys : List ℕ) (more : List (ℕ × ℕ)) → AreThere at xs more → AreThere at (xs ++ ys) more
are-left at xs ys [] p = tt
are-left at xs ys (one ∷ more) p = (there-left at xs ys one p.0, are-left at xs ys more p.1)

-- and of some and others
are-both : (at : ℕ) (bytes : List ℕ) (some more : List (ℕ × ℕ)) → AreThere at bytes some → AreThere at bytes more → AreThere at bytes (some ++ more)
are-both at bytes [] more p q = q
are-both at bytes (one ∷ some) more p q = (p.0, are-both at bytes some more p.1 q)

-- bytes, each with its place, lie there
placed-there : (at : ℕ) (xs : List ℕ) → AreThere at xs (placed at xs)
placed-there at [] = tt
placed-there at (x ∷ xs) =
    ((omega arith, let z : at - at ≡ 0 = omega arith in ap (slice_get (x ∷ xs)) z), are-right at (x ∷ []) xs (placed (at + 1) xs) (placed-there (at + 1) xs))

-- nothing came
Adds-none : (a : Log) → Adds a a []
Adds-none a = record { at = omega arith; more = []; joined = sym (append-nil a.came); there = tt; ends = λ n place p. p; later = omega arith; whole = λ _. refl }

-- none did, at an end
pub Adds-ended : (a : Log) (bytes : List ℕ) → bytes ≡ [] → Adds a (ended a) bytes
Adds-ended a bytes none = rw none (record { at = omega arith; more = []; joined = sym (append-nil a.came); there = tt; ends = λ n place p. slice_get-before a.ends (a.at ∷ []) n place p; later = omega arith; whole = λ _. refl })

-- it is one
last-there : (xs : List ℕ) (x : ℕ) → slice_get (xs ++ x ∷ []) (length xs) ≡ Some x
last-there [] x = refl
last-there (y ∷ xs) x = last-there xs x

-- a log that notes an end has it
pub has_ended : (a : Log) → HasEnded (ended a)
has_ended a = (length a.ends, last-there a.ends a.at)

-- bytes came
pub Adds-grown : (a : Log) (bytes : List ℕ) → Adds a (grown a bytes) bytes
Adds-grown a bytes = record { at = refl; more = placed a.at bytes; joined = refl; there = placed-there a.at bytes; ends = λ n place p. p; later = omega arith; whole = λ _. refl }

-- bytes are gone past unread, whatever they are
pub Adds-passed : (a : Log) (count : ℕ) (bytes : List ℕ) → length bytes ≡ count → Adds a (passed a count) bytes
Adds-passed a count [] is = record { at = omega (arith, is); more = []; joined = sym (append-nil a.came); there = tt; ends = λ n place p. p; later = omega arith; whole = λ _. refl }
Adds-passed a count (x ∷ xs) is = record { at = omega (arith, is); more = []; joined = sym (append-nil a.came); there = tt; ends = λ n place p. p; later = omega arith; whole = λ same. absurd (omega (arith, same, is)) }

-- bytes, and then others
Adds-more : (a b c : Log) (xs ys : List ℕ) → Adds a b xs → Adds b c ys → Adds a c (xs ++ ys)
Adds-more a b c xs ys p q = record {
  at = omega (arith, p.at, q.at, length-append xs ys);
  more = p.more ++ q.more;
  joined = q.joined ∙ (ap (λ t. t ++ q.more) p.joined ∙ append_assoc a.came p.more q.more);
  there = are-both a.at (xs ++ ys) p.more q.more (are-left a.at xs ys p.more p.there) (are-right a.at xs ys q.more (subst (λ n. AreThere n ys q.more) p.at q.there));
  ends = λ n place there. q.ends n place (p.ends n place there);
  later = omega (arith, p.later, q.later);
  whole = λ same.
      ap (λ t. t ++ q.more) (p.whole (omega (arith, same, p.later, q.later)))
      ∙ (ap (λ t. placed a.at xs ++ t) (q.whole (omega (arith, same, p.later, q.later)) ∙ ap (λ n. placed n ys) p.at) ∙ sym (placed-append a.at xs ys));
}

-- the same, where a log is kept
pub Logs-none : (a : Option Log) → Logs a a []
Logs-none None = tt
Logs-none (Some a) = Adds-none a

-- bytes came, and then others
pub Logs-more : (a b c : Option Log) (xs ys : List ℕ) → Logs a b xs → Logs b c ys → Logs a c (xs ++ ys)
Logs-more None b c xs ys p q = tt
Logs-more (Some a) None c xs ys p q = absurd p
Logs-more (Some a) (Some b) None xs ys p q = absurd q
Logs-more (Some a) (Some b) (Some c) xs ys p q = Adds-more a b c xs ys p q

-- what a log that grew adds, also where it says nothing of bytes gone past
pub Adds_is : (a b : Log) (bytes : List ℕ) → b ≡ grown a bytes → Adds a b bytes
Adds_is a b bytes is = subst (λ (l : Log). Adds a l bytes) (sym is) (Adds-grown a bytes)

-- an end adds no bytes
pub Adds_end : (a b : Log) (bytes : List ℕ) → b ≡ ended a → bytes ≡ [] → Adds a b bytes
Adds_end a b bytes is none = subst (λ (l : Log). Adds a l bytes) (sym is) (Adds-ended a bytes none)

-- nor does nothing
pub Adds_same : (a : Log) (bytes : List ℕ) → bytes ≡ [] → Adds a a bytes
Adds_same a bytes none = rw none (Adds-none a)

-- what noted an end has it
pub ended_is : (a b : Log) → b ≡ ended a → HasEnded b
ended_is a b is = rw is (has_ended a)

pub ruleset giving_steps = (Adds_is, Adds_end, Adds_same, ended_is)

-- bytes that came, as if none before were gone past unread
pub Adds-unskipped : (a b : Log) (bytes : List ℕ) → Adds a b bytes → b.unread ≡ a.unread → Adds (unskipped a) (unskipped b) bytes
Adds-unskipped a b bytes p same = record { at = p.at; more = p.more; joined = p.joined; there = p.there; ends = p.ends; later = omega arith; whole = λ _. p.whole same }

-- ---- ends

-- a read that gave bytes notes none
unnoted : (count room : ℕ) → (count == 0) ≡ false → met_end count room ≡ false
unnoted count room some = rw some refl

-- no end was noted, and none is by a read that gave bytes
pub unended_more : (a b c : Option Log) (count room : ℕ) → NotesEnd false a b → NotesEnd (met_end count room) b c → (count == 0) ≡ false → NotesEnd false a c
unended_more None b c count room p q some = tt
unended_more (Some a) None c count room p q some = absurd p
unended_more (Some a) (Some b) None count room p q some = absurd q
unended_more (Some a) (Some b) (Some c) count room p q some = (rw (unnoted count room some) at q) ∙ p

-- or one is by a read that gave none
pub ended_more : (a b c : Option Log) (count room n len : ℕ) → NotesEnd false a b → NotesEnd (met_end count room) b c → (count == 0) ≡ true → 0 < room → n < len → NotesEnd (nat_lt n len) a c
ended_more None b c count room n len p q none some less = tt
ended_more (Some a) None c count room n len p q none some less = absurd p
ended_more (Some a) (Some b) None count room n len p q none some less = absurd q
ended_more (Some a) (Some b) (Some c) count room n len p q none some less =
    let met : met_end count room ≡ true = rw (none, lt-ltb _ _ some) refl in
    rw (lt-ltb _ _ less) ((rw met at q) ∙ ap (λ es. es ++ c.at ∷ []) p)

-- as many were gone past as were to be
pub unended_all : (a b : Option Log) (n len : ℕ) → NotesEnd false a b → len ≤ n → NotesEnd (nat_lt n len) a b
unended_all None b n len p all = tt
unended_all (Some a) None n len p all = p
unended_all (Some a) (Some b) n len p all = rw (le-ltb _ _ all) p

-- whatever the error, this is so
pub on_any_err : {T E P : Type 0} (r : Result T E) → P → OnErr r P
on_any_err (Ok x) p = tt
on_any_err (Err e) p = p
