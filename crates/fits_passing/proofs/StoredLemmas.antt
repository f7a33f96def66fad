-- What a stored file that is lent gave, as far as each file that its reads may be of has it.
use Rattle.std.proofs.Common.{◌≡◌, ℕ, ◌+◌, ◌<◌, ◌≤◌, false, List, [], ◌++◌, length, drop, refl, ap, sym, subst, ◌∙◌, arith, append_assoc, inl, inr, Option, Some, zero, suc}
use Rattle.std.specs.Prelude.{nat_eq}
use Rattle.std.specs.List.{slice_get}
use Rattle.std.proofs.lemmas.List.{append-nil, drop-append-le, drop-drop, drop_all, length-append, length-drop}
use Rattle.std.proofs.Math.Seq.{drop-append_seam}
use Rattle.fits_stream.specs.Agree.{IsOf, ReadsOn}
use Rattle.fits_stream.specs.Gave.{FindsAll}
use Rattle.fits_stream.specs.Intake.{supply, IntakeState, IsOver, IsSpent, Takes}
use Rattle.fits_stream.specs.Log.{unskipped, Adds, AreThere, Grows}
use Rattle.fits_stream.specs.Stored.{Lent}
use Rattle.fits_stream.proofs.AgreeLemmas.{of_before, of_read, reads_on}
use Rattle.fits_unit.specs.Again.{Follows}
use Rattle.fits_passing.specs.Met.{reads_of, state_by, IsLimitedBy, StandsAt}

-- what it read
pub read_on : {F : Type 0} (a b : Lent F) (bytes : List ℕ) → Adds (unskipped a.log) (unskipped b.log) bytes → ReadsOn a.log.at (reads_of a) (reads_of b) bytes
read_on a b bytes adds = reads_on a.log b.log (reads_of a) (reads_of b) bytes adds refl refl refl refl

-- a file of its reads then is one of those before
pub of_earlier : {F : Type 0} (a b : Lent F) (told bytes : List ℕ) → Adds (unskipped a.log) (unskipped b.log) bytes → IsOf told (reads_of b) → IsOf told (reads_of a)
of_earlier a b told bytes adds is = of_before told a.log.at (reads_of a) (reads_of b) bytes (read_on a b bytes adds) is

-- bytes were taken: they are those of the file, and those that follow are ahead or come next
pub taken_there : {F : Type 0} (x y : Option (List ℕ)) (a b : Lent F) (i j : IntakeState) (told bytes : List ℕ) (place : ℕ) → Takes (supply (state_by x a) i) (supply (state_by y b) j) bytes → IsOf told (reads_of b) → StandsAt told place i a
    → drop place told ≡ bytes ++ (j.ahead ++ drop b.log.at told)
taken_there x y a b i j told bytes place p is stands =
    let read : drop a.log.at told ≡ p.more ++ drop (a.log.at + length p.more) told = of_read told a.log.at (reads_of a) (reads_of b) p.more (read_on a b p.more p.drawn.read.log) is in
    let next : a.log.at + length p.more ≡ b.log.at = sym p.drawn.read.log.at in
    stands.ahead ∙ ap (λ t. i.ahead ++ t) (read ∙ ap (λ n. p.more ++ drop n told) next) ∙ sym (append_assoc i.ahead p.more (drop b.log.at told)) ∙ ap (λ t. t ++ drop b.log.at told) p.joined ∙ append_assoc bytes j.ahead (drop b.log.at told)

-- so it stands after them
pub stands_after : {F : Type 0} (x y : Option (List ℕ)) (a b : Lent F) (i j : IntakeState) (told bytes : List ℕ) (place : ℕ) → Takes (supply (state_by x a) i) (supply (state_by y b) j) bytes → IsOf told (reads_of b) → StandsAt told place i a
    → StandsAt told (place + length bytes) j b
stands_after x y a b i j told bytes place p is stands =
    let there = taken_there x y a b i j told bytes place p is stands in
    record {
      ahead = sym (drop-drop (length bytes) place told) ∙ ap (drop (length bytes)) there ∙ drop-append_seam bytes (j.ahead ++ drop b.log.at told);
      room = omega (arith, stands.room, p.drawn.count, p.drawn.read.log.at);
    }

-- nothing follows what is spent
spent_none : {F : Type 0} (y : Option (List ℕ)) (b : Lent F) (j : IntakeState) (told : List ℕ) → IsOf told (reads_of b) → length told ≤ b.log.at + j.left → IsSpent (supply (state_by y b) j) → drop b.log.at told ≡ []
spent_none y b j told is room spent =
    elim spent [
      | inl none ↦ drop_all b.log.at told (omega (arith, room, none))
      | inr dry ↦ drop_all b.log.at told (is.ends dry.told.0 b.log.at dry.told.1)
    ]

-- what was found of all that may come is so of the file
pub found_there : {F : Type 0} (P : List ℕ → Type 0) (x y : Option (List ℕ)) (a b : Lent F) (i j : IntakeState) (told : List ℕ) (place : ℕ) → FindsAll (supply (state_by x a) i) (supply (state_by y b) j) P → IsOf told (reads_of b) → StandsAt told place i a → P (drop place told)
found_there P x y a b i j told place f is stands =
    let there = taken_there x y a b i j told f.bytes place f.taken is stands in
    let after = stands_after x y a b i j told f.bytes place f.taken is stands in
    subst P (sym there) (f.all (drop b.log.at told) (omega (arith, length-drop b.log.at told, after.room)) (λ spent. spent_none y b j told is after.room spent))

-- the rest of what may be taken was: it is the rest of the file
pub rest_there : {F : Type 0} (x y : Option (List ℕ)) (a b : Lent F) (i j : IntakeState) (told bytes : List ℕ) (place : ℕ) → Takes (supply (state_by x a) i) (supply (state_by y b) j) bytes → IsOver (supply (state_by y b) j) → IsOf told (reads_of b) → StandsAt told place i a → drop place told ≡ bytes
rest_there x y a b i j told bytes place p over is stands =
    let after = stands_after x y a b i j told bytes place p is stands in
    let none : drop b.log.at told ≡ [] = spent_none y b j told is after.room over.spent in
    taken_there x y a b i j told bytes place p is stands ∙ ap (λ t. bytes ++ (j.ahead ++ t)) none ∙ ap (λ t. bytes ++ (t ++ [])) over.none ∙ append-nil bytes

-- whatever came since: a file of the reads then is one of those before
pub grown_follows : {F : Type 0} (a b : Lent F) → Grows (Some (unskipped a.log)) (Some (unskipped b.log)) → Follows (reads_of a) (reads_of b)
grown_follows a b p = λ told is. of_earlier a b told p.bytes p.logs is

-- so is one where the next byte lies elsewhere
pub of_turned : {F : Type 0} (a b : Lent F) (told : List ℕ) → b.log.came ≡ a.log.came → b.log.ends ≡ a.log.ends → IsOf told (reads_of b) → IsOf told (reads_of a)
of_turned a b told came ends is = record {
  came = subst (AreThere 0 told) came is.came;
  ends = λ n place there. is.ends n place (ap (λ (t : List ℕ). slice_get t n) ends ∙ there);
}

-- what was turned elsewhere, and then gone on with
pub turned_follows : {F : Type 0} (a b c : Lent F) → b.log.came ≡ a.log.came → b.log.ends ≡ a.log.ends → Grows (Some (unskipped b.log)) (Some (unskipped c.log)) → Follows (reads_of a) (reads_of c)
turned_follows a b c came ends p = λ told is. of_turned a b told came ends (of_earlier b c told p.bytes p.logs is)

-- no file of later reads is longer than one of earlier ones may be
pub limited_after : {F : Type 0} (a b : Lent F) → IsLimitedBy (reads_of a) → Follows (reads_of a) (reads_of b) → IsLimitedBy (reads_of b)
limited_after a b limit follows = λ told is. limit told (follows told is)

-- bytes are held, and none is taken: it stands where it stood
pub stands_held : {F : Type 0} (x y : Option (List ℕ)) (a b : Lent F) (i j : IntakeState) (told : List ℕ) (place : ℕ) → Takes (supply (state_by x a) i) (supply (state_by y b) j) [] → IsOf told (reads_of b) → StandsAt told place i a → StandsAt told place j b
stands_held x y a b i j told place p is stands = record {
  ahead = taken_there x y a b i j told [] place p is stands;
  room = omega (arith, stands.room, p.drawn.count, p.drawn.read.log.at);
}

-- one of what is held is passed
pub stands_passed : {F : Type 0} (b : Lent F) (j k : IntakeState) (told : List ℕ) (last end : ℕ) → StandsAt told last j b → end ≡ last + 1 → 0 < length j.ahead → k.ahead ≡ drop 1 j.ahead → k.left ≡ j.left → StandsAt told end k b
stands_passed b j k told last end stands next some ahead left = record {
  ahead = ap (λ n. drop n told) next ∙ sym (drop-drop 1 last told) ∙ ap (drop 1) stands.ahead ∙ drop-append-le 1 j.ahead (drop b.log.at told) (omega (arith, some)) ∙ ap (λ t. t ++ drop b.log.at told) (sym ahead);
  room = omega (arith, stands.room, left);
}

-- there is one, so the file goes as far
pub held_within : {F : Type 0} (b : Lent F) (j : IntakeState) (told : List ℕ) (last : ℕ) → StandsAt told last j b → 0 < length j.ahead → last < length told
held_within b j told last stands some = omega (arith, some, ap length stands.ahead, length-append j.ahead (drop b.log.at told), length-drop last told)

-- where none is held though one may be, nothing lies there
pub none_held : {F : Type 0} (x y : Option (List ℕ)) (a b : Lent F) (i j : IntakeState) (told : List ℕ) → Takes (supply (state_by x a) i) (supply (state_by y b) j) [] → length i.ahead ≡ 0 → length j.ahead ≡ 0 → 0 < i.left → IsSpent (supply (state_by y b) j) → IsOf told (reads_of b) → length told ≤ a.log.at
none_held x y a b i j told p begun none room spent is =
    let empty : length p.more ≡ 0 = omega (arith, ap length p.joined, length-append i.ahead p.more, begun, none) in
    elim spent [
      | inl over ↦ absurd (omega (arith, over, p.drawn.count, empty, room))
      | inr dry ↦ let end : length told ≤ b.log.at = is.ends dry.told.0 b.log.at dry.told.1 in omega (arith, end, p.drawn.read.log.at, empty)
    ]

-- the byte at a place was read for, and there is none
pub none_there : {F : Type 0} (b : Lent F) (told : List ℕ) (n place : ℕ) → IsOf told (reads_of b) → slice_get b.log.ends n ≡ Some place → length told ≤ place
none_there b told n place is there = is.ends n place there

-- some bytes came from there, so there are some
pub some_there : {F : Type 0} (a b : Lent F) (told bytes : List ℕ) → Adds (unskipped a.log) (unskipped b.log) bytes → IsOf told (reads_of b) → 0 < length bytes → a.log.at < length told
some_there a b told bytes adds is some =
    let there : drop a.log.at told ≡ bytes ++ drop (a.log.at + length bytes) told = of_read told a.log.at (reads_of a) (reads_of b) bytes (read_on a b bytes adds) is in
    omega (arith, some, ap length there, length-append bytes (drop (a.log.at + length bytes) told), length-drop a.log.at told)

-- it stands where it begins to be read, with nothing ahead
pub stands_fresh : {F : Type 0} (a : Lent F) (i : IntakeState) (told : List ℕ) (place : ℕ) → i.ahead ≡ [] → a.log.at ≡ place → length told ≤ place + i.left → StandsAt told place i a
stands_fresh a i told place none at room = record {
  ahead = ap (λ n. drop n told) (sym at) ∙ ap (λ t. t ++ drop a.log.at told) (sym none);
  room = omega (arith, at, room);
}

-- a count that isn't zero
pub some_count : (n : ℕ) → nat_eq n 0 ≡ false → 0 < n
some_count zero none = absurd (cc)
some_count (suc n) none = omega arith
