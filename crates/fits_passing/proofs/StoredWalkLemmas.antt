-- A walk over the HDUs of a stored file, as each file has them that the reads may be of.
use Rattle.std.proofs.Common.{◌≡◌, ℕ, ◌+◌, ◌<◌, ◌≤◌, Bool, true, false, List, [], ◌∷◌, ◌++◌, length, drop, refl, ap, sym, subst, ◌∙◌, arith, rules, inr, Option}
use Rattle.std.specs.Prelude.{nat_eq, codes, map}
use Rattle.std.specs.List.{starts_with}
use Rattle.std.proofs.lemmas.List.{map-append}
use Rattle.std.proofs.lemmas.List.Elements.{All-push}
use Rattle.fits_stream.specs.Agree.{IsOf}
use Rattle.fits_stream.specs.Intake.{supply, IntakeState, IsSpent, Takes}
use Rattle.fits_stream.specs.Stored.{Lent, ReadLogState}
use Rattle.fits_stream.proofs.SightLemmas.{takes_fewer}
use Rattle.fits_unit.specs.Again.{Follows}
use Rattle.fits_unit.specs.DataUnit.{is_passed}
use Rattle.fits_passing.specs.File.{begins_extension, goes_on, is_first, joined_hdus, IsFrontOf}
use Rattle.fits_passing.specs.Hdu.{HduParts, HasHduFault, IsHdu, IsHduOf}
use Rattle.fits_passing.specs.Met.{all_there, hdu_end, hdus_end, parts_met, parts_there, reads_of, state_by, AllLieThere, AllPassed, AreMet, Begins, BeginEach, IsLimitedBy, IsMet, IsThere, LiesThere, NextStops, StandsAt, StoredStops}
use Rattle.fits_passing.specs.Opening.{BeginsAsFits, HasOpenFault, open_fault_of}
use Rattle.fits_passing.specs.Reading.{file_fault_of, NextBegins}
use Rattle.fits_passing.specs.declared.hdu_fault.HduFault.{HduFault}
use Rattle.fits_passing.specs.declared.hdu_fault.HduFault.TheVariants as hdu_fault
use Rattle.fits_passing.specs.declared.limits.TheConstants.{FILE_LIMIT, HDU_LIMIT}
use Rattle.fits_passing.specs.declared.open_fault.OpenFault.TheVariants.{NotFits, TooLarge}
use Rattle.fits_passing.specs.declared.passed_hdu.PassedHdu.{PassedHdu}
use Rattle.fits_passing.specs.declared.read_hdu_fault.ReadHduFault.{ReadHduFault}
use Rattle.fits_passing.specs.declared.read_hdu_fault.ReadHduFault.TheVariants as read_hdu
use Rattle.fits_passing.proofs.FileLemmas.{fault_here}
use Rattle.fits_passing.proofs.FrontLemmas.{front_begins, front_none, front_push}
use Rattle.fits_passing.proofs.StoredLemmas.{found_there, grown_follows, stands_held}
use Rattle.fits_passing.proofs.WalkLemmas.{extension_more, front_next, next_on, stops_at_first}

-- as many HDUs as were met
pub count_there : (told : List ℕ) (start : ℕ) (hdus : List PassedHdu) → length (all_there told start hdus) ≡ length hdus
count_there told start [] = refl
count_there told start (it ∷ hdus) = omega (arith, count_there told (hdu_end start it) hdus)

-- where they end with one more
pub end_push : (start : ℕ) (hdus : List PassedHdu) (it : PassedHdu) → hdus_end start (hdus ++ it ∷ []) ≡ hdu_end (hdus_end start hdus) it
end_push start [] it = refl
end_push start (one ∷ hdus) it = end_push (hdu_end start one) hdus it

-- their parts then
there_push : (told : List ℕ) (start : ℕ) (hdus : List PassedHdu) (it : PassedHdu) → all_there told start (hdus ++ it ∷ []) ≡ all_there told start hdus ++ parts_there told (hdus_end start hdus) it ∷ []
there_push told start [] it = refl
there_push told start (one ∷ hdus) it = ap (λ us. parts_there told start one ∷ us) (there_push told (hdu_end start one) hdus it)

-- and they lie there
lie_push : (told : List ℕ) (start : ℕ) (hdus : List PassedHdu) (it : PassedHdu) → AllLieThere told start hdus → LiesThere told (hdus_end start hdus) it → AllLieThere told start (hdus ++ it ∷ [])
lie_push told start [] it p q = (q, tt)
lie_push told start (one ∷ hdus) it p q = (p.0, lie_push told (hdu_end start one) hdus it p.1 q)

-- above zero isn't zero
not_zero : (n : ℕ) → 0 < n → nat_eq n 0 ≡ false
not_zero n h = search rules

-- none is there where none was met
first_there : (told : List ℕ) (start : ℕ) (hdus : List PassedHdu) → nat_eq (length hdus) 0 ≡ is_first (all_there told start hdus)
first_there told start [] = refl
first_there told start (it ∷ hdus) = not_zero (length (it ∷ hdus)) (omega arith)

-- nor among those that are known
first_met : (hdus : List PassedHdu) → nat_eq (length hdus) 0 ≡ is_first (map parts_met hdus)
first_met [] = refl
first_met (it ∷ hdus) = not_zero (length (it ∷ hdus)) (omega arith)

-- it stands at its beginning
pub stands_first : {F : Type 0} (a : Lent F) (i : IntakeState) (told : List ℕ) → i.ahead ≡ [] → i.left ≡ FILE_LIMIT → a.log.at ≡ 0 → length told ≤ FILE_LIMIT → StandsAt told 0 i a
stands_first a i told begun left start limit = record { ahead = rw (begun, start) refl; room = omega (arith, left, limit) }

-- none was met yet
pub begin_none : {F : Type 0} (x y : Option (List ℕ)) (a b : Lent F) (i j : IntakeState) (hdus : List PassedHdu) → hdus ≡ [] → i.ahead ≡ [] → i.left ≡ FILE_LIMIT → a.log.at ≡ 0 → IsLimitedBy (reads_of a) → Follows (reads_of a) (reads_of b) → Takes (supply (state_by x a) i) (supply (state_by y b) j) [] → BeginEach hdus j b
begin_none x y a b i j hdus none begun left start limit follows p = λ told is. rw none (record {
  front = front_none told;
  lie = tt;
  stands = stands_held x y a b i j told 0 p is (stands_first a i told begun left start (limit told (follows told is)));
})

-- one more was met, and what follows it is held
pub begin_more : {F : Type 0} (x y : Option (List ℕ)) (a b c : Lent F) (i j k : IntakeState) (hdus new : List PassedHdu) (it : PassedHdu) (place : ℕ) (primary : Bool) → BeginEach hdus i a → new ≡ hdus ++ it ∷ [] → primary ≡ nat_eq (length hdus) 0 → place ≡ hdus_end 0 hdus → Follows (reads_of a) (reads_of b) → Follows (reads_of b) (reads_of c)
    → ((told : List ℕ) → IsOf told (reads_of b) → StandsAt told place i a → IsThere told primary place it j b) → Takes (supply (state_by x b) j) (supply (state_by y c) k) [] → BeginEach new k c
begin_more x y a b c i j k hdus new it place primary p is_new at is_place ab bc next held = λ told is.
    let then = bc told is in
    let begins = p told (ab told then) in
    let there : IsThere told primary (hdus_end 0 hdus) it j b = subst (λ n. IsThere told primary n it j b) is_place (next told then (subst (λ n. StandsAt told n i a) (sym is_place) begins.stands)) in
    let end : hdus_end 0 new ≡ hdu_end (hdus_end 0 hdus) it = ap (hdus_end 0) is_new ∙ end_push 0 hdus it in
    record {
      front =
          rw (is_new, there_push told 0 hdus it, end_push 0 hdus it)
          (front_push told (all_there told 0 hdus) (parts_there told (hdus_end 0 hdus) it) (drop (hdus_end 0 hdus) told) (drop (hdu_end (hdus_end 0 hdus) it) told) begins.front
          (subst (λ (b' : Bool). IsHduOf b' (drop (hdus_end 0 hdus) told) (parts_there told (hdus_end 0 hdus) it) (drop (hdu_end (hdus_end 0 hdus) it) told)) (at ∙ first_there told 0 hdus) there.hdu));
      lie = rw is_new (lie_push told 0 hdus it begins.lie there.lies);
      stands = subst (λ n. StandsAt told n k c) (sym end) (stands_held x y b c j k told (hdu_end (hdus_end 0 hdus) it) held is there.stands);
    }

-- an HDU must stand after these, where one begins, and the file begins as one
on_there : (told : List ℕ) (us : List HduParts) (first s : List ℕ) → NextBegins (is_first us) first → IsFrontOf told us (first ++ s) → (goes_on us (first ++ s) ≡ true) × BeginsAsFits told
on_there told [] first s begins p = let on = next_on [] first s begins (front_none []) in (refl, subst BeginsAsFits (sym p.joined) on.1)
on_there told (u ∷ us) first s begins p = (extension_more first s begins, front_begins told (u ∷ us) (first ++ s) p (omega arith))

-- a fault of the HDU that comes next is the file's
fails_there : {F : Type 0} (hdus : List PassedHdu) (i : IntakeState) (a : Lent F) (told : List ℕ) (fault : HduFault) → Begins told hdus i a → length told ≤ FILE_LIMIT → NextBegins (nat_eq (length hdus) 0) i.ahead → length hdus < HDU_LIMIT
    → HasHduFault (nat_eq (length hdus) 0) (drop (hdus_end 0 hdus) told) fault → HasOpenFault told (open_fault_of fault (length hdus + 1))
fails_there hdus i a told fault p size begins few fails =
    let us : List HduParts = all_there told 0 hdus in
    let first = first_there told 0 hdus in
    let front : IsFrontOf told us (i.ahead ++ drop a.log.at told) = subst (IsFrontOf told us) p.stands.ahead p.front in
    let on = on_there told us i.ahead (drop a.log.at told) (subst (λ (b' : Bool). NextBegins b' i.ahead) first begins) front in
    let more : goes_on us (drop (hdus_end 0 hdus) told) ≡ true = subst (λ t. goes_on us t ≡ true) (sym p.stands.ahead) on.0 in
    subst (λ n. HasOpenFault told (open_fault_of fault (n + 1))) (count_there told 0 hdus)
    (fault_here told us (drop (hdus_end 0 hdus) told) fault size on.1 p.front more (omega (arith, few, count_there told 0 hdus)) (subst (λ (b' : Bool). HasHduFault b' (drop (hdus_end 0 hdus) told) fault) first fails))

-- so is it of each file that the reads may be of
fault_each : {F : Type 0} (hdus : List PassedHdu) (i : IntakeState) (a b : Lent F) (h place : ℕ) (primary : Bool) (fault : HduFault) → BeginEach hdus i a → IsLimitedBy (reads_of a) → Follows (reads_of a) (reads_of b) → NextBegins (nat_eq (length hdus) 0) i.ahead → length hdus < HDU_LIMIT → primary ≡ nat_eq (length hdus) 0
    → place ≡ hdus_end 0 hdus → h ≡ length hdus + 1 → ((told : List ℕ) → IsOf told (reads_of b) → StandsAt told place i a → HasHduFault primary (drop place told) fault) → (told : List ℕ) → IsOf told (reads_of b) → HasOpenFault told (open_fault_of fault h)
fault_each hdus i a b h place primary fault p limit follows begins few at is_place is_h fails told is =
    let then = follows told is in
    let here = p told then in
    let stands : StandsAt told place i a = subst (λ n. StandsAt told n i a) (sym is_place) here.stands in
    let there : HasHduFault (nat_eq (length hdus) 0) (drop (hdus_end 0 hdus) told) fault = subst (λ (b' : Bool). HasHduFault b' (drop (hdus_end 0 hdus) told) fault) at (subst (λ n. HasHduFault primary (drop n told) fault) is_place (fails told is stands)) in
    subst (λ n. HasOpenFault told (open_fault_of fault n)) (sym is_h) (fails_there hdus i a told fault here (limit told then) begins few there)

-- whatever ended the reading of the next HDU ends the walk
pub stops_by_next : {F : Type 0} (hdus : List PassedHdu) (i : IntakeState) (start : ReadLogState) (a b : Lent F) (h place : ℕ) (primary : Bool) (fault : ReadHduFault) → BeginEach hdus i a → IsLimitedBy (reads_of a) → Follows (reads_of a) (reads_of b) → NextBegins (nat_eq (length hdus) 0) i.ahead → length hdus < HDU_LIMIT
    → primary ≡ nat_eq (length hdus) 0 → place ≡ hdus_end 0 hdus → h ≡ length hdus + 1 → a.failures ≡ start.failures → NextStops primary place i a b fault → StoredStops start (reads_of b) (file_fault_of fault h)
stops_by_next hdus i start a b h place primary (read_hdu.Hdu hdu_fault.NoEnd) p limit follows begins few at is_place is_h quiet stops = (fault_each hdus i a b h place primary hdu_fault.NoEnd p limit follows begins few at is_place is_h stops.0, stops.1 ∙ quiet)
stops_by_next hdus i start a b h place primary (read_hdu.Hdu (hdu_fault.BadShape card)) p limit follows begins few at is_place is_h quiet stops = (fault_each hdus i a b h place primary (hdu_fault.BadShape card) p limit follows begins few at is_place is_h stops.0, stops.1 ∙ quiet)
stops_by_next hdus i start a b h place primary (read_hdu.Hdu hdu_fault.ShortData) p limit follows begins few at is_place is_h quiet stops = (fault_each hdus i a b h place primary hdu_fault.ShortData p limit follows begins few at is_place is_h stops.0, stops.1 ∙ quiet)
stops_by_next hdus i start a b h place primary (read_hdu.Hdu hdu_fault.Memory) p limit follows begins few at is_place is_h quiet stops = stops ∙ quiet
stops_by_next hdus i start a b h place primary read_hdu.Failed p limit follows begins few at is_place is_h quiet stops = stops ∙ ap (λ n. n + 1) quiet

-- the file doesn't begin as one
pub not_begun : {F : Type 0} (x y : Option (List ℕ)) (a b : Lent F) (i j : IntakeState) → i.ahead ≡ [] → i.left ≡ FILE_LIMIT → a.log.at ≡ 0 → IsLimitedBy (reads_of a) → Follows (reads_of a) (reads_of b) → Takes (supply (state_by x a) i) (supply (state_by y b) j) []
    → (length j.ahead < 2880 → IsSpent (supply (state_by y b) j)) → starts_with nat_eq j.ahead (codes "SIMPLE  ") ≡ false → (told : List ℕ) → IsOf told (reads_of b) → HasOpenFault told NotFits
not_begun x y a b i j begun left start limit follows p short e told is =
    found_there (λ s. HasOpenFault s NotFits) x y a b i j told 0 (stops_at_first (supply (state_by x a) i) (supply (state_by y b) j) (omega (arith, ap length begun, left)) p short e) is
    (stands_first a i told begun left start (limit told (follows told is)))

-- an extension begins after as many HDUs as a file may have
pub too_many : {F : Type 0} (hdus : List PassedHdu) (i : IntakeState) (a : Lent F) → BeginEach hdus i a → length hdus ≡ HDU_LIMIT → begins_extension i.ahead ≡ true → (told : List ℕ) → IsOf told (reads_of a) → HasOpenFault told TooLarge
too_many hdus i a p all e told is =
    let here = p told is in
    inr (record {
      before = all_there told 0 hdus;
      rest = drop (hdus_end 0 hdus) told;
      front = here.front;
      all = count_there told 0 hdus ∙ all;
      more = subst (λ t. begins_extension t ≡ true) (sym here.stands.ahead) (extension_more i.ahead (drop a.log.at told) e);
    })

-- the HDUs, as they are known, with one more
pub front_met : (hdus new : List PassedHdu) (it : PassedHdu) (primary : Bool) → IsFrontOf (joined_hdus (map parts_met hdus)) (map parts_met hdus) [] → new ≡ hdus ++ it ∷ [] → primary ≡ nat_eq (length hdus) 0 → IsHdu primary (parts_met it) → IsFrontOf (joined_hdus (map parts_met new)) (map parts_met new) []
front_met hdus new it primary p is at whole =
    rw (is, map-append parts_met hdus (it ∷ [])) (front_next (map parts_met hdus) (parts_met it) p (subst (λ (b' : Bool). IsHdu b' (parts_met it)) (at ∙ first_met hdus) whole))

-- each was met
pub met_more : (hdus new : List PassedHdu) (it : PassedHdu) → AreMet hdus → new ≡ hdus ++ it ∷ [] → IsMet it.header it.unit → AreMet new
met_more hdus new it p is met = rw is (All-push (λ (one : PassedHdu). IsMet one.header one.unit) hdus it p met)

-- and passed by
pub passed_more : (hdus new : List PassedHdu) (it : PassedHdu) → AllPassed hdus → new ≡ hdus ++ it ∷ [] → is_passed it.unit ≡ true → AllPassed new
passed_more hdus new it p is passed = rw is (All-push (λ (one : PassedHdu). is_passed one.unit ≡ true) hdus it p passed)

-- as much is left, and ahead, where none was taken
pub held_left : {F : Type 0} (x y : Option (List ℕ)) (a b : Lent F) (i j : IntakeState) (place limit : ℕ) → Takes (supply (state_by x a) i) (supply (state_by y b) j) [] → place + length i.ahead + i.left ≡ limit → place + length j.ahead + j.left ≡ limit
held_left x y a b i j place limit held all = omega (arith, all, takes_fewer (supply (state_by x a) i) (supply (state_by y b) j) [] held)

-- reads follow one another where none was taken
pub held_follows : {F : Type 0} (x y : Option (List ℕ)) (a b : Lent F) (i j : IntakeState) → Takes (supply (state_by x a) i) (supply (state_by y b) j) [] → Follows (reads_of a) (reads_of b)
held_follows x y a b i j held = grown_follows a b (record { bytes = held.more; logs = held.drawn.read.log })

-- one more begins at the end of the others
pub next_place : (hdus new : List PassedHdu) (it : PassedHdu) (place next : ℕ) → place ≡ hdus_end 0 hdus → new ≡ hdus ++ it ∷ [] → next ≡ hdu_end place it → next ≡ hdus_end 0 new
next_place hdus new it place next at is after = after ∙ ap (λ n. hdu_end n it) at ∙ sym (ap (hdus_end 0) is ∙ end_push 0 hdus it)
