-- An HDU of a stored file that was met, as each file has it that the reads may be of.
use Rattle.std.proofs.Common.{◌≡◌, ℕ, ◌+◌, ◌<◌, ◌≤◌, Bool, true, false, List, [], ◌++◌, length, take, drop, refl, ap, sym, subst, ◌∙◌, arith, append_assoc, Option}
use Rattle.std.specs.Prelude.{Ok}
use Rattle.std.proofs.lemmas.Bool.{false≢true}
use Rattle.std.proofs.lemmas.List.{append-nil, drop-drop, length-append, length-drop, length-take, take-append-drop}
use Rattle.std.proofs.Math.Seq.{drop-append_seam, take-append_seam}
use Rattle.fits_card.specs.Header.{Header, header_bytes, joined_cards, IsHeader}
use Rattle.fits_stream.specs.Agree.{IsOf}
use Rattle.fits_stream.specs.Intake.{supply, IntakeState, Takes}
use Rattle.fits_stream.specs.Stored.{Lent}
use Rattle.fits_stream.proofs.SightLemmas.{takes_fewer}
use Rattle.fits_rules.specs.Shape.{shape_of}
use Rattle.fits_rules.specs.Size.{data_length}
use Rattle.fits_unit.specs.Again.{Follows}
use Rattle.fits_unit.specs.DataUnit.{away_plane, is_passed}
use Rattle.fits_unit.specs.declared.away_unit.AwayUnit.{AwayUnit}
use Rattle.fits_unit.specs.declared.away_unit.AwayUnit.TheVariants.{Passed, Unread}
use Rattle.fits_passing.specs.Hdu.{HasHduFault, IsHdu, IsHduOf, LacksData}
use Rattle.fits_passing.specs.HduReading.{HduStops}
use Rattle.fits_passing.specs.Met.{hdu_end, parts_met, parts_there, passed_bytes, reads_of, state_by, unit_place, IsThere, MeetsHdu, NextStops, OverStops, StandsAt}
use Rattle.fits_passing.specs.declared.hdu_fault.HduFault.TheVariants as hdu_fault
use Rattle.fits_passing.specs.declared.passed_hdu.PassedHdu.{PassedHdu}
use Rattle.fits_passing.specs.declared.read_hdu_fault.ReadHduFault.{ReadHduFault}
use Rattle.fits_passing.specs.declared.read_hdu_fault.ReadHduFault.TheVariants as read_hdu
use Rattle.fits_passing.proofs.StoredLemmas.{found_there, grown_follows, stands_after, taken_there}

-- what passed by is all of it
passed_are : (unit : AwayUnit) → is_passed unit ≡ true → passed_bytes unit ≡ (away_plane unit).bytes
passed_are (Passed it) is = refl
passed_are (Unread it) is = absurd (false≢true is)

-- nothing of one that is unread did
unread_none : (unit : AwayUnit) → is_passed unit ≡ false → passed_bytes unit ≡ []
unread_none (Passed it) is = absurd (false≢true (sym is))
unread_none (Unread it) is = refl

-- the parts of one that was met are an HDU
pub met_whole : (primary : Bool) (it : PassedHdu) → IsHeader it.header.header → shape_of primary it.header.header.cards ≡ Ok it.header.shape → length (away_plane it.unit).bytes ≡ data_length it.header.shape → IsHdu primary (parts_met it)
met_whole primary it whole described size = record { shape = it.header.shape; header = whole; described = described; size = size }

-- what follows its header in a file
after_header : (told rest : List ℕ) (place : ℕ) (it : PassedHdu) → drop place told ≡ header_bytes it.header.header ++ rest → drop (unit_place place it) told ≡ rest
after_header told rest place it e =
    sym (drop-drop (length (header_bytes it.header.header)) place told) ∙ ap (drop (length (header_bytes it.header.header))) e ∙ drop-append_seam (header_bytes it.header.header) rest

-- a header has bytes
header_long : (header : Header) → IsHeader header → 80 ≤ length (header_bytes header)
header_long header p = omega (arith, length-append (joined_cards header.cards) (header.end ++ header.fill), length-append header.end header.fill, p.end_size)

-- its header lies in the file, and so much after it
header_within : (told rest : List ℕ) (place : ℕ) (primary : Bool) (it : PassedHdu) → IsHdu primary (parts_met it) → drop place told ≡ header_bytes it.header.header ++ rest → length told ≡ unit_place place it + length rest
header_within told rest place primary it whole e =
    let some : 80 ≤ length (header_bytes it.header.header) = header_long it.header.header whole.header in
    omega (arith, some, ap length e, length-append (header_bytes it.header.header) rest, length-drop place told)

-- as many bytes of the file as it has are its data unit, where there are as many
hdu_there : (told rest : List ℕ) (place : ℕ) (primary : Bool) (it : PassedHdu) → IsHdu primary (parts_met it) → drop place told ≡ header_bytes it.header.header ++ rest → hdu_end place it ≤ length told → IsHduOf primary (drop place told) (parts_there told place it) (drop (hdu_end place it) told)
hdu_there told rest place primary it whole e within =
    let n : ℕ = length (away_plane it.unit).bytes in
    let there : drop (unit_place place it) told ≡ rest = after_header told rest place it e in
    let next : drop n (drop (unit_place place it) told) ≡ drop (hdu_end place it) told = drop-drop n (unit_place place it) told in
    let both : take n (drop (unit_place place it) told) ++ drop (hdu_end place it) told ≡ drop (unit_place place it) told =
    ap (λ t. take n (drop (unit_place place it) told) ++ t) (sym next) ∙ take-append-drop n (drop (unit_place place it) told) in
    record {
      whole = record {
        shape = whole.shape;
        header = whole.header;
        described = whole.described;
        size = omega (arith, within, length-drop (unit_place place it) told, length-take n (drop (unit_place place it) told)) ∙ whole.size;
      };
      joined = e ∙ ap (λ t. header_bytes it.header.header ++ t) (sym there ∙ sym both) ∙ sym (append_assoc (header_bytes it.header.header) (take n (drop (unit_place place it) told)) (drop (hdu_end place it) told));
    }

-- too few bytes follow its header
short_there : (told rest : List ℕ) (place : ℕ) (primary : Bool) (it : PassedHdu) → IsHdu primary (parts_met it) → shape_of primary it.header.header.cards ≡ Ok it.header.shape → length (away_plane it.unit).bytes ≡ data_length it.header.shape → drop place told ≡ header_bytes it.header.header ++ rest
    → length told < hdu_end place it → LacksData primary (drop place told)
short_there told rest place primary it whole described size e short = record {
  header = it.header.header;
  rest = rest;
  shape = it.header.shape;
  cut = record { whole = whole.header; joined = e };
  described = described;
  short = omega (arith, short, header_within told rest place primary it whole e, size);
}

-- an HDU that was met, as it is known
pub hdu_whole : {F : Type 0} (x y : Option (List ℕ)) (a b : Lent F) (i j : IntakeState) (primary : Bool) (it : PassedHdu) → MeetsHdu it.header it.unit primary (supply (state_by x a) i) (supply (state_by y b) j) → IsHdu primary (parts_met it)
hdu_whole x y a b i j primary it p = met_whole primary it p.whole p.described p.met.size

-- its data unit passed by: the HDU is the file's, and what follows it comes next
pub passed_there : {F : Type 0} (x y : Option (List ℕ)) (a b : Lent F) (i j : IntakeState) (told : List ℕ) (primary : Bool) (place : ℕ) (it : PassedHdu) → MeetsHdu it.header it.unit primary (supply (state_by x a) i) (supply (state_by y b) j) → is_passed it.unit ≡ true → IsOf told (reads_of b)
    → StandsAt told place i a → IsThere told primary place it j b
passed_there x y a b i j told primary place it p passed is stands =
    let head : List ℕ = header_bytes it.header.header in
    let unit : List ℕ = (away_plane it.unit).bytes in
    let after : List ℕ = j.ahead ++ drop b.log.at told in
    let taken : Takes (supply (state_by x a) i) (supply (state_by y b) j) (head ++ unit) = subst (λ t. Takes (supply (state_by x a) i) (supply (state_by y b) j) (head ++ t)) (passed_are it.unit passed) p.taken in
    let e : drop place told ≡ head ++ (unit ++ after) = taken_there x y a b i j told (head ++ unit) place taken is stands ∙ append_assoc head unit after in
    let whole = met_whole primary it p.whole p.described p.met.size in
    let within : hdu_end place it ≤ length told = omega (arith, header_within told (unit ++ after) place primary it whole e, length-append unit after) in
    let next : place + length (head ++ unit) ≡ hdu_end place it = omega (arith, length-append head unit) in
    record {
      hdu = hdu_there told (unit ++ after) place primary it whole e within;
      lies = record {
        there = within;
        same = λ known. ap (take (length unit)) (after_header told (unit ++ after) place it e) ∙ take-append_seam unit after;
      };
      stands = subst (λ n. StandsAt told n j b) next (stands_after x y a b i j told (head ++ unit) place taken is stands);
    }

-- of one that is unread its header alone was taken
header_there : {F : Type 0} (x y : Option (List ℕ)) (a b : Lent F) (i j : IntakeState) (told : List ℕ) (primary : Bool) (place : ℕ) (it : PassedHdu) → MeetsHdu it.header it.unit primary (supply (state_by x a) i) (supply (state_by y b) j) → is_passed it.unit ≡ false → IsOf told (reads_of b)
    → StandsAt told place i a → drop place told ≡ header_bytes it.header.header ++ (j.ahead ++ drop b.log.at told)
header_there x y a b i j told primary place it p unread is stands =
    let head : List ℕ = header_bytes it.header.header in
    let none : head ++ passed_bytes it.unit ≡ head = ap (λ t. head ++ t) (unread_none it.unit unread) ∙ append-nil head in
    taken_there x y a b i j told head place (subst (λ t. Takes (supply (state_by x a) i) (supply (state_by y b) j) t) none p.taken) is stands

-- it is unread, and lies in the file all the same
pub unread_there : {F : Type 0} (x y : Option (List ℕ)) (a b c : Lent F) (i j k : IntakeState) (told : List ℕ) (primary : Bool) (place : ℕ) (it : PassedHdu) → MeetsHdu it.header it.unit primary (supply (state_by x a) i) (supply (state_by y b) j) → is_passed it.unit ≡ false
    → IsOf told (reads_of b) → StandsAt told place i a → hdu_end place it ≤ length told → StandsAt told (hdu_end place it) k c → IsThere told primary place it k c
unread_there x y a b c i j k told primary place it p unread is stands within over =
    let whole = met_whole primary it p.whole p.described p.met.size in
    record {
      hdu = hdu_there told (j.ahead ++ drop b.log.at told) place primary it whole (header_there x y a b i j told primary place it p unread is stands) within;
      lies = record { there = within; same = λ known. absurd (false≢true (sym unread ∙ known)) };
      stands = over;
    }

-- a fault of an HDU is one of whatever file the reads are of
pub next_stops : {F : Type 0} (x y : Option (List ℕ)) (a b : Lent F) (i j : IntakeState) (primary : Bool) (place : ℕ) (fault : ReadHduFault) → HduStops primary (supply (state_by x a) i) (supply (state_by y b) j) fault → NextStops primary place i a b fault
next_stops x y a b i j primary place (read_hdu.Hdu hdu_fault.NoEnd) p = (λ told is stands. found_there (λ s. HasHduFault primary s hdu_fault.NoEnd) x y a b i j told place p is stands, p.taken.drawn.read.quiet)
next_stops x y a b i j primary place (read_hdu.Hdu (hdu_fault.BadShape card)) p = (λ told is stands. found_there (λ s. HasHduFault primary s (hdu_fault.BadShape card)) x y a b i j told place p is stands, p.taken.drawn.read.quiet)
next_stops x y a b i j primary place (read_hdu.Hdu hdu_fault.ShortData) p = (λ told is stands. found_there (λ s. HasHduFault primary s hdu_fault.ShortData) x y a b i j told place p is stands, p.taken.drawn.read.quiet)
next_stops x y a b i j primary place (read_hdu.Hdu hdu_fault.Memory) p = p.quiet
next_stops x y a b i j primary place read_hdu.Failed p = p.failed

-- and reads follow one another then too
pub stops_follow : {F : Type 0} (x y : Option (List ℕ)) (a b : Lent F) (i j : IntakeState) (primary : Bool) (fault : ReadHduFault) → HduStops primary (supply (state_by x a) i) (supply (state_by y b) j) fault → Follows (reads_of a) (reads_of b)
stops_follow x y a b i j primary (read_hdu.Hdu hdu_fault.NoEnd) p = grown_follows a b (record { bytes = p.taken.more; logs = p.taken.drawn.read.log })
stops_follow x y a b i j primary (read_hdu.Hdu (hdu_fault.BadShape card)) p = grown_follows a b (record { bytes = p.taken.more; logs = p.taken.drawn.read.log })
stops_follow x y a b i j primary (read_hdu.Hdu hdu_fault.ShortData) p = grown_follows a b (record { bytes = p.taken.more; logs = p.taken.drawn.read.log })
stops_follow x y a b i j primary (read_hdu.Hdu hdu_fault.Memory) p = grown_follows a b p.log
stops_follow x y a b i j primary read_hdu.Failed p = grown_follows a b p.log

-- the place after it wasn't come to: no HDU is there
pub over_stops : {F : Type 0} (x y : Option (List ℕ)) (a b c : Lent F) (i j : IntakeState) (primary : Bool) (place : ℕ) (it : PassedHdu) (fault : ReadHduFault) → MeetsHdu it.header it.unit primary (supply (state_by x a) i) (supply (state_by y b) j) → is_passed it.unit ≡ false
    → Follows (reads_of b) (reads_of c) → OverStops (hdu_end place it) b c fault → NextStops primary place i a c fault
over_stops x y a b c i j primary place it (read_hdu.Hdu hdu_fault.NoEnd) p unread follows stops = absurd stops
over_stops x y a b c i j primary place it (read_hdu.Hdu (hdu_fault.BadShape card)) p unread follows stops = absurd stops
over_stops x y a b c i j primary place it (read_hdu.Hdu hdu_fault.ShortData) p unread follows stops = (
  λ told is stands.
      let whole = met_whole primary it p.whole p.described p.met.size in
      short_there told (j.ahead ++ drop b.log.at told) place primary it whole p.described p.met.size (header_there x y a b i j told primary place it p unread (follows told is) stands) (stops.0 told is),
  stops.1 ∙ p.taken.drawn.read.quiet,
)
over_stops x y a b c i j primary place it (read_hdu.Hdu hdu_fault.Memory) p unread follows stops = stops ∙ p.taken.drawn.read.quiet
over_stops x y a b c i j primary place it read_hdu.Failed p unread follows stops = stops ∙ ap (λ n. n + 1) p.taken.drawn.read.quiet

-- so much of a file is left after it
pub left_after : {F : Type 0} (x y : Option (List ℕ)) (a b : Lent F) (i j : IntakeState) (primary : Bool) (place limit : ℕ) (it : PassedHdu) → MeetsHdu it.header it.unit primary (supply (state_by x a) i) (supply (state_by y b) j) → place + length i.ahead + i.left ≡ limit
    → unit_place place it + length (passed_bytes it.unit) + length j.ahead + j.left ≡ limit
left_after x y a b i j primary place limit it p all =
    omega (arith, all, takes_fewer (supply (state_by x a) i) (supply (state_by y b) j) (header_bytes it.header.header ++ passed_bytes it.unit) p.taken, length-append (header_bytes it.header.header) (passed_bytes it.unit))

-- of one that passed by
pub left_passed : {F : Type 0} (x y : Option (List ℕ)) (a b : Lent F) (i j : IntakeState) (primary : Bool) (place limit : ℕ) (it : PassedHdu) → MeetsHdu it.header it.unit primary (supply (state_by x a) i) (supply (state_by y b) j) → is_passed it.unit ≡ true → place + length i.ahead + i.left ≡ limit
    → hdu_end place it + length j.ahead + j.left ≡ limit
left_passed x y a b i j primary place limit it p passed all = omega (arith, left_after x y a b i j primary place limit it p all, ap length (passed_are it.unit passed))

-- one that is unread ends within that
pub end_within : {F : Type 0} (x y : Option (List ℕ)) (a b : Lent F) (i j : IntakeState) (primary : Bool) (place limit : ℕ) (it : PassedHdu) → MeetsHdu it.header it.unit primary (supply (state_by x a) i) (supply (state_by y b) j) → is_passed it.unit ≡ false → length (away_plane it.unit).bytes ≤ length j.ahead + j.left
    → place + length i.ahead + i.left ≡ limit → hdu_end place it ≤ limit
end_within x y a b i j primary place limit it p unread room all = omega (arith, left_after x y a b i j primary place limit it p all, ap length (unread_none it.unit unread), room)

-- it doesn't end at the beginning of the file
pub end_some : (place : ℕ) (it : PassedHdu) → IsHeader it.header.header → 0 < hdu_end place it
end_some place it whole = omega (arith, header_long it.header.header whole)

-- however it was met, it ends within that
end_by : {F : Type 0} (x y : Option (List ℕ)) (a b : Lent F) (i j : IntakeState) (primary : Bool) (place limit : ℕ) (it : PassedHdu) (passed : Bool) → is_passed it.unit ≡ passed → MeetsHdu it.header it.unit primary (supply (state_by x a) i) (supply (state_by y b) j)
    → (is_passed it.unit ≡ false → length (away_plane it.unit).bytes ≤ length j.ahead + j.left) → place + length i.ahead + i.left ≡ limit → hdu_end place it ≤ limit
end_by x y a b i j primary place limit it true passed p room all = omega (arith, left_passed x y a b i j primary place limit it p passed all)
end_by x y a b i j primary place limit it false unread p room all = end_within x y a b i j primary place limit it p unread (room unread) all

pub end_bound : {F : Type 0} (x y : Option (List ℕ)) (a b : Lent F) (i j : IntakeState) (primary : Bool) (place limit : ℕ) (it : PassedHdu) → MeetsHdu it.header it.unit primary (supply (state_by x a) i) (supply (state_by y b) j)
    → (is_passed it.unit ≡ false → length (away_plane it.unit).bytes ≤ length j.ahead + j.left) → place + length i.ahead + i.left ≡ limit → hdu_end place it ≤ limit
end_bound x y a b i j primary place limit it p room all = end_by x y a b i j primary place limit it (is_passed it.unit) refl p room all

-- reads follow one another where one was met
pub met_follows : {F : Type 0} (x y : Option (List ℕ)) (a b : Lent F) (i j : IntakeState) (primary : Bool) (it : PassedHdu) → MeetsHdu it.header it.unit primary (supply (state_by x a) i) (supply (state_by y b) j) → Follows (reads_of a) (reads_of b)
met_follows x y a b i j primary it p = grown_follows a b (record { bytes = p.taken.more; logs = p.taken.drawn.read.log })
