-- Bounds of work by what an edit touches: the mandatory cards, and those that it takes out or puts in (own).
use Rattle.std.specs.Prelude.{◌≡◌, ℕ, ◌+◌, ◌*◌, ◌≤◌, List, codes, get_or, length, Option, None, Some, Result, Ok, Err, if◌then◌else◌}
use Rattle.std.specs.List.{slice_get}
use Rattle.std.specs.Ordering.{int_eq}
use Rattle.fits_card.specs.declared.change.Change.{Change}
use Rattle.fits_card.specs.declared.change.Change.TheVariants.{Splice, Move}
use Rattle.fits_rules.specs.declared.array_shape.Shape.{Shape}
use Rattle.fits_image.specs.Kind.{offset_of}
use Rattle.fits_image.specs.declared.kind.Kind.{Kind}
use Rattle.fits_hdu.specs.Keyword.{own_count}
use Rattle.fits_hdu.specs.State.{HduState}
use Rattle.fits_hdu.specs.Work.{PixelWork}
use Rattle.fits_session.specs.Session.{reads_of, works_of}
use Rattle.fits_making.specs.declared.refusal.Refusal.{Refusal}

-- how many mandatory cards a shape has before those of its extension: the first, BITPIX, NAXIS and its axes (4.4.1.1)
abbrev pub mandatory_count : Shape → ℕ
mandatory_count shape = 3 + length shape.axes

-- how many cards a change takes out and puts in
abbrev pub moved_count : Result Change Refusal → ℕ
moved_count (Ok (Splice place removed new)) = removed + length new
moved_count (Ok (Move from to)) = 2
moved_count (Err why) = 0

-- how many a stamp takes out and puts in: the cards of both keywords, and one for each
abbrev pub stamped_count : List (List ℕ) → ℕ
stamped_count cards = own_count cards (codes "CHECKSUM") + own_count cards (codes "DATASUM ") + 2

-- how many cards BSCALE and BZERO have that a reshape writes anew, and one for each; none where the offset stays
abbrev pub rescaled_count : Kind → Kind → List (List ℕ) → ℕ
rescaled_count old kind cards =
    if int_eq (offset_of old) (offset_of kind) then 0 else own_count cards (codes "BSCALE  ") + own_count cards (codes "BZERO   ") + 2

-- how many cards a reshape takes out and puts in, with those: BITPIX, NAXIS and the axes
abbrev pub reshaped_count : Option Kind → Kind → List ℕ → Shape → List (List ℕ) → ℕ
reshaped_count None kind axes shape cards = 0
reshaped_count (Some old) kind axes shape cards = (2 + length shape.axes) + (2 + length axes) + rescaled_count old kind cards

-- how many cards an edit reads at most
abbrev pub most_reads : (mandatory moved : ℕ) → ℕ
most_reads mandatory moved = 4 * mandatory + 4 * moved + 64

-- a data unit was worked on: so many blocks scanned more at most, so many nodes of its tree joined, and no pixel read
pub record WorksUpTo (blocks nodes : ℕ) (old new : PixelWork) : Type 0 where
  pub more_scans : old.scans ≤ new.scans
  pub scans : new.scans ≤ old.scans + blocks
  pub reads : new.reads ≡ old.reads
  pub more_joins : old.joins ≤ new.joins
  pub joins : new.joins ≤ old.joins + nodes

-- the same where for each scan a leaf is written in a tree of this depth
abbrev pub ScansUpTo : (blocks depth : ℕ) → (old new : PixelWork) → Type 0
ScansUpTo blocks depth old new = WorksUpTo blocks (blocks * (depth + 1)) old new

-- no work yet
abbrev pub unworked : PixelWork
unworked = record { scans = 0; reads = 0; joins = 0 }

-- no count of a data unit fell
pub record Grows (old new : PixelWork) : Type 0 where
  pub scans : old.scans ≤ new.scans
  pub reads : old.reads ≤ new.reads
  pub joins : old.joins ≤ new.joins

-- no count of any HDU fell
pub record NoneFalls (before after : List HduState) : Type 0 where
  pub cards : (i : ℕ) → get_or (reads_of before) i 0 ≤ get_or (reads_of after) i 0
  pub pixels : (i : ℕ) (old new : PixelWork) → slice_get (works_of before) i ≡ Some old → slice_get (works_of after) i ≡ Some new → Grows old new

-- the counts of each HDU but h stay
pub record OthersStay (h : ℕ) (before after : List HduState) : Type 0 where
  pub cards : (i : ℕ) → (h ≡ i + 1 → ⊥) → slice_get (reads_of after) i ≡ slice_get (reads_of before) i
  pub pixels : (i : ℕ) → (h ≡ i + 1 → ⊥) → slice_get (works_of after) i ≡ slice_get (works_of before) i

-- what was counted of the HDU at one index is what is counted of that at another
pub record SameCounts (was is : ℕ) (before after : List HduState) : Type 0 where
  pub cards : slice_get (reads_of after) is ≡ slice_get (reads_of before) was
  pub pixels : slice_get (works_of after) is ≡ slice_get (works_of before) was
