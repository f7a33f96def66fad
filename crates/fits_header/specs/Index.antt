-- Entries of names and places, sorted (own).
use Rattle.std.specs.Prelude.{◌≡◌, ℕ, ◌+◌, ◌-◌, ◌==◌, ◌&&◌, ◌||◌, nat_lt, nat_le, Bool, false, not, List, [], ◌∷◌, ◌++◌, map, filter, All, AllPairs, Option, None, Some, if◌then◌else◌}
use Rattle.fits_card.specs.Card.{keyword_name, has_value}
use Rattle.fits_header.specs.Names.{AreNamed, name_number}
use Rattle.fits_header.specs.declared.entry.Entry.{Entry}

-- the entry of a card at a place
abbrev pub entry_of : List ℕ → ℕ → Entry
entry_of card place = record { name = name_number (keyword_name card); place = place; has_value = has_value card }

-- the entries of cards, in the order of their places
abbrev pub entries_from : ℕ → List (List ℕ) → List Entry
entries_from place [] = []
entries_from place (card ∷ cards) = entry_of card place ∷ entries_from (place + 1) cards

-- cards of the same names, which have values alike: their entries are the same
pub record HaveSameKeys (cards others : List (List ℕ)) : Type 0 where
  pub names : map keyword_name cards ≡ map keyword_name others
  pub values : map has_value cards ≡ map has_value others

-- the entry has this name
abbrev pub is_named : ℕ → Entry → Bool
is_named name entry = entry.name == name

-- the entry comes before one of this name and place
abbrev pub comes_before : ℕ → ℕ → Entry → Bool
comes_before name place entry =
    nat_lt entry.name name || (entry.name == name && nat_lt entry.place place)

-- the second doesn't come before the first
abbrev pub IsInOrder : Entry → Entry → Type 0
IsInOrder first second = comes_before first.name first.place second ≡ false

-- by name, and those of a name by place
abbrev pub IsSortedIndex : List Entry → Type 0
IsSortedIndex entries = AllPairs IsInOrder entries

-- of each name they have the same entries, in the same order
abbrev pub AreSame : List Entry → List Entry → Type 0
AreSame es fs = (name : ℕ) → filter (is_named name) es ≡ filter (is_named name) fs

-- the entries are those of the cards, by name and then by place: what a stable sort gives
pub record IsIndexOf (entries : List Entry) (cards : List (List ℕ)) : Type 0 where
  pub sorted : IsSortedIndex entries
  pub same : AreSame entries (entries_from 1 cards)
  pub named : AreNamed cards

-- the entries are those of some cards
pub record IsIndex (entries : List Entry) : Type 0 where
  pub cards : List (List ℕ)
  pub theirs : IsIndexOf entries cards

-- the entries with one more, where it goes
abbrev pub added : List Entry → Entry → List Entry
added entries entry =
    filter (comes_before entry.name entry.place) entries
    ++ entry ∷ filter (λ e. not (comes_before entry.name entry.place e)) entries

-- the entry is of none of the places that go
abbrev pub stays : ℕ → ℕ → Entry → Bool
stays place removed entry = nat_lt entry.place place || nat_le removed (entry.place - place)

-- its place once others come instead
abbrev pub shifted : ℕ → ℕ → ℕ → Entry → Entry
shifted place removed coming entry = record {
  name = entry.name;
  place = if nat_lt entry.place place then entry.place else (entry.place - removed) + coming;
  has_value = entry.has_value;
}

-- the entry once the card at one place went to another
abbrev pub turned : ℕ → ℕ → Entry → Entry
turned from to entry = shifted to 0 1 (shifted from 1 0 entry)

-- an entry of the place has this name
abbrev pub IsNameAt : List Entry → ℕ → ℕ → Type 0
IsNameAt entries place name = All (λ (e : Entry). e.place ≡ place → e.name ≡ name) entries

-- the place of the first that has a value
abbrev pub first_value : List Entry → Option ℕ
first_value [] = None
first_value (entry ∷ entries) = if entry.has_value then Some entry.place else first_value entries

-- the place, where it is before another
abbrev pub before : ℕ → Option ℕ → Option ℕ
before to None = None
before to (Some place) = if nat_lt place to then Some place else None

-- the entries of a name from a place on, and those of greater names
abbrev pub from_place : ℕ → ℕ → List Entry → List Entry
from_place name place entries = filter (λ e. not (comes_before name place e)) entries

-- the places of entries
abbrev pub places_in : List Entry → List ℕ
places_in [] = []
places_in (entry ∷ entries) = entry.place ∷ places_in entries
