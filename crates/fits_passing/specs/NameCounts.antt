-- How many HDUs are called the same, as a table tells it (own).
use Rattle.std.specs.Prelude.{◌≡◌, ℕ, ◌<◌, ◌^◌, List, ◌∷◌, length, Option, None, Some, zero, suc}
use Rattle.std.specs.List.{slice_get, IsDistinct}
use Rattle.std.specs.Map.{keys_of, lookup}
use Rattle.std.specs.Option.{unwrap_or}
use Rattle.fits_passing.specs.ExtensionName.{is_same_name}
use Rattle.fits_passing.specs.declared.called.ExtensionName.{ExtensionName}
use Rattle.fits_passing.specs.Report.{called_count}

-- what a table says of a name that so many have: nothing where none has it
abbrev pub said_of : ℕ → Option ℕ
said_of zero = None
said_of (suc n) = Some (suc n)

-- how many have a name, as a table says
abbrev pub number_in : List (ExtensionName × ℕ) → ExtensionName → ℕ
number_in entries name = unwrap_or (lookup (is_same_name name) entries) 0

-- a table tells of each name how many of these have it, and has no other names
abbrev pub TellsOf : List (Option ExtensionName) → List (ExtensionName × ℕ) → Type 0
TellsOf names entries = (name : ExtensionName) → lookup (is_same_name name) entries ≡ said_of (called_count name names)

-- and no name stands twice
pub record IsTableOf (names : List (Option ExtensionName)) (entries : List (ExtensionName × ℕ)) : Type 0 where
  pub told : TellsOf names entries
  pub once : IsDistinct is_same_name (keys_of entries)

-- a table tells of so few names that no number passes 64 bits
pub record TellsOfFew (entries : List (ExtensionName × ℕ)) : Type 0 where
  pub names : List (Option ExtensionName)
  pub table : IsTableOf names entries
  pub few : length names < 2 ^ 63

-- an HDU's entry is the place of its name; an HDU that isn't called anything has none
abbrev pub PointsAt : List ExtensionName → Option ExtensionName → Option ℕ → Type 0
PointsAt keys None entry = entry ≡ None
PointsAt keys (Some name) None = ⊥
PointsAt keys (Some name) (Some place) = slice_get keys place ≡ Some name

-- each name that stood at a place stands there
abbrev pub OthersStand : (old new : List (ExtensionName × ℕ)) → Type 0
OthersStand old new = (at : ℕ) (other : ExtensionName) → slice_get (keys_of old) at ≡ Some other → slice_get (keys_of new) at ≡ Some other

-- a table came to tell of one name more, or of an HDU that isn't called anything, whose entry is this
pub record Enters (old new : List (ExtensionName × ℕ)) (name : Option ExtensionName) (entry : Option ℕ) : Type 0 where
  pub table : (names : List (Option ExtensionName)) → IsTableOf names old → IsTableOf (name ∷ names) new
  pub points : PointsAt (keys_of new) name entry
  pub others : OthersStand old new
