-- The table of what the HDUs of a session are called: each name once, with how many have it (own).
use Rattle.std.specs.Prelude.{◌≡◌, ℕ, ◌-◌, nat_lt, List, ◌∷◌, get_or, map, All, Option, None, Some, Bool, IsSome, slice_set, if◌then◌else◌}
use Rattle.std.specs.List.{slice_get}
use Rattle.std.specs.Map.{keys_of, lookup}
use Rattle.fits_passing.specs.ExtensionName.{is_same_name}
use Rattle.fits_hdu.specs.State.{name_of, HduState}
use Rattle.fits_passing.specs.declared.called.ExtensionName.{ExtensionName}
use Rattle.fits_passing.specs.NameCounts.{IsTableOf, PointsAt}

-- what HDUs are called
abbrev pub names_of : List HduState → List (Option ExtensionName)
names_of hdus = map name_of hdus

-- the name at a place is one of those that a table tells of
pub record TellsAt (place : ℕ) (entries : List (ExtensionName × ℕ)) : Type 0 where
  pub name : ExtensionName
  pub names : List (Option ExtensionName)
  pub there : slice_get (keys_of entries) place ≡ Some name
  pub table : IsTableOf (Some name ∷ names) entries

-- where a name stands that stood at a place, once the name at another is gone
abbrev pub moved : ℕ → ℕ → ℕ
moved gone at = if nat_lt gone at then at - 1 else at

-- the same of an HDU's entry
abbrev pub entry_moved : ℕ → Option ℕ → Option ℕ
entry_moved gone None = None
entry_moved gone (Some at) = Some (moved gone at)

-- one HDU fewer has the name that stood at a place
abbrev pub TellsOfOneFewer : ℕ → (old new : List (ExtensionName × ℕ)) → Type 0
TellsOfOneFewer place old new = (name : ExtensionName) (names : List (Option ExtensionName)) → slice_get (keys_of old) place ≡ Some name → IsTableOf (Some name ∷ names) old → IsTableOf names new

-- each name that is left stands where it stood, or, where the one at a place went, a place nearer behind it
abbrev pub OthersMove : ℕ → (went : Bool) → (old new : List (ExtensionName × ℕ)) → Type 0
OthersMove place went old new =
    (at : ℕ) (other : ExtensionName) → slice_get (keys_of old) at ≡ Some other → IsSome (lookup (is_same_name other) new) → slice_get (keys_of new) (if went then moved place at else at) ≡ Some other

-- an HDU with its entry mended
abbrev pub mended : ℕ → HduState → HduState
mended gone hdu = record hdu { entry = entry_moved gone hdu.entry }

-- the entry of each HDU is the place of its name
abbrev pub ArePlaced : List ExtensionName → List HduState → Type 0
ArePlaced keys hdus = All (λ (hdu : HduState). PointsAt keys (name_of hdu) hdu.entry) hdus

-- a table stands for these HDUs: it tells of their names, and the entry of each is the place of its name
pub record Stands (hdus : List HduState) (entries : List (ExtensionName × ℕ)) : Type 0 where
  pub table : IsTableOf (names_of hdus) entries
  pub placed : ArePlaced (keys_of entries) hdus

-- beside what these HDUs are called a table tells of one name more, or of an HDU that isn't called anything; this is its entry, and
-- the entry of each HDU is the place of its name
pub record Leaves (hdus : List HduState) (entries : List (ExtensionName × ℕ)) (entry : Option ℕ) : Type 0 where
  pub name : Option ExtensionName
  pub points : PointsAt (keys_of entries) name entry
  pub table : IsTableOf (name ∷ names_of hdus) entries
  pub placed : ArePlaced (keys_of entries) hdus

-- a table stands for HDUs as they were before the one at an index changed, which has the entry of the name that it had
pub record Stood (hdus : List HduState) (i : ℕ) (entries : List (ExtensionName × ℕ)) : Type 0 where
  pub was : HduState
  pub stood : Stands (slice_set hdus i was) entries
  pub entry : (now : HduState) → now ≡ get_or hdus i now → now.entry ≡ was.entry
