-- Dimensions that a column has room for.
use Rattle.std.proofs.Common.{◌≡◌, ℕ, ◌≤◌, ◌<◌, false, leb, List, Option, None, Some, refl, ap, sym, ◌∙◌, arith, inl, inr}
use Rattle.std.specs.Prelude.{◌-◌, ◌^◌, min, is_some}
use Rattle.std.specs.Option.{option_map, option_map_or}
use Rattle.std.proofs.Math.Nat.{min-eq_left, min-eq_right}
use Rattle.std.proofs.lemmas.Bool.{cases_lt}
use Rattle.std.proofs.lemmas.Bool.Decides.{nat_tests}
use Rattle.fits_rules.specs.Size.{product}
use Rattle.fits_table.specs.Dimensions.{dimensions_of}
use Rattle.fits_table.specs.DimensionSteps.{limited, limited_volume}

-- a count below the limit is reached by a limited number where the number itself reaches it
limited_room : (number count limit : ℕ) → count < limit → leb (min number limit) count ≡ leb number count
limited_room number count limit small = elim (cases_lt limit number) [
  | inl large ↦
      let more : limit ≤ number = omega arith in
      let one : leb (min number limit) count ≡ leb limit count = ap (λ n. leb n count) (min-eq_right more) in
      let none : leb limit count ≡ false = grind (arith, nat_tests) in
      let also : leb number count ≡ false = grind (arith, nat_tests) in
      one ∙ (none ∙ sym also)
  | inr fits ↦ ap (λ n. leb n count) (min-eq_left fits)
]

-- the room for sizes
room_of : (sizes : Option (List ℕ)) (volume count : ℕ) → count < 2 ^ 64 → Some volume ≡ option_map (λ ns. limited (product ns)) sizes → leb volume count ≡ option_map_or (λ ns. leb (product ns) count) sizes false
room_of None volume count small e = absurd (let none : ◌≡◌ {A = Option ℕ} (Some volume) None = e in cc)
room_of (Some ns) volume count small e =
    let same : volume ≡ limited (product ns) = (let some : ◌≡◌ {A = Option ℕ} (Some volume) (Some (limited (product ns))) = e in cc) in
    ap (λ n. leb n count) same ∙ limited_room (product ns) count (2 ^ 128 - 1) (omega arith)

-- a volume that is read
pub volume_room : (text : List ℕ) (volume count : ℕ) → count < 2 ^ 64 → Some volume ≡ limited_volume text → leb volume count ≡ option_map_or (λ sizes. leb (product sizes) count) (dimensions_of text) false
unfolding limited_volume
volume_room text volume count small e = room_of (dimensions_of text) volume count small e

-- none that is
silent : (sizes : Option (List ℕ)) (count : ℕ) → None ≡ option_map (λ ns. limited (product ns)) sizes → false ≡ option_map_or (λ ns. leb (product ns) count) sizes false
silent None count e = refl
silent (Some ns) count e = absurd (let some : ◌≡◌ {A = Option ℕ} None (Some (limited (product ns))) = e in cc)

-- without a product that is known there is no room for it
pub no_room : (text : List ℕ) (count : ℕ) → None ≡ limited_volume text → false ≡ option_map_or (λ sizes. leb (product sizes) count) (dimensions_of text) false
unfolding limited_volume
no_room text count e = silent (dimensions_of text) count e

-- whether any is
some_mapped : (sizes : Option (List ℕ)) → is_some (option_map (λ ns. limited (product ns)) sizes) ≡ is_some sizes
some_mapped None = refl
some_mapped (Some ns) = refl

-- a text has a product exactly where it says dimensions
pub volume_some : (text : List ℕ) → is_some (limited_volume text) ≡ is_some (dimensions_of text)
unfolding limited_volume
volume_some text = some_mapped (dimensions_of text)

pub ruleset dimension_steps = (volume_room, no_room, volume_some)
