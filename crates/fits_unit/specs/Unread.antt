-- A data unit of which no byte was looked at (own).
use Rattle.std.specs.Prelude.{◌≡◌, ℕ, List, length}
use Rattle.fits_pixels.specs.Layout.{IsLayout}
use Rattle.fits_pixels.specs.declared.layout.Layout.{Layout}

-- the bytes of a data unit and how they are read; of one that wasn't looked at the bytes are zeros
pub record UnreadState : Type 0 where
  pub bytes : List ℕ
  pub layout : Layout

-- so many bytes are read so, whatever they are
abbrev pub LaysOut : Layout → ℕ → Type 0
LaysOut layout len = (unit : List ℕ) → length unit ≡ len → IsLayout layout unit
