-- What a header under edits is to its callers.
use Rattle.std.specs.Prelude.{◌≡◌, ℕ, ◌+◌, ◌≤◌, Bool, List, Ok}
use Rattle.fits_card.specs.Header.{Header}
use Rattle.fits_rules.specs.Class.{is_primary}
use Rattle.fits_rules.specs.SameShape.{same_shape}
use Rattle.fits_rules.specs.Shape.{shape_of}
use Rattle.fits_rules.specs.declared.array_shape.Shape.{Shape}

-- a header, the shape that its cards describe, how many of them were read so far,
-- and how many more have reserved room
pub record HeaderState : Type 0 where
  pub header : Header
  pub shape : Shape
  pub reads : ℕ
  pub room : ℕ

-- so many cards were read at most, and nothing else changed
pub record ReadsUpTo (old new : HeaderState) (count : ℕ) : Type 0 where
  pub header : new.header ≡ old.header
  pub shape : new.shape ≡ old.shape
  pub room : new.room ≡ old.room
  pub least : old.reads ≤ new.reads
  pub most : new.reads ≤ old.reads + count

-- cards describe this shape, in an HDU of its class
unfoldable pub still_describes : Shape → List (List ℕ) → Bool
still_describes shape cards = same_shape (Ok shape) (shape_of (is_primary shape.class) cards)
