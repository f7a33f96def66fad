-- What a card store is to its callers.
use Rattle.std.specs.Prelude.{◌≡◌, ℕ, ◌+◌, ◌≤◌}
use Rattle.fits_card.specs.Header.{Header}

-- a header, how many of its cards were read so far, and how many more it has reserved room for
pub record CardStore : Type 0 where
  pub header : Header
  pub reads : ℕ
  pub room : ℕ

-- so many cards were read at most, and nothing else changed
pub record ReadsUpTo (old new : CardStore) (count : ℕ) : Type 0 where
  pub header : new.header ≡ old.header
  pub room : new.room ≡ old.room
  pub least : old.reads ≤ new.reads
  pub most : new.reads ≤ old.reads + count
