-- What an index of a header's keywords is to its callers.
use Rattle.std.specs.Prelude.{ℕ, List}
use Rattle.fits_header.specs.declared.entry.Entry.{Entry}

-- the entries of the cards that it indexes, and how many more it has reserved room for
pub record KeyStore : Type 0 where
  pub entries : List Entry
  pub room : ℕ
