-- Bytes ahead of their taking, as an intake has them: private contracts alone name it (own).
use Rattle.std.specs.Prelude.{ℕ, List, Bool, true, false}
use Rattle.fits_stream.specs.declared.ahead.Ahead.{Ahead}
use Rattle.fits_stream.specs.declared.ahead.Ahead.TheVariants.{Read, Lent}

-- the bytes
abbrev pub ahead_bytes : Ahead → List ℕ
ahead_bytes (Read piece) = piece
ahead_bytes (Lent bytes) = bytes.now

-- are they all there are?
abbrev pub is_lent : Ahead → Bool
is_lent (Read piece) = false
is_lent (Lent bytes) = true
