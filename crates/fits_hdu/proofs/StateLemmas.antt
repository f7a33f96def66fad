-- What reading cards leaves.
use Rattle.std.proofs.Common.{◌≡◌, ℕ, refl}
use Rattle.fits_hdu.specs.State.{HduState, ReadsUpTo, parts_of}

-- where cards were read, its parts stay
pub parts_read : (old new : HduState) (count : ℕ) → ReadsUpTo old new count → parts_of new ≡ parts_of old
parts_read old new count read = rw (read.header.header, read.plane) refl
