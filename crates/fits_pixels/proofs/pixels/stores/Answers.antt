use Rattle.std.proofs.Common.{rules}
use Rattle.fits_pixels.proofs.pixels.stores.Goals as goal

pub returns-in-Some : goal.returns-in-Some
returns-in-Some c = let means = c.is_storable.ensures.means in search (rules, means)
