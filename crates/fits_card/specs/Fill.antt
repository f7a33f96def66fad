-- The fill of a header as it is kept (FITS Standard 4.0, section 3.3.1).
use Rattle.std.specs.Prelude.{ℕ, List, replicate}
use Rattle.fits_card.specs.declared.fill.Fill.{Fill}
use Rattle.fits_card.specs.declared.fill.Fill.TheVariants.{Spaces, Other}

-- the bytes of a fill
abbrev pub fill_bytes : Fill → List ℕ
fill_bytes (Spaces count) = replicate count 32
fill_bytes (Other bytes) = bytes.items
