-- Laws of what differs.
use Rattle.std.specs.Prelude.{◌≡◌, ◌↔◌, ℕ, List, []}
use Rattle.fits_passing.specs.File.{FileParts, IsFile}
use Rattle.fits_diff.specs.Differences.{TellsFiles}

-- no line tells what differs in two files exactly where they are one
abbrev pub NothingIsToldOfOneFile : Type 0
NothingIsToldOfOneFile = (x y : FileParts) → (text : List ℕ) → IsFile x → IsFile y → TellsFiles x y text → (text ≡ []) ↔ (x ≡ y)
