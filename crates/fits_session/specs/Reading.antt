-- A file that is read whole, whatever is kept of its HDUs (own).
use Rattle.std.specs.Prelude.{◌≡◌, ℕ, List, [], length}
use Rattle.fits_stream.specs.Intake.{Supply, TellsAll}
use Rattle.fits_stream.specs.Gave.{Gave}
use Rattle.fits_stream.specs.Stream.{SourceState}
use Rattle.fits_passing.specs.Hdu.{HduParts}
use Rattle.fits_passing.specs.File.{file_bytes, IsFile}
use Rattle.fits_passing.specs.Reading.{KeepsEach}

-- HDUs, of which this is kept, and this tail were taken, and are all that might be: they are a file of so many bytes
pub record IsReadWhole {K : Type 0} (keeps : K → HduParts → Type 0) (kept : List K) (bytes : ℕ) (tail : List ℕ) (old : Supply) (new : SourceState) : Type 0 where
  pub hdus : List HduParts
  pub each : KeepsEach keeps kept hdus
  pub whole : IsFile (record { hdus = hdus; tail = tail })
  pub len : bytes ≡ length (file_bytes (record { hdus = hdus; tail = tail }))
  pub told : TellsAll old (file_bytes (record { hdus = hdus; tail = tail }))
  pub came : old.ahead ≡ [] → Gave old.source new (file_bytes (record { hdus = hdus; tail = tail }))
