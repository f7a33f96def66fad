-- A run over a stored file, by what its reads gave.
use Rattle.std.proofs.Common.{◌≡◌, ℕ, List, [], ◌++◌, ap, subst, refl, sym}
use Rattle.std.proofs.lemmas.List.{append-nil}
use Rattle.fits_stream.specs.Gave.{GaveAll}
use Rattle.fits_stream.specs.Agree.{IsOf}
use Rattle.fits_stream.specs.Stored.{ReadLogState}
use Rattle.fits_stream.specs.Stream.{StaysQuiet}
use Rattle.fits_passing.specs.Met.{StoredStops}
use Rattle.fits_passing.specs.File.{FileParts, IsFileOf}
use Rattle.fits_passing.specs.Opening.{HasOpenFault}
use Rattle.fits_passing.specs.Reading.{GaveFault, ReadStops}
use Rattle.fits_passing.specs.declared.open_fault.OpenFault.{OpenFault}
use Rattle.fits_passing.specs.declared.open_fault.OpenFault.TheVariants.{NotFits, NoEnd, BadShape, ShortData, TooLarge, Memory}
use Rattle.fits_passing.specs.declared.read_file_fault.ReadFileFault.{ReadFileFault}
use Rattle.fits_passing.specs.declared.read_file_fault.ReadFileFault.TheVariants.{Open, Failed}
use Rattle.fits_cli.specs.Ends.{stored_file, GaveFile}

-- a file whose reads have failed as often as before
pub quiet_reads : (bytes : List ℕ) (old new : ReadLogState) → new.failures ≡ old.failures → StaysQuiet (stored_file bytes old) (stored_file bytes new)
quiet_reads bytes old new same = record { quiet = same; log = record { bytes = bytes; logs = tt } }

-- the file that was opened is each that the reads may be of
pub opened_of : (bytes : List ℕ) (old new : ReadLogState) (parts : FileParts) → IsFileOf bytes parts → GaveFile (stored_file bytes old) (stored_file bytes new) parts
opened_of bytes old new parts opens = record { told = opens.front.joined; gave = record { extra = []; logs = tt; over = tt }; is = subst (λ (t : List ℕ). IsFileOf t parts) opens.front.joined opens }

-- and so is one that isn't
pub stops_of : (bytes : List ℕ) (old new : ReadLogState) (why : ReadFileFault) → IsOf bytes new → StoredStops old new why → ReadStops (stored_file bytes old) (stored_file bytes new) why
stops_of bytes old new (Open NotFits) is stops = ((bytes, refl, stops.0 bytes is), quiet_reads bytes old new stops.1)
stops_of bytes old new (Open (NoEnd hdu)) is stops = ((bytes, refl, stops.0 bytes is), quiet_reads bytes old new stops.1)
stops_of bytes old new (Open (BadShape hdu place)) is stops = ((bytes, refl, stops.0 bytes is), quiet_reads bytes old new stops.1)
stops_of bytes old new (Open (ShortData hdu)) is stops = ((bytes, refl, stops.0 bytes is), quiet_reads bytes old new stops.1)
stops_of bytes old new (Open TooLarge) is stops = ((bytes, refl, stops.0 bytes is), quiet_reads bytes old new stops.1)
stops_of bytes old new (Open Memory) is stops = quiet_reads bytes old new stops
stops_of bytes old new Failed is stops = record { failed = stops; log = record { bytes = bytes; logs = tt } }

-- a fault of these bytes is one of all that a file of them gave
gave_stored : (bytes : List ℕ) (old new : ReadLogState) (fault : OpenFault) → HasOpenFault bytes fault → GaveAll (stored_file bytes old) (stored_file bytes new) (λ xs. HasOpenFault xs fault)
gave_stored bytes old new fault fails = record {
  bytes = bytes;
  extra = [];
  logs = tt;
  all = λ s over. subst (λ (xs : List ℕ). HasOpenFault xs fault) (ap (λ t. bytes ++ t) (sym (over tt))) (subst (λ (xs : List ℕ). HasOpenFault xs fault) (sym (append-nil bytes)) fails);
}

-- the same of any that it isn't opened for
pub gave_of : (bytes : List ℕ) (old new : ReadLogState) (why : ReadFileFault) → IsOf bytes new → StoredStops old new why → GaveFault (stored_file bytes old) (stored_file bytes new) why
gave_of bytes old new (Open NotFits) is stops = gave_stored bytes old new NotFits (stops.0 bytes is)
gave_of bytes old new (Open (NoEnd hdu)) is stops = gave_stored bytes old new (NoEnd hdu) (stops.0 bytes is)
gave_of bytes old new (Open (BadShape hdu place)) is stops = gave_stored bytes old new (BadShape hdu place) (stops.0 bytes is)
gave_of bytes old new (Open (ShortData hdu)) is stops = gave_stored bytes old new (ShortData hdu) (stops.0 bytes is)
gave_of bytes old new (Open TooLarge) is stops = gave_stored bytes old new TooLarge (stops.0 bytes is)
gave_of bytes old new (Open Memory) is stops = tt
gave_of bytes old new Failed is stops = tt
