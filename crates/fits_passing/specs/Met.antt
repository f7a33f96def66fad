-- HDUs of a stored file as they are met: their headers are read, their data units pass by or stay unread (own).
use Rattle.std.specs.Prelude.{◌≡◌, ◌<◌, ◌≤◌, ℕ, ◌+◌, nat_lt, Bool, true, false, List, [], ◌∷◌, ◌++◌, length, take, drop, All, Option, Some, Ok}
use Rattle.fits_card.specs.Header.{header_bytes, IsHeader}
use Rattle.fits_stream.specs.Agree.{IsOf}
use Rattle.fits_stream.specs.Intake.{IntakeState, Supply, Takes}
use Rattle.fits_stream.specs.Log.{unskipped}
use Rattle.fits_stream.specs.Stored.{bytes_from, Lent, ReadLogState}
use Rattle.fits_stream.specs.Stream.{SourceState}
use Rattle.fits_stream.specs.declared.reading.TheConstants.{PIECE_LEN}
use Rattle.fits_header.specs.State.{HeaderState}
use Rattle.fits_rules.specs.Class.{is_primary}
use Rattle.fits_rules.specs.Shape.{shape_of}
use Rattle.fits_rules.specs.Size.{data_length}
use Rattle.fits_unit.specs.DataUnit.{away_plane, is_passed, passed_blank}
use Rattle.fits_unit.specs.declared.away_unit.AwayUnit.{AwayUnit}
use Rattle.fits_unit.specs.declared.away_unit.AwayUnit.TheVariants.{Passed, Unread}
use Rattle.fits_passing.specs.File.{IsFrontOf}
use Rattle.fits_passing.specs.Hdu.{HduParts, HasHduFault, IsHduOf}
use Rattle.fits_passing.specs.Layout.{layout_of}
use Rattle.fits_passing.specs.Opening.{HasOpenFault}
use Rattle.fits_passing.specs.Work.{apply_reads, open_reads}
use Rattle.fits_passing.specs.declared.hdu_fault.HduFault.TheVariants as hdu_fault
use Rattle.fits_passing.specs.declared.limits.TheConstants.{FILE_LIMIT}
use Rattle.fits_passing.specs.declared.look.Look.{Look}
use Rattle.fits_passing.specs.declared.look.Look.TheVariants as look
use Rattle.fits_passing.specs.declared.open_fault.OpenFault.TheVariants.{Memory}
use Rattle.fits_passing.specs.declared.passed_hdu.PassedHdu.{PassedHdu}
use Rattle.fits_passing.specs.declared.read_file_fault.ReadFileFault.{ReadFileFault}
use Rattle.fits_passing.specs.declared.read_file_fault.ReadFileFault.TheVariants.{Open, Failed}
use Rattle.fits_passing.specs.declared.read_hdu_fault.ReadHduFault.{ReadHduFault}
use Rattle.fits_passing.specs.declared.read_hdu_fault.ReadHduFault.TheVariants.{Hdu, Failed as HduFailed}

-- does a data unit of so many bytes stay unread?
abbrev pub stays_unread : Look → ℕ → Bool
stays_unread look.All len = false
stays_unread look.Headers len = nat_lt PIECE_LEN len

-- the bytes of a data unit that passed by; none of one that is unread
abbrev pub passed_bytes : AwayUnit → List ℕ
passed_bytes (Passed it) = it.bytes
passed_bytes (Unread it) = []

-- a header is kept, with what is kept beside its cards, and what is known of its data unit, which is read as they say
pub record IsMet (header : HeaderState) (unit : AwayUnit) : Type 0 where
  pub described : shape_of (is_primary header.shape.class) header.header.cards ≡ Ok header.shape
  pub size : length (away_plane unit).bytes ≡ data_length header.shape
  pub layout : (away_plane unit).layout ≡ layout_of header.shape header.header.cards
  pub blank : is_passed unit ≡ true → passed_blank unit ≡ (away_plane unit).layout.blank
  pub reads : header.reads + apply_reads ≤ open_reads header.header.cards + 1

-- an HDU was met: its header was taken, and its data unit, where it passed by
pub record MeetsHdu (header : HeaderState) (unit : AwayUnit) (primary : Bool) (old new : Supply) : Type 0 where
  pub met : IsMet header unit
  pub whole : IsHeader header.header
  pub described : shape_of primary header.header.cards ≡ Ok header.shape
  pub taken : Takes old new (header_bytes header.header ++ passed_bytes unit)

-- the same of each of these
abbrev pub AreMet : List PassedHdu → Type 0
AreMet hdus = All (λ (it : PassedHdu). IsMet it.header it.unit) hdus

-- the parts of one, as they are known
abbrev pub parts_met : PassedHdu → HduParts
parts_met it = record { header = it.header.header; data_unit = (away_plane it.unit).bytes }

-- where the data unit of an HDU begins that begins at a place, and where it ends
abbrev pub unit_place : ℕ → PassedHdu → ℕ
unit_place start it = start + length (header_bytes it.header.header)

abbrev pub hdu_end : ℕ → PassedHdu → ℕ
hdu_end start it = unit_place start it + length (away_plane it.unit).bytes

-- the parts of an HDU that begins at a place of a file of these bytes
abbrev pub parts_there : List ℕ → ℕ → PassedHdu → HduParts
parts_there told start it = record { header = it.header.header; data_unit = take (length (away_plane it.unit).bytes) (drop (unit_place start it) told) }

-- the same of HDUs that follow one another from a place on, and where they end
abbrev pub all_there : List ℕ → ℕ → List PassedHdu → List HduParts
all_there told start [] = []
all_there told start (it ∷ hdus) = parts_there told start it ∷ all_there told (hdu_end start it) hdus

abbrev pub hdus_end : ℕ → List PassedHdu → ℕ
hdus_end start [] = start
hdus_end start (it ∷ hdus) = hdus_end (hdu_end start it) hdus

-- the data unit of an HDU that begins there lies in the file: it is as long, and what passed by is the same
pub record LiesThere (told : List ℕ) (start : ℕ) (it : PassedHdu) : Type 0 where
  pub there : hdu_end start it ≤ length told
  pub same : is_passed it.unit ≡ true → take (length (away_plane it.unit).bytes) (drop (unit_place start it) told) ≡ (away_plane it.unit).bytes

abbrev pub AllLieThere : List ℕ → ℕ → List PassedHdu → Type 0
AllLieThere told start [] = Unit {0}
AllLieThere told start (it ∷ hdus) = LiesThere told start it × AllLieThere told (hdu_end start it) hdus

-- the reads of a stored file that is lent
abbrev pub reads_of : {F : Type 0} → Lent F → ReadLogState
reads_of source = record { came = source.log.came; ends = source.log.ends; failures = source.failures; looked = 0 }

-- what such a file is as a source, of which these are the bytes, where it tells them
abbrev pub state_by : {F : Type 0} → Option (List ℕ) → Lent F → SourceState
state_by bytes source = record { remaining = bytes_from source.log.at bytes; log = Some (unskipped source.log); failures = source.failures }

-- of a file of these bytes those from a place on are the ones ahead and those that come next
pub record StandsAt {F : Type 0} (told : List ℕ) (place : ℕ) (intake : IntakeState) (source : Lent F) : Type 0 where
  pub ahead : drop place told ≡ intake.ahead ++ drop source.log.at told
  pub room : length told ≤ source.log.at + intake.left

-- in whatever file the reads are of, no more bytes are than a file may have
abbrev pub IsLimitedBy : ReadLogState → Type 0
IsLimitedBy log = (told : List ℕ) → IsOf told log → length told ≤ FILE_LIMIT

-- an HDU was met that begins at a place of it, and what follows it comes next
pub record IsThere {F : Type 0} (told : List ℕ) (primary : Bool) (place : ℕ) (it : PassedHdu) (intake : IntakeState) (source : Lent F) : Type 0 where
  pub hdu : IsHduOf primary (drop place told) (parts_there told place it) (drop (hdu_end place it) told)
  pub lies : LiesThere told place it
  pub stands : StandsAt told (hdu_end place it) intake source

-- why none was: memory was refused, a call failed, or there is none in whatever file the reads are of
abbrev pub NextStops : {F : Type 0} → Bool → ℕ → IntakeState → Lent F → Lent F → ReadHduFault → Type 0
NextStops primary place intake old new (Hdu hdu_fault.Memory) = new.failures ≡ old.failures
NextStops primary place intake old new (Hdu fault) =
    ((told : List ℕ) → IsOf told (reads_of new) → StandsAt told place intake old → HasHduFault primary (drop place told) fault) × (new.failures ≡ old.failures)
NextStops primary place intake old new HduFailed = new.failures ≡ old.failures + 1

-- why a place wasn't passed over to: memory was refused, a call failed, or it lies past the end of whatever file the reads are of
abbrev pub OverStops : {F : Type 0} → ℕ → Lent F → Lent F → ReadHduFault → Type 0
OverStops end old new (Hdu hdu_fault.Memory) = new.failures ≡ old.failures
OverStops end old new (Hdu hdu_fault.ShortData) = ((told : List ℕ) → IsOf told (reads_of new) → length told < end) × (new.failures ≡ old.failures)
OverStops end old new HduFailed = new.failures ≡ old.failures + 1
OverStops end old new why = ⊥

-- these HDUs begin it, and lie in it; the bytes after them are the ones ahead and those that come next
pub record Begins {F : Type 0} (told : List ℕ) (hdus : List PassedHdu) (intake : IntakeState) (source : Lent F) : Type 0 where
  pub front : IsFrontOf told (all_there told 0 hdus) (drop (hdus_end 0 hdus) told)
  pub lie : AllLieThere told 0 hdus
  pub stands : StandsAt told (hdus_end 0 hdus) intake source

-- whatever file the reads are of, they do
abbrev pub BeginEach : {F : Type 0} → List PassedHdu → IntakeState → Lent F → Type 0
BeginEach hdus intake source = (told : List ℕ) → IsOf told (reads_of source) → Begins told hdus intake source

-- data units of which none is unread
abbrev pub AllPassed : List PassedHdu → Type 0
AllPassed hdus = All (λ (it : PassedHdu). is_passed it.unit ≡ true) hdus

-- why a stored file isn't opened: its reads before and after
abbrev pub StoredStops : ReadLogState → ReadLogState → ReadFileFault → Type 0
StoredStops old new (Open Memory) = new.failures ≡ old.failures
StoredStops old new (Open fault) = ((told : List ℕ) → IsOf told new → HasOpenFault told fault) × (new.failures ≡ old.failures)
StoredStops old new Failed = new.failures ≡ old.failures + 1
