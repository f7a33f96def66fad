-- How a file is read from a source, whatever is kept of its HDUs (own).
use Rattle.std.specs.Prelude.{◌≡◌, ℕ, ◌≤◌, Bool, true, false, List, [], ◌∷◌, nat_eq, codes}
use Rattle.std.specs.List.{starts_with}
use Rattle.fits_stream.specs.Intake.{Supply, Gives, GivesAll, Takes, Tells}
use Rattle.fits_stream.specs.Gave.{FindsAll, Gave, GaveAll, Overruns}
use Rattle.fits_stream.specs.Stream.{SourceState, FailsOnce, StaysQuiet}
use Rattle.fits_stream.specs.declared.reading.ReadFault.{ReadFault}
use Rattle.fits_stream.specs.declared.reading.ReadFault.TheVariants as read
use Rattle.fits_passing.specs.Findings.{AreFindings, AreFoundCards}
use Rattle.fits_passing.specs.Hdu.{HduParts}
use Rattle.fits_passing.specs.Stats.{AreStatsOf}
use Rattle.fits_passing.specs.HduReading.{IsOutlined}
use Rattle.fits_passing.specs.Sums.{AreSumsOf}
use Rattle.fits_passing.specs.declared.findings.Findings.{Findings}
use Rattle.fits_passing.specs.declared.found_cards.FoundCards.{FoundCards}
use Rattle.fits_passing.specs.declared.hdu_stats.HduStats.{HduStats}
use Rattle.fits_passing.specs.declared.hdu_sums.HduSums.{HduSums}
use Rattle.fits_passing.specs.declared.outline.Outline.{Outline}
use Rattle.fits_passing.specs.declared.read_hdu_fault.ReadHduFault.{ReadHduFault}
use Rattle.fits_passing.specs.declared.read_hdu_fault.ReadHduFault.TheVariants as hdu
use Rattle.fits_passing.specs.File.{FileParts, begins_extension, is_followed, joined_hdus, IsFileOf, IsFrontOf}
use Rattle.fits_passing.specs.Opening.{HasOpenFault, open_fault_of}
use Rattle.fits_passing.specs.declared.limits.TheConstants.{FILE_LIMIT}
use Rattle.fits_passing.specs.declared.open_fault.OpenFault.TheVariants.{TooLarge, Memory}
use Rattle.fits_passing.specs.declared.read_file_fault.ReadFileFault.{ReadFileFault}
use Rattle.fits_passing.specs.declared.read_file_fault.ReadFileFault.TheVariants.{Open, Failed}

-- a source's fault as the file's
abbrev pub of_read : ReadFault → ReadFileFault
of_read read.Memory = Open Memory
of_read read.Failed = Failed

-- the fault of HDU h as the file's
abbrev pub file_fault_of : ReadHduFault → ℕ → ReadFileFault
file_fault_of (hdu.Hdu fault) h = Open (open_fault_of fault h)
file_fault_of hdu.Failed h = Failed

-- the bytes that may be taken don't open, for this fault; or memory was refused; or a call failed
abbrev pub WalkStops : Supply → Supply → ReadFileFault → Type 0
WalkStops old new (Open Memory) = StaysQuiet old.source new.source
WalkStops old new (Open fault) = FindsAll old new (λ bytes. HasOpenFault bytes fault)
WalkStops old new Failed = FailsOnce old.source new.source

-- so are all the bytes that a source gave to its end, which are all that it had left, as far as it tells them
pub record GaveWhole (old new : SourceState) (fact : List ℕ → Type 0) : Type 0 where
  pub bytes : List ℕ
  pub told : Tells old bytes
  pub gave : Gave old new bytes
  pub is : fact bytes

-- all the bytes of a source don't open, for this fault; or memory was refused; or a call failed
abbrev pub ReadStops : SourceState → SourceState → ReadFileFault → Type 0
ReadStops old new (Open Memory) = StaysQuiet old new
ReadStops old new (Open fault) = Gives old (λ bytes. HasOpenFault bytes fault) × StaysQuiet old new
ReadStops old new Failed = FailsOnce old new

-- all the bytes of an intake and its source don't open, for this fault; or memory was refused; or a call failed
abbrev pub SupplyStops : Supply → SourceState → ReadFileFault → Type 0
SupplyStops old new (Open Memory) = StaysQuiet old.source new
SupplyStops old new (Open fault) = GivesAll old (λ bytes. HasOpenFault bytes fault) × StaysQuiet old.source new
SupplyStops old new Failed = FailsOnce old.source new

-- where its bytes are at fault, the fault is one of all that a source gave, and of all that may follow that
abbrev pub GaveFault : SourceState → SourceState → ReadFileFault → Type 0
GaveFault old new (Open Memory) = Unit {0}
GaveFault old new (Open fault) = GaveAll old new (λ bytes. HasOpenFault bytes fault)
GaveFault old new Failed = Unit {0}

-- no bytes are ahead, and as many may be taken as a file may have
pub record IsFresh (first : Supply) : Type 0 where
  pub none : first.ahead ≡ []
  pub room : FILE_LIMIT ≤ first.left

-- more came than may be taken; or a call failed
abbrev pub RestStops : Supply → SourceState → ReadFileFault → Type 0
RestStops old new (Open TooLarge) = Overruns old.left true old.source new
RestStops old new (Open fault) = ⊥
RestStops old new Failed = FailsOnce old.source new

-- the bytes are at fault, and not memory or a call
abbrev pub is_of_bytes : ReadFileFault → Bool
is_of_bytes (Open Memory) = false
is_of_bytes (Open fault) = true
is_of_bytes Failed = false

-- one by one, this is kept of these HDUs
abbrev pub KeepsEach : {K : Type 0} → (K → HduParts → Type 0) → List K → List HduParts → Type 0
KeepsEach keeps [] [] = Unit {0}
KeepsEach keeps [] (u ∷ us) = ⊥
KeepsEach keeps (k ∷ ks) [] = ⊥
KeepsEach keeps (k ∷ ks) (u ∷ us) = keeps k u × KeepsEach keeps ks us

-- HDUs were taken, of which this is kept
pub record Walked {K : Type 0} (keeps : K → HduParts → Type 0) (kept : List K) (old new : Supply) : Type 0 where
  pub hdus : List HduParts
  pub each : KeepsEach keeps kept hdus
  pub front : IsFrontOf (joined_hdus hdus) hdus []
  pub taken : Takes old new (joined_hdus hdus)

-- the bytes are a file, of whose HDUs this is kept
abbrev pub IsKeptOf : {K : Type 0} → (K → HduParts → Type 0) → List K → List ℕ → Type 0
IsKeptOf keeps kept bytes = (file : FileParts) × IsFileOf bytes file × KeepsEach keeps kept file.hdus

-- the same, and this tells whether bytes follow the last HDU
abbrev pub IsWalkOf : {K : Type 0} → (K → HduParts → Type 0) → List K → Bool → List ℕ → Type 0
IsWalkOf keeps kept followed bytes = (file : FileParts) × IsFileOf bytes file × KeepsEach keeps kept file.hdus × (followed ≡ is_followed file.tail)

-- the next HDU begins so: the primary one, or an extension
abbrev pub NextBegins : Bool → List ℕ → Type 0
NextBegins true first = starts_with nat_eq first (codes "SIMPLE  ") ≡ true
NextBegins false first = begins_extension first ≡ true

-- this is found of an HDU
abbrev pub is_found : Findings → HduParts → Type 0
is_found it hdu = AreFindings it.whole it.of_cards.items it.name hdu

-- the same with the cards of its header
abbrev pub is_found_with_cards : FoundCards → HduParts → Type 0
is_found_with_cards it hdu = AreFoundCards it.found.whole it.found.of_cards.items it.found.name it.cards.header.cards hdu

-- this is an HDU's outline
abbrev pub is_outline : Outline → HduParts → Type 0
is_outline it hdu = IsOutlined hdu it.card_count it.shape it.header_len it.data_len

-- these are the outlines of a file's HDUs
abbrev pub IsOutlineOf : List Outline → List ℕ → Type 0
IsOutlineOf outlines bytes = IsKeptOf is_outline outlines bytes

-- these are an HDU's sums
abbrev pub is_summed : HduSums → HduParts → Type 0
is_summed it hdu = AreSumsOf it.datasum it.verdicts hdu

-- these are the sums of a file's HDUs
abbrev pub AreSumsOfFile : List HduSums → List ℕ → Type 0
AreSumsOfFile sums bytes = IsKeptOf is_summed sums bytes

-- these are an HDU's statistics
abbrev pub are_stats : HduStats → HduParts → Type 0
are_stats it hdu = AreStatsOf it.stats hdu

-- these are the statistics of a file's HDUs
abbrev pub AreStatisticsOfFile : List HduStats → List ℕ → Type 0
AreStatisticsOfFile stats bytes = IsKeptOf are_stats stats bytes
