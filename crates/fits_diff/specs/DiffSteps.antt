-- How two files are compared as they pass by: private contracts alone name it (own).
use Rattle.std.specs.Prelude.{◌≡◌, ℕ, ◌+◌, ◌<◌, ◌≤◌, Bool, false, List, [], ◌∷◌, ◌++◌, length, All}
use Rattle.std.specs.Str.{bytes_eq}
use Rattle.fits_stream.specs.Intake.{IsSpent, Supply, Takes}
use Rattle.fits_stream.specs.Stream.{FailsOnce}
use Rattle.fits_passing.specs.Hdu.{HduParts, hdu_bytes, IsHdu}
use Rattle.fits_passing.specs.HduReading.{HduStops}
use Rattle.fits_passing.specs.Passing.{UnitStops}
use Rattle.fits_passing.specs.File.{begins_extension, IsFrontOf, joined_hdus}
use Rattle.fits_passing.specs.Reading.{file_fault_of, Walked, WalkStops}
use Rattle.fits_passing.specs.declared.limits.TheConstants.{FILE_LIMIT, HDU_LIMIT}
use Rattle.fits_passing.specs.declared.read_file_fault.ReadFileFault.{ReadFileFault}
use Rattle.fits_passing.specs.declared.read_file_fault.ReadFileFault.TheVariants.{Open, Failed}
use Rattle.fits_diff.specs.Differences.{TellsHdu, TellsHdus, alone_text, data_text}
use Rattle.fits_diff.specs.declared.diff_fault.DiffFault.{DiffFault}
use Rattle.fits_diff.specs.declared.diff_fault.DiffFault.TheVariants.{First, Second, Memory, WriteFailed}
use Rattle.fits_diff.specs.declared.pair_fault.PairFault.{PairFault}
use Rattle.fits_diff.specs.declared.pair_fault.PairFault.TheVariants as pair

-- the next bytes of two differ
abbrev pub Part : List ℕ → List ℕ → Type 0
Part [] ys = ⊥
Part (x ∷ xs) [] = ⊥
Part (x ∷ xs) (y ∷ ys) = x ≡ y → ⊥

-- the same bytes were taken of two, so many: as many as were wanted, or the next ones differ
pub record TakesSame (len count : ℕ) (a a' b b' : Supply) : Type 0 where
  pub bytes : List ℕ
  pub taken : Takes a a' bytes
  pub taken_other : Takes b b' bytes
  pub size : length bytes ≡ count
  pub within : count ≤ len
  pub stops : count < len → Part a'.ahead b'.ahead

-- data units of so many bytes were taken, and how they differ is told
pub record TakesUnits (h len other_len : ℕ) (a a' b b' : Supply) (text text' : List ℕ) : Type 0 where
  pub unit : List ℕ
  pub other : List ℕ
  pub taken : Takes a a' unit
  pub taken_other : Takes b b' other
  pub size : length unit ≡ len
  pub size_other : length other ≡ other_len
  pub told : text' ≡ text ++ data_text h unit other

-- why data units of so many bytes weren't taken
abbrev pub UnitsStop : ℕ → ℕ → Supply → Supply → Supply → Supply → PairFault → Type 0
UnitsStop len other_len a a' b b' (pair.First why) = UnitStops len a a' why
UnitsStop len other_len a a' b b' (pair.Second why) = UnitStops other_len b b' why
UnitsStop len other_len a a' b b' pair.Memory = Unit {0}

-- an HDU of each was taken, and how they differ is told
pub record TakesHdus (h : ℕ) (primary : Bool) (a a' b b' : Supply) (text text' : List ℕ) : Type 0 where
  pub hdu : HduParts
  pub other : HduParts
  pub whole : IsHdu primary hdu
  pub whole_other : IsHdu primary other
  pub taken : Takes a a' (hdu_bytes hdu)
  pub taken_other : Takes b b' (hdu_bytes other)
  pub one : List ℕ
  pub told : TellsHdu h hdu other one
  pub is : text' ≡ text ++ one

-- why they weren't
abbrev pub HdusStop : Bool → Supply → Supply → Supply → Supply → PairFault → Type 0
HdusStop primary a a' b b' (pair.First why) = HduStops primary a a' why
HdusStop primary a a' b b' (pair.Second why) = HduStops primary b b' why
HdusStop primary a a' b b' pair.Memory = Unit {0}

-- of an HDU it is kept itself
abbrev pub is_it : HduParts → HduParts → Type 0
is_it it hdu = it ≡ hdu

-- these lines tell what differs in as many HDUs of each, from this number on
abbrev pub TellsPairs : ℕ → List HduParts → List HduParts → List ℕ → Type 0
TellsPairs h [] [] text = text ≡ []
TellsPairs h [] (y ∷ ys) text = ⊥
TellsPairs h (x ∷ xs) [] text = ⊥
TellsPairs h (x ∷ xs) (y ∷ ys) text = (one : List ℕ) × (rest : List ℕ) × (text ≡ one ++ rest) × TellsHdu h x y one × TellsPairs (h + 1) xs ys rest

-- so many HDUs of each were walked over, and what differs is told
pub record WalkPairs (count : ℕ) (a a' b b' : Supply) (text : List ℕ) : Type 0 where
  pub hdus : List HduParts
  pub others : List HduParts
  pub walked : Walked is_it hdus a a'
  pub walked_other : Walked is_it others b b'
  pub size : length hdus ≡ count
  pub told : TellsPairs 1 hdus others text

-- a walk over one of two stopped
abbrev pub WalksStop : Supply → Supply → Supply → Supply → DiffFault → Type 0
WalksStop a a' b b' (First why) = WalkStops a a' why
WalksStop a a' b b' (Second why) = WalkStops b b' why
WalksStop a a' b b' Memory = Unit {0}
WalksStop a a' b b' WriteFailed = ⊥

-- why HDUs weren't compared, as a fault of the files
abbrev pub diff_fault_of : PairFault → ℕ → DiffFault
diff_fault_of (pair.First why) h = First (file_fault_of why h)
diff_fault_of (pair.Second why) h = Second (file_fault_of why h)
diff_fault_of pair.Memory h = Memory

-- a call of one of two failed
abbrev pub OneFails : Supply → Supply → Supply → Supply → DiffFault → Type 0
OneFails a a' b b' (First (Open why)) = ⊥
OneFails a a' b b' (First Failed) = FailsOnce a.source a'.source
OneFails a a' b b' (Second (Open why)) = ⊥
OneFails a a' b b' (Second Failed) = FailsOnce b.source b'.source
OneFails a a' b b' Memory = ⊥
OneFails a a' b b' WriteFailed = ⊥

-- after so many HDUs more were walked over, each with its line
pub record WalksOn (label : List ℕ) (count : ℕ) (a a' : Supply) (text text' : List ℕ) : Type 0 where
  pub more : List HduParts
  pub extensions : All (IsHdu false) more
  pub taken : Takes a a' (joined_hdus more)
  pub few : count + length more ≤ HDU_LIMIT
  pub none : begins_extension a.ahead ≡ false → more ≡ []
  pub told : text' ≡ text ++ alone_text label (count + 1) more

-- after so many HDUs the walk stopped, wherever it had begun
abbrev pub StopsOn : ℕ → Supply → Supply → ReadFileFault → Type 0
StopsOn count a a' why = (start : Supply) → (hdus : List HduParts) → Walked is_it hdus start a → length hdus ≡ count → length start.ahead + start.left ≤ FILE_LIMIT → WalkStops start a' why

-- all HDUs of each were walked over, and what differs is told
pub record WalkAll (a a' b b' : Supply) (text : List ℕ) : Type 0 where
  pub hdus : List HduParts
  pub others : List HduParts
  pub walked : Walked is_it hdus a a'
  pub walked_other : Walked is_it others b b'
  pub some : 0 < length hdus
  pub some_other : 0 < length others
  pub few : length hdus ≤ HDU_LIMIT
  pub few_other : length others ≤ HDU_LIMIT
  pub told : TellsHdus 1 hdus others text

-- nothing may follow what is ahead, if that is less than a block
abbrev pub IsSeen : Supply → Type 0
IsSeen now = length now.ahead < 2880 → IsSpent now

-- the bytes that are ahead, and these, which are none where nothing may follow
abbrev pub MayFollow : Supply → List ℕ → Type 0
MayFollow now rest = length now.ahead < 2880 → rest ≡ []

-- the same bytes were taken of what follows the last HDUs, and this tells whether all that does is the same
pub record TakesTails (a a' b b' : Supply) (same : Bool) : Type 0 where
  pub bytes : List ℕ
  pub taken : Takes a a' bytes
  pub taken_other : Takes b b' bytes
  pub seen : IsSeen a'
  pub seen_other : IsSeen b'
  pub still : length a.ahead < 2880 → (a' ≡ a) × (bytes ≡ [])
  pub still_other : length b.ahead < 2880 → (b' ≡ b) × (bytes ≡ [])
  pub alike : (rest rest' : List ℕ) → MayFollow a' rest → MayFollow b' rest' → bytes_eq (bytes ++ (a'.ahead ++ rest)) (bytes ++ (b'.ahead ++ rest')) ≡ same

-- all HDUs of one were walked over, and some of what follows them was taken: whatever comes then, they are a file with it
pub record PassesFile (hdus : List HduParts) (bytes : List ℕ) (a a' : Supply) : Type 0 where
  pub front : IsFrontOf (joined_hdus hdus) hdus []
  pub some : 0 < length hdus
  pub few : length hdus ≤ HDU_LIMIT
  pub taken : Takes a a' (joined_hdus hdus ++ bytes)
  pub seen : IsSeen a'
  pub ends : (rest : List ℕ) → MayFollow a' rest → begins_extension (bytes ++ (a'.ahead ++ rest)) ≡ false

-- so of two, of whose HDUs it is told what differs, and whether what follows them is the same
pub record PassesFiles (a a' b b' : Supply) (text : List ℕ) (same : Bool) : Type 0 where
  pub hdus : List HduParts
  pub others : List HduParts
  pub bytes : List ℕ
  pub passed : PassesFile hdus bytes a a'
  pub passed_other : PassesFile others bytes b b'
  pub told : TellsHdus 1 hdus others text
  pub alike : (rest rest' : List ℕ) → MayFollow a' rest → MayFollow b' rest' → bytes_eq (bytes ++ (a'.ahead ++ rest)) (bytes ++ (b'.ahead ++ rest')) ≡ same
