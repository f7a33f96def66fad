-- How a run of `diff -s` ends (own).
use Rattle.std.specs.Prelude.{◌≡◌, ℕ, List, length, Option, Some, None, Err, MatchOption}
use Rattle.fits_stream.specs.Stream.{SourceState, SinkState, FailsOnce, Prints, PrintsFront, StaysQuiet}
use Rattle.fits_passing.specs.File.{FileParts}
use Rattle.fits_passing.specs.Headers.{cards_of, ShowsHeaders}
use Rattle.fits_passing.specs.declared.read_file_fault.ReadFileFault.{ReadFileFault}
use Rattle.fits_passing.specs.declared.read_file_fault.ReadFileFault.TheVariants.{Open, Failed}
use Rattle.fits_making.specs.declared.refusal.Refusal.{Refusal}
use Rattle.fits_tell.specs.Faults.{fault_of_file, status_of_fault}
use Rattle.fits_diff.specs.Diff.{status_of_differences}
use Rattle.fits_patch.specs.Making.{script_made, MakesCards}
use Rattle.fits_patch.specs.Patch.{PatchesHdus}
use Rattle.fits_patch.specs.declared.patch_end.PatchEnd.{PatchEnd}
use Rattle.fits_patch.specs.declared.patch_fault.PatchFault.{PatchFault}
use Rattle.fits_patch.specs.declared.patch_fault.PatchFault.TheVariants.{Second, OtherCount, Unmade, Unlike, Memory, WriteFailed}

-- the second file was read, and these are the cards of its headers
pub record ReadsCards (b b' : SourceState) (cards : List (List (List ℕ))) : Type 0 where
  pub shown : ShowsHeaders b b' cards None
  pub read : StaysQuiet b b'

-- these lines are to make the cards of a file those of the second
pub record IsDrawn (file : FileParts) (b b' : SourceState) (cards : List (List (List ℕ))) (text : List ℕ) : Type 0 where
  pub read : ReadsCards b b' cards
  pub lines : PatchesHdus 1 (cards_of file.hdus) cards text

-- and they do: run over the file they are accepted whole, and the cards are the second's then
pub record IsPatch (file : FileParts) (b b' : SourceState) (text : List ℕ) : Type 0 where
  pub cards : List (List (List ℕ))
  pub drawn : IsDrawn file b b' cards text
  pub makes : MakesCards file text cards

-- the script is printed and flushed: 0 where no line is wanted, else 1
pub record PatchIsPrinted (file : FileParts) (b b' : SourceState) (out out' : SinkState) (status : ℕ) : Type 0 where
  pub text : List ℕ
  pub is : IsPatch file b b' text
  pub printed : Prints text out out'
  pub flushed : out'.unflushed ≡ 0
  pub status_is : status ≡ status_of_differences text

-- a write failed: a prefix of it stands
pub record PatchFails (file : FileParts) (b b' : SourceState) (out out' : SinkState) : Type 0 where
  pub text : List ℕ
  pub is : IsPatch file b b' text
  pub printed : PrintsFront text out out'

-- the second file doesn't open, or a read of it failed
abbrev pub SecondStops : SourceState → SourceState → ReadFileFault → Type 0
SecondStops b b' (Open why) = (cards : List (List (List ℕ))) × ShowsHeaders b b' cards (Some why)
SecondStops b b' Failed = FailsOnce b b'

-- it has another number of HDUs
pub record HasOtherCount (file : FileParts) (b b' : SourceState) : Type 0 where
  pub cards : List (List (List ℕ))
  pub read : ReadsCards b b' cards
  pub other : length cards ≡ length file.hdus → ⊥

-- this line of the script is the first that isn't accepted: for this refusal, where it says an edit
pub record IsUnmade (file : FileParts) (b b' : SourceState) (line : List ℕ) (why : Option Refusal) : Type 0 where
  pub cards : List (List (List ℕ))
  pub text : List ℕ
  pub drawn : IsDrawn file b b' cards text
  pub stops : script_made file text ≡ Err (line, why)

-- the script doesn't make the cards
pub record IsUnlike (file : FileParts) (b b' : SourceState) : Type 0 where
  pub cards : List (List (List ℕ))
  pub text : List ℕ
  pub drawn : IsDrawn file b b' cards text
  pub unlike : MakesCards file text cards → ⊥

-- why there is no script
abbrev pub PatchLacks : FileParts → SourceState → SourceState → PatchFault → Type 0
PatchLacks file b b' (Second why) = SecondStops b b' why
PatchLacks file b b' OtherCount = HasOtherCount file b b'
PatchLacks file b b' (Unmade line why) = IsUnmade file b b' line.items why
PatchLacks file b b' Unlike = IsUnlike file b b'
PatchLacks file b b' Memory = Unit {0}
PatchLacks file b b' WriteFailed = ⊥

-- what stands before a fault that ends the run: where there is no script, nothing is printed
abbrev pub PatchStops : FileParts → SourceState → SourceState → SinkState → SinkState → PatchFault → Type 0
PatchStops file b b' out out' WriteFailed = PatchFails file b b' out out'
PatchStops file b b' out out' why = PatchLacks file b b' why × (out' ≡ out)

-- 2 where there is no script, else that of the fault
abbrev pub status_of_patch : PatchFault → ℕ
status_of_patch (Second why) = status_of_fault (fault_of_file why)
status_of_patch OtherCount = 2
status_of_patch (Unmade line why) = 2
status_of_patch Unlike = 2
status_of_patch Memory = 3
status_of_patch WriteFailed = 3

-- how the run ends over a file that was opened: with its script, or by a fault and the fault's status
abbrev pub PatchEndsAs : FileParts → SourceState → SourceState → SinkState → SinkState → PatchEnd → Type 0
PatchEndsAs file b b' out out' end =
    MatchOption end.fault (PatchIsPrinted file b b' out out' end.status)
    (λ why. PatchStops file b b' out out' why × (end.status ≡ status_of_patch why))
