-- How a run of `diff` ends (own).
use Rattle.std.specs.Prelude.{◌≡◌, ◌==◌, ℕ, List, length, MatchOption, if◌then◌else◌}
use Rattle.fits_stream.specs.Stream.{SourceState, SinkState, Prints, PrintsFront, StaysQuiet}
use Rattle.fits_passing.specs.File.{FileParts}
use Rattle.fits_passing.specs.Reading.{GaveFault, ReadStops}
use Rattle.fits_tell.specs.Faults.{fault_of_file, status_of_fault}
use Rattle.fits_tell.specs.Telling.{Opens}
use Rattle.fits_tell.specs.declared.fault.Fault.{Fault}
use Rattle.fits_tell.specs.declared.fault.Fault.TheVariants as fault
use Rattle.fits_diff.specs.Differences.{TellsFiles}
use Rattle.fits_diff.specs.declared.diff_end.DiffEnd.{DiffEnd}
use Rattle.fits_diff.specs.declared.diff_fault.DiffFault.{DiffFault}
use Rattle.fits_diff.specs.declared.diff_fault.DiffFault.TheVariants.{First, Second, Memory, WriteFailed}

-- two sources gave files to their ends, and these lines tell what differs in them
pub record Compares (a a' b b' : SourceState) (text : List ℕ) : Type 0 where
  pub file : FileParts
  pub other : FileParts
  pub opened : Opens a a' file
  pub opened_other : Opens b b' other
  pub read : StaysQuiet a a'
  pub read_other : StaysQuiet b b'
  pub told : TellsFiles file other text

-- why they weren't compared: one isn't a file, or a read of it failed, or memory was refused
abbrev pub ComparingStops : SourceState → SourceState → SourceState → SourceState → DiffFault → Type 0
ComparingStops a a' b b' (First why) = ReadStops a a' why × GaveFault a a' why
ComparingStops a a' b b' (Second why) = ReadStops b b' why × GaveFault b b' why
ComparingStops a a' b b' Memory = Unit {0}
ComparingStops a a' b b' WriteFailed = ⊥

-- 0 where nothing differs, else 1
abbrev pub status_of_differences : List ℕ → ℕ
status_of_differences text = if length text == 0 then 0 else 1

-- what differs is printed and flushed
pub record DiffIsPrinted (a a' b b' : SourceState) (out out' : SinkState) (status : ℕ) : Type 0 where
  pub text : List ℕ
  pub compared : Compares a a' b b' text
  pub printed : Prints text out out'
  pub flushed : out'.unflushed ≡ 0
  pub status_is : status ≡ status_of_differences text

-- a write failed: a prefix of the lines stands
pub record DiffFails (a a' b b' : SourceState) (out out' : SinkState) : Type 0 where
  pub text : List ℕ
  pub compared : Compares a a' b b' text
  pub printed : PrintsFront text out out'

-- what stands before a fault that ends the run: where a file isn't had, nothing is printed
abbrev pub DiffStops : SourceState → SourceState → SourceState → SourceState → SinkState → SinkState → DiffFault → Type 0
DiffStops a a' b b' out out' (First why) = ReadStops a a' why × GaveFault a a' why × (out' ≡ out)
DiffStops a a' b b' out out' (Second why) = ReadStops b b' why × GaveFault b b' why × (out' ≡ out)
DiffStops a a' b b' out out' Memory = out' ≡ out
DiffStops a a' b b' out out' WriteFailed = DiffFails a a' b b' out out'

-- as standard error tells it
abbrev pub told_fault : DiffFault → Fault
told_fault (First why) = fault_of_file why
told_fault (Second why) = fault_of_file why
told_fault Memory = fault.Memory
told_fault WriteFailed = fault.WriteFailed

-- how the run ends: with its lines, or by a fault and the fault's status
abbrev pub DiffEndsAs : SourceState → SourceState → SourceState → SourceState → SinkState → SinkState → DiffEnd → Type 0
DiffEndsAs a a' b b' out out' end =
    MatchOption end.fault (DiffIsPrinted a a' b b' out out' end.status)
    (λ why. DiffStops a a' b b' out out' why × (end.status ≡ status_of_fault (told_fault why)))
