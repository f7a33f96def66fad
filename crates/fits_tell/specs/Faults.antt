-- Faults: their status, and which one stands for a failed call (own).
use Rattle.std.specs.Prelude.{◌≡◌, ℕ, List}
use Rattle.fits_passing.specs.declared.open_fault.OpenFault.{OpenFault}
use Rattle.fits_passing.specs.declared.open_fault.OpenFault.TheVariants.{NotFits, NoEnd, BadShape, ShortData, TooLarge, Memory as OpenMemory}
use Rattle.fits_passing.specs.declared.read_file_fault.ReadFileFault.{ReadFileFault}
use Rattle.fits_passing.specs.declared.read_file_fault.ReadFileFault.TheVariants as read_file
use Rattle.fits_stream.specs.declared.reading.ReadFault.{ReadFault}
use Rattle.fits_stream.specs.declared.reading.ReadFault.TheVariants as read_fault
use Rattle.fits_stream.specs.Stream.{SinkState, PrintsFront, FailsToFlush}
use Rattle.fits_tell.specs.declared.fault.Fault.{Fault}
use Rattle.fits_tell.specs.declared.fault.Fault.TheVariants.{Refused, ScriptTooLong, Memory, ReadFailed, WriteFailed, Reread as RereadFault}
use Rattle.fits_tell.specs.declared.reread.Reread.{Reread}
use Rattle.fits_tell.specs.declared.reread.Reread.TheVariants as again
use Rattle.fits_unit.specs.declared.again.LoadFault.{LoadFault}
use Rattle.fits_unit.specs.declared.again.LoadFault.TheVariants as load
use Rattle.fits_unit.specs.declared.again.CopyFault.{CopyFault}
use Rattle.fits_unit.specs.declared.again.CopyFault.TheVariants as copy

-- the status that goes with a fault
abbrev pub status_of_fault : Fault → ℕ
status_of_fault (Refused why) = 2
status_of_fault ScriptTooLong = 2
status_of_fault Memory = 3
status_of_fault ReadFailed = 3
status_of_fault WriteFailed = 3
status_of_fault (RereadFault why) = 3

-- why data that had passed by weren't had again
abbrev pub reread_of : LoadFault → Reread
reread_of load.Memory = again.Memory
reread_of load.Failed = again.Failed
reread_of load.Changed = again.Changed

-- what ends a run that wants them
abbrev pub fault_of_load : LoadFault → Fault
fault_of_load why = RereadFault (reread_of why)

-- what ends a run that copies them
abbrev pub fault_of_copy : CopyFault → Fault
fault_of_copy copy.Failed = RereadFault again.Failed
fault_of_copy copy.Changed = RereadFault again.Changed
fault_of_copy copy.Write = WriteFailed

-- what ends a run whose file doesn't open
abbrev pub fault_of_open : OpenFault → Fault
fault_of_open NotFits = Refused NotFits
fault_of_open (NoEnd hdu) = Refused (NoEnd hdu)
fault_of_open (BadShape hdu place) = Refused (BadShape hdu place)
fault_of_open (ShortData hdu) = Refused (ShortData hdu)
fault_of_open TooLarge = Refused TooLarge
fault_of_open OpenMemory = Memory

-- what ends a run whose file isn't read
abbrev pub fault_of_file : ReadFileFault → Fault
fault_of_file (read_file.Open why) = fault_of_open why
fault_of_file read_file.Failed = ReadFailed

-- what ends a run whose script can't be read
abbrev pub fault_of_read : ReadFault → Fault
fault_of_read read_fault.Memory = Memory
fault_of_read read_fault.Failed = ReadFailed

-- a text isn't written whole
abbrev pub PrintFails : List ℕ → SinkState → SinkState → Fault → Type 0
PrintFails text old new fault = (fault ≡ WriteFailed) × PrintsFront text old new

-- what was written isn't passed on
abbrev pub FlushFails : SinkState → SinkState → Fault → Type 0
FlushFails old new fault = (fault ≡ WriteFailed) × FailsToFlush old new
