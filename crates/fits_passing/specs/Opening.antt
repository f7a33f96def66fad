-- Which files open, and why others don't (own; FITS Standard 4.0, sections 3.1 and 4.4.1).
use Rattle.std.specs.Prelude.{◌≡◌, ◌⊎◌, ℕ, ◌+◌, ◌<◌, ◌≤◌, true, IsTrue, List, length, codes, nat_eq}
use Rattle.std.specs.List.{starts_with}
use Rattle.fits_passing.specs.Hdu.{HduParts, HasHduFault}
use Rattle.fits_passing.specs.declared.hdu_fault.HduFault.{HduFault}
use Rattle.fits_passing.specs.declared.hdu_fault.HduFault.TheVariants as hdu_fault
use Rattle.fits_passing.specs.declared.limits.TheConstants.{FILE_LIMIT, HDU_LIMIT}
use Rattle.fits_passing.specs.File.{IsFrontOf, goes_on, is_first, begins_extension}
use Rattle.fits_passing.specs.declared.open_fault.OpenFault.{OpenFault}
use Rattle.fits_passing.specs.declared.open_fault.OpenFault.TheVariants.{NotFits, NoEnd, BadShape, ShortData, TooLarge, Memory}

-- the bytes begin as a FITS file does (4.4.1.1)
abbrev pub BeginsAsFits : List ℕ → Type 0
BeginsAsFits bytes = IsTrue (starts_with nat_eq bytes (codes "SIMPLE  "))

-- HDU h, from 1, is the first that can't be read, for this fault
pub record StopsAt (bytes : List ℕ) (h : ℕ) (fault : HduFault) : Type 0 where
  pub before : List HduParts
  pub rest : List ℕ
  pub front : IsFrontOf bytes before rest
  pub more : goes_on before rest ≡ true
  pub few : length before < HDU_LIMIT
  pub here : HasHduFault (is_first before) rest fault
  pub at : h ≡ length before + 1

-- the file isn't too long, begins as one, and HDU h is the first that can't be read
pub record FailsAt (bytes : List ℕ) (h : ℕ) (fault : HduFault) : Type 0 where
  pub size : length bytes ≤ FILE_LIMIT
  pub begins : BeginsAsFits bytes
  pub stops : StopsAt bytes h fault

-- an extension begins after as many HDUs as a file may have
pub record HasTooManyHdus (bytes : List ℕ) : Type 0 where
  pub before : List HduParts
  pub rest : List ℕ
  pub front : IsFrontOf bytes before rest
  pub all : length before ≡ HDU_LIMIT
  pub more : begins_extension rest ≡ true

-- why the bytes don't open: their length before all else, then their first bytes, then HDU after HDU
abbrev pub HasOpenFault : List ℕ → OpenFault → Type 0
HasOpenFault bytes NotFits = (length bytes ≤ FILE_LIMIT) × (BeginsAsFits bytes → ⊥)
HasOpenFault bytes (NoEnd h) = FailsAt bytes h hdu_fault.NoEnd
HasOpenFault bytes (BadShape h place) = FailsAt bytes h (hdu_fault.BadShape place)
HasOpenFault bytes (ShortData h) = FailsAt bytes h hdu_fault.ShortData
HasOpenFault bytes TooLarge = (FILE_LIMIT < length bytes) ⊎ HasTooManyHdus bytes
HasOpenFault bytes Memory = ⊥

-- opening these bytes may end so: by their fault, or out of memory
abbrev pub OpenFails : List ℕ → OpenFault → Type 0
OpenFails bytes Memory = Unit {0}
OpenFails bytes fault = HasOpenFault bytes fault

-- the fault of HDU h as the file's
abbrev pub open_fault_of : HduFault → ℕ → OpenFault
open_fault_of hdu_fault.NoEnd h = NoEnd h
open_fault_of (hdu_fault.BadShape place) h = BadShape h place
open_fault_of hdu_fault.ShortData h = ShortData h
open_fault_of hdu_fault.Memory h = Memory
