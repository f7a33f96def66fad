-- What standard error is told of a fault of what a caller gave (own).
use Rattle.std.specs.Prelude.{ℕ, List, [], ◌++◌, codes, Option, Some, None}
use Rattle.std.specs.Fmt.{decimal}
use Rattle.fits_passing.specs.declared.open_fault.OpenFault.{OpenFault}
use Rattle.fits_passing.specs.declared.open_fault.OpenFault.TheVariants.{NotFits, NoEnd, BadShape, ShortData, TooLarge, Memory}
use Rattle.fits_tell.specs.declared.fault.Fault.{Fault}
use Rattle.fits_tell.specs.declared.fault.Fault.TheVariants.{Refused, ScriptTooLong}

-- why a file doesn't open, with its number
unfoldable pub opening_text : OpenFault → List ℕ
opening_text NotFits = codes "fitsed: open refused O1 NotFits"
opening_text (NoEnd h) = codes "fitsed: open refused O2 NoEnd hdu " ++ decimal h
opening_text (BadShape h place) = codes "fitsed: open refused O3 BadShape hdu " ++ (decimal h ++ (codes " card " ++ decimal place))
opening_text (ShortData h) = codes "fitsed: open refused O4 ShortData hdu " ++ decimal h
opening_text TooLarge = codes "fitsed: open refused O5 TooLarge"
opening_text Memory = []

-- a fault of the file or of the script; no other is given
unfoldable pub fault_text : Fault → List ℕ
fault_text (Refused why) = opening_text why
fault_text ScriptTooLong = codes "fitsed: script too long"
fault_text fault = []

-- the same where there may be none
abbrev pub message_of : Option Fault → List ℕ
message_of None = []
message_of (Some fault) = fault_text fault
