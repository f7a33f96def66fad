-- Why bytes are no file.
use Rattle.std.proofs.Common.{◌≡◌, ℕ, ◌+◌, ◌<◌, ◌≤◌, true, List, length, refl}
use Rattle.fits_passing.specs.Hdu.{HduParts, HasHduFault}
use Rattle.fits_passing.specs.declared.hdu_fault.HduFault.{HduFault}
use Rattle.fits_passing.specs.declared.hdu_fault.HduFault.TheVariants as hdu_fault
use Rattle.fits_passing.specs.File.{is_first, goes_on, IsFrontOf}
use Rattle.fits_passing.specs.declared.limits.TheConstants.{FILE_LIMIT, HDU_LIMIT}
use Rattle.fits_passing.specs.Opening.{BeginsAsFits, HasOpenFault, open_fault_of}

-- a fault of the next HDU is the file's
pub fault_here : (f : List ℕ) (us : List HduParts) (rest : List ℕ) (fault : HduFault) → length f ≤ FILE_LIMIT → BeginsAsFits f → IsFrontOf f us rest → goes_on us rest ≡ true → length us < HDU_LIMIT → HasHduFault (is_first us) rest fault → HasOpenFault f (open_fault_of fault (length us + 1))
fault_here f us rest hdu_fault.NoEnd size begins p m few h = record { size = size; begins = begins; stops = record { before = us; rest = rest; front = p; more = m; few = few; here = h; at = refl } }
fault_here f us rest (hdu_fault.BadShape place) size begins p m few h = record { size = size; begins = begins; stops = record { before = us; rest = rest; front = p; more = m; few = few; here = h; at = refl } }
fault_here f us rest hdu_fault.ShortData size begins p m few h = record { size = size; begins = begins; stops = record { before = us; rest = rest; front = p; more = m; few = few; here = h; at = refl } }
fault_here f us rest hdu_fault.Memory size begins p m few h = absurd h
