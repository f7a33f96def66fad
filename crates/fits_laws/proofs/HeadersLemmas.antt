-- Headers that were read are those of a file, or the bytes have the fault.
use Rattle.std.proofs.Common.{◌≡◌, ℕ, List, [], ◌++◌, length, subst, ap, ◌∙◌, arith, Option, Some, inr}
use Rattle.std.proofs.lemmas.List.{append-nil}
use Rattle.fits_passing.specs.Hdu.{HduParts}
use Rattle.fits_passing.specs.declared.hdu_fault.HduFault.{HduFault}
use Rattle.fits_passing.specs.declared.hdu_fault.HduFault.TheVariants as hdu_fault
use Rattle.fits_passing.specs.File.{joined_hdus, IsFrontOf}
use Rattle.fits_passing.specs.Headers.{cards_of, AreHeadersIn, StopsHere}
use Rattle.fits_laws.specs.Files.{HeadersTellFaults, HeadersTellFiles}
use Rattle.fits_passing.specs.Opening.{BeginsAsFits, FailsAt}
use Rattle.fits_passing.specs.declared.open_fault.OpenFault.{OpenFault}
use Rattle.fits_passing.specs.declared.open_fault.OpenFault.TheVariants.{NotFits, NoEnd, BadShape, ShortData, TooLarge, Memory}

-- headers without a fault are those of a file
pub tell_files : HeadersTellFiles
tell_files bytes headers p = (
  record { hdus = p.hdus; tail = p.rest },
  record { front = p.front; ends = p.stops.0; size = p.size; count = p.count },
  p.are ∙ ap (λ t. cards_of p.hdus ++ t) p.stops.1 ∙ append-nil (cards_of p.hdus),
)

-- an HDU that can't be read is the first of the file
fails_there : (bytes : List ℕ) (headers : List (List (List ℕ))) (fault : Option OpenFault) (h : ℕ) (why : HduFault) (p : AreHeadersIn headers fault bytes) → StopsHere p.hdus p.rest p.last h why → FailsAt bytes h why
fails_there bytes headers fault h why p s = record {
  size = p.size;
  begins = p.begins (omega (arith, ap length s.last_is));
  stops = record { before = p.hdus; rest = p.rest; front = p.front; more = s.more; few = s.few; here = s.here.fault; at = s.at };
}

-- bytes without an HDU before them are all of them
rest_all : (bytes : List ℕ) (us : List HduParts) (rest : List ℕ) → IsFrontOf bytes us rest → us ≡ [] → bytes ≡ rest
rest_all bytes us rest p none = p.joined ∙ ap (λ vs. joined_hdus vs ++ rest) none

-- headers with a fault are of bytes that have it
pub tell_faults : HeadersTellFaults
tell_faults bytes headers NotFits p = (p.size, λ begins. p.stops.1 (subst BeginsAsFits (rest_all bytes p.hdus p.rest p.front p.stops.0) begins))
tell_faults bytes headers (NoEnd h) p = fails_there bytes headers (Some (NoEnd h)) h hdu_fault.NoEnd p p.stops
tell_faults bytes headers (BadShape h place) p = fails_there bytes headers (Some (BadShape h place)) h (hdu_fault.BadShape place) p p.stops
tell_faults bytes headers (ShortData h) p = fails_there bytes headers (Some (ShortData h)) h hdu_fault.ShortData p p.stops
tell_faults bytes headers TooLarge p = inr (record { before = p.hdus; rest = p.rest; front = p.front; all = p.stops.0; more = p.stops.1 })
tell_faults bytes headers Memory p = absurd p.stops
