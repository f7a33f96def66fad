-- The headers of a file, also of one that doesn't open: as far as they can be read (own; FITS Standard 4.0, sections 3.1 and 3.3.1).
use Rattle.std.specs.Prelude.{◌≡◌, ◌⊎◌, ℕ, ◌+◌, ◌<◌, ◌≤◌, true, false, List, [], ◌∷◌, ◌++◌, length, take, map, Option, Some, None, IfSome, MatchOption}
use Rattle.fits_card.specs.CardList.{CardStore}
use Rattle.fits_stream.specs.Gave.{GaveAll}
use Rattle.fits_stream.specs.Stream.{SourceState}
use Rattle.fits_passing.specs.Hdu.{HduParts}
use Rattle.fits_passing.specs.HduReading.{FailsAfter}
use Rattle.fits_passing.specs.declared.hdu_fault.HduFault.{HduFault}
use Rattle.fits_passing.specs.declared.hdu_fault.HduFault.TheVariants as hdu_fault
use Rattle.fits_passing.specs.File.{begins_extension, goes_on, is_first, IsFrontOf}
use Rattle.fits_passing.specs.Opening.{BeginsAsFits}
use Rattle.fits_passing.specs.declared.limits.TheConstants.{FILE_LIMIT, HDU_LIMIT}
use Rattle.fits_passing.specs.declared.open_fault.OpenFault.{OpenFault}
use Rattle.fits_passing.specs.declared.open_fault.OpenFault.TheVariants.{NotFits, NoEnd, BadShape, ShortData, TooLarge, Memory}

-- the cards of each header
abbrev pub cards_of : List HduParts → List (List (List ℕ))
cards_of hdus = map (λ (hdu : HduParts). hdu.header.cards) hdus

-- the same of headers that were read
abbrev pub read_cards : List CardStore → List (List (List ℕ))
read_cards headers = map (λ (list : CardStore). list.header.cards) headers

-- an HDU must stand here, after these, and can't be read for this fault: of its header the cards before END are shown
pub record StopsHere (hdus : List HduParts) (rest : List ℕ) (last : List (List (List ℕ))) (h : ℕ) (why : HduFault) : Type 0 where
  pub cards : List (List ℕ)
  pub more : goes_on hdus rest ≡ true
  pub few : length hdus < HDU_LIMIT
  pub here : FailsAfter (is_first hdus) cards why rest
  pub at : h ≡ length hdus + 1
  pub last_is : last ≡ cards ∷ []

-- why no HDU is read after these, and what is shown of one that can't be
abbrev pub StopsBy : List HduParts → List ℕ → List (List (List ℕ)) → Option OpenFault → Type 0
StopsBy hdus rest last None = (goes_on hdus rest ≡ false) × (last ≡ [])
StopsBy hdus rest last (Some NotFits) = (hdus ≡ []) × (BeginsAsFits rest → ⊥) × (last ≡ [])
StopsBy hdus rest last (Some (NoEnd h)) = StopsHere hdus rest last h hdu_fault.NoEnd
StopsBy hdus rest last (Some (BadShape h place)) = StopsHere hdus rest last h (hdu_fault.BadShape place)
StopsBy hdus rest last (Some (ShortData h)) = StopsHere hdus rest last h hdu_fault.ShortData
StopsBy hdus rest last (Some TooLarge) = (length hdus ≡ HDU_LIMIT) × (begins_extension rest ≡ true) × (last ≡ [])
StopsBy hdus rest last (Some Memory) = ⊥

-- these are the cards of the headers of bytes that are no more than a file may have: those of its HDUs, and those of one that can't be
-- read for this fault
pub record AreHeadersIn (headers : List (List (List ℕ))) (fault : Option OpenFault) (bytes : List ℕ) : Type 0 where
  pub hdus : List HduParts
  pub rest : List ℕ
  pub last : List (List (List ℕ))
  pub size : length bytes ≤ FILE_LIMIT
  pub front : IsFrontOf bytes hdus rest
  pub begins : 0 < length hdus + length last → BeginsAsFits bytes
  pub count : length hdus ≤ HDU_LIMIT
  pub stops : StopsBy hdus rest last fault
  pub are : headers ≡ cards_of hdus ++ last

-- as many bytes as a file may have, as far as a source tells them
abbrev pub IsFirstOf : SourceState → List ℕ → Type 0
IsFirstOf old bytes = MatchOption old.remaining (length bytes ≤ FILE_LIMIT) (λ all. bytes ≡ take FILE_LIMIT all)

-- the fault found in these stays, unless there are more: then the file is too large
abbrev pub FaultStays : SourceState → Option OpenFault → Option OpenFault → Type 0
FaultStays old found fault =
    ((fault ≡ found) × IfSome old.remaining (λ all. length all ≤ FILE_LIMIT))
    ⊎ ((fault ≡ Some TooLarge) × IfSome old.remaining (λ all. FILE_LIMIT < length all))

-- the same of the bytes that a source gave, and of all that may follow them
abbrev pub GaveHeaders : SourceState → SourceState → List (List (List ℕ)) → Option OpenFault → Option OpenFault → Type 0
GaveHeaders old new headers found fault =
    ((fault ≡ found) × GaveAll old new (AreHeadersIn headers found))
    ⊎ ((fault ≡ Some TooLarge) × GaveAll old new (λ bytes. FILE_LIMIT < length bytes))

-- these are the cards of the headers that a source has, in as many bytes as a file may have, and this is why it isn't a file, if it isn't
pub record ShowsHeaders (old new : SourceState) (headers : List (List (List ℕ))) (fault : Option OpenFault) : Type 0 where
  pub found : Option OpenFault
  pub bytes : List ℕ
  pub first : IsFirstOf old bytes
  pub are : AreHeadersIn headers found bytes
  pub fault_is : FaultStays old found fault
  pub gave : GaveHeaders old new headers found fault
