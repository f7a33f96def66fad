-- What calls of a session come to (own).
use Rattle.std.specs.Prelude.{◌≡◌, ◌⊎◌, ℕ, List, [], IsSome, Option, None, Some, Result}
use Rattle.fits_passing.specs.File.{file_bytes, IsFileOf}
use Rattle.fits_passing.specs.Opening.{OpenFails}
use Rattle.fits_passing.specs.declared.open_fault.OpenFault.{OpenFault}
use Rattle.fits_passing.specs.declared.open_fault.OpenFault.TheVariants.{NotFits, NoEnd, BadShape, ShortData, TooLarge, Memory}
use Rattle.fits_session.specs.Marked.{unmarked}
use Rattle.fits_session.specs.Query.{QueryFails}
use Rattle.fits_session.specs.Session.{file_of, marked_of, SessionState}
use Rattle.fits_making.specs.declared.refusal.Refusal.{Refusal}
use Rattle.fits_script.specs.Line.{reading_of}
use Rattle.fits_c.specs.Given.{LieIn}
use Rattle.fits_c.specs.Lines.{refusal_number, LineComesTo}
use Rattle.fits_c.specs.declared.bytes.Bytes.{Bytes}
use Rattle.fits_c.specs.declared.live.Live.{Live}
use Rattle.fits_c.specs.declared.place.Place.{Place}
use Rattle.fits_c.specs.declared.session_handle.SessionHandle.{SessionHandle}

-- a session of the file that has these bytes, of which no HDU is kept stamped
pub record IsSessionOf (bytes : List ℕ) (session : SessionState) : Type 0 where
  pub opens : IsFileOf bytes (file_of session)
  pub plain : marked_of session ≡ unmarked (file_of session)

-- the number of why a file doesn't open
abbrev pub opening_number : OpenFault → ℕ
opening_number NotFits = 1
opening_number (NoEnd h) = 2
opening_number (BadShape h place) = 3
opening_number (ShortData h) = 4
opening_number TooLarge = 5
opening_number Memory = 6

-- the HDU and the card where it is
abbrev pub opening_place : OpenFault → Place
opening_place NotFits = record { hdu = 0; card = 0 }
opening_place (NoEnd h) = record { hdu = h; card = 0 }
opening_place (BadShape h place) = record { hdu = h; card = place }
opening_place (ShortData h) = record { hdu = h; card = 0 }
opening_place TooLarge = record { hdu = 0; card = 0 }
opening_place Memory = record { hdu = 0; card = 0 }

-- what opening comes to: a session of the file, or why there is none and where
abbrev pub OpenComesTo : List ℕ → ℕ → Option Live → Place → Type 0
OpenComesTo file number held place =
    ((live : Live) × (number ≡ 0) × (held ≡ Some live) × IsSessionOf file live.session)
    ⊎ ((why : OpenFault) × (number ≡ opening_number why) × (held ≡ None) × (place ≡ opening_place why) × OpenFails file why)

-- a handle holds a session
abbrev pub IsOpen : SessionHandle → Type 0
IsOpen handle = IsSome handle.live

-- a call takes a session to what it is then, and this is so of both
abbrev pub Calls : (Live → Live → Type 0) → SessionHandle → SessionHandle → Type 0
Calls Is before after = (old : Live) × (before.live ≡ Some old) × (new : Live) × (after.live ≡ Some new) × Is old new

-- the file and its marks stay
abbrev pub Stays : Live → Live → Type 0
Stays old new = marked_of new.session ≡ marked_of old.session

-- a line is answered, and this is where its answer lies
pub record LineIsAnswered (old : Live) (line : List ℕ) (number : ℕ) (answer : Bytes) (new : Live) : Type 0 where
  pub lies : LieIn answer new.text
  pub comes : LineComesTo (marked_of old.session) (reading_of line) number new.text.items (marked_of new.session)

-- the text of a session is the present bytes of the file, or memory was refused
abbrev pub HasSaved : Live → ℕ → Live → Type 0
HasSaved old number new = ((number ≡ 0) × (new.text.items ≡ file_bytes (file_of old.session))) ⊎ ((number ≡ 15) × (new.text.items ≡ []))

-- saving gives it
pub record SaveComesTo (old : Live) (number : ℕ) (saved : Bytes) (new : Live) : Type 0 where
  pub stays : Stays old new
  pub lies : LieIn saved new.text
  pub saves : HasSaved old number new

-- a query is refused for this number
abbrev pub QueryIsRefused : {X : Type 0} → Result X Refusal → ℕ → Type 0
QueryIsRefused answer number = (why : Refusal) × (number ≡ refusal_number why) × QueryFails answer why
