-- What `keys` prints of a file: the values of keywords of one header, on a line (own; FITS Standard 4.0, section 4.1.2).
use Rattle.std.specs.Prelude.{◌≡◌, ℕ, zero, suc, List, [], ◌∷◌, ◌++◌, codes, get_or, Option, Some, None, MatchOption, if◌then◌else◌}
use Rattle.std.specs.List.{flat_map}
use Rattle.fits_stream.specs.Stream.{SourceState, SinkState, FailsOnce, Prints, PrintsFront, StaysQuiet}
use Rattle.fits_value.specs.Says.{long_says}
use Rattle.fits_value.specs.Text.{trimmed}
use Rattle.fits_value.specs.declared.value.Value.{Value}
use Rattle.fits_value.specs.declared.value.Value.TheVariants.{Undefined, Logical, Integer, Real, Complex, Str}
use Rattle.fits_rules.specs.Lead.{lead_place}
use Rattle.fits_passing.specs.Headers.{ShowsHeaders}
use Rattle.fits_passing.specs.declared.open_fault.OpenFault.{OpenFault}
use Rattle.fits_tell.specs.Asked.{number_asked}
use Rattle.fits_tell.specs.Faults.{status_of_fault}
use Rattle.fits_tell.specs.declared.end.End.{End}
use Rattle.fits_tell.specs.declared.fault.Fault.{Fault}
use Rattle.fits_tell.specs.declared.fault.Fault.TheVariants.{Refused, ScriptTooLong, Memory, ReadFailed, WriteFailed, Reread as RereadFault}
use Rattle.fits_keys.specs.declared.key_choice.KeyChoice.{KeyChoice}

-- a value by its characters alone: those of a string, T or F, those of a number; none where it is undefined (4.2)
abbrev pub bare_text : Value → List ℕ
bare_text Undefined = []
bare_text (Logical flag) = if flag then codes "T" else codes "F"
bare_text (Integer text) = text
bare_text (Real text) = text
bare_text (Complex real imaginary) = codes "(" ++ (real ++ (codes ", " ++ (imaginary ++ codes ")")))
bare_text (Str text) = text

-- what is said, by its value
abbrev pub text_said : Option (Value × Option (List ℕ)) → List ℕ
text_said None = []
text_said (Some said) = bare_text said.0

-- what the card at a place says, with the CONTINUE cards of its string; nothing where there is none
abbrev pub text_at : List (List ℕ) → Option ℕ → List ℕ
text_at cards None = []
text_at cards (Some place) = text_said (long_says cards place)

-- the field of a name: what its lead says; nothing where it has none, or that doesn't read
abbrev pub field_of : List (List ℕ) → List ℕ → List ℕ
field_of cards name = text_at cards (lead_place cards name)

-- a field after a tab
abbrev pub tabbed : List ℕ → List ℕ
tabbed text = 9 ∷ text

-- the fields of names, each after a tab
abbrev pub fields_of : List (List ℕ) → List (List ℕ) → List ℕ
fields_of cards names = flat_map (λ name. tabbed (field_of cards name)) names

-- the cards of header h, from 1; none where it isn't there
abbrev pub cards_in : List (List (List ℕ)) → ℕ → List (List ℕ)
cards_in headers zero = []
cards_in headers (suc i) = get_or headers i []

-- the cards of the header that is asked for
abbrev pub cards_asked : KeyChoice → List (List (List ℕ)) → List (List ℕ)
cards_asked choice headers = cards_in headers (number_asked headers choice.hdu)

-- the line of a file, but for its name
abbrev pub fields_line : KeyChoice → List (List (List ℕ)) → List ℕ
fields_line choice headers = fields_of (cards_asked choice headers) choice.names.items ++ codes "\n"

-- the line above: `file`, and the names
abbrev pub heading_line : List (List ℕ) → List ℕ
heading_line names = codes "file" ++ (flat_map (λ name. tabbed (trimmed name)) names ++ codes "\n")

-- the line of a source's headers is printed and flushed
pub record KeysArePrinted (choice : KeyChoice) (file file_after : SourceState) (out out_after : SinkState) (end : End) : Type 0 where
  pub headers : List (List (List ℕ))
  pub shows : ShowsHeaders file file_after headers None
  pub read : StaysQuiet file file_after
  pub printed : Prints (fields_line choice headers) out out_after
  pub flushed : out_after.unflushed ≡ 0
  pub status_is : end.status ≡ 0

-- the source has no file: nothing is printed
pub record KeysAreRefused (file file_after : SourceState) (out out_after : SinkState) (why : OpenFault) : Type 0 where
  pub headers : List (List (List ℕ))
  pub shows : ShowsHeaders file file_after headers (Some why)
  pub read : StaysQuiet file file_after
  pub printed : out_after ≡ out

-- a write failed: a prefix of the line stands
pub record KeysFail (choice : KeyChoice) (file file_after : SourceState) (out out_after : SinkState) : Type 0 where
  pub headers : List (List (List ℕ))
  pub shows : ShowsHeaders file file_after headers None
  pub read : StaysQuiet file file_after
  pub printed : PrintsFront (fields_line choice headers) out out_after

-- what stands before a fault that ends the run: where memory was refused or a read failed nothing is printed
abbrev pub KeysStop : KeyChoice → SourceState → SourceState → SinkState → SinkState → Fault → Type 0
KeysStop choice file file_after out out_after (Refused why) = KeysAreRefused file file_after out out_after why
KeysStop choice file file_after out out_after ScriptTooLong = ⊥
KeysStop choice file file_after out out_after Memory = StaysQuiet file file_after × (out_after ≡ out)
KeysStop choice file file_after out out_after ReadFailed = FailsOnce file file_after × (out_after ≡ out)
KeysStop choice file file_after out out_after WriteFailed = KeysFail choice file file_after out out_after
KeysStop choice file file_after out out_after (RereadFault why) = ⊥

-- how the run ends: with its line, or by a fault and the fault's status
abbrev pub KeysEndAs : KeyChoice → SourceState → SourceState → SinkState → SinkState → End → Type 0
KeysEndAs choice file file_after out out_after end =
    MatchOption end.fault (KeysArePrinted choice file file_after out out_after end)
    (λ fault. KeysStop choice file file_after out out_after fault × (end.status ≡ status_of_fault fault))
