-- The lines of a script: which bytes are which command, and why others are none (own).
use Rattle.std.specs.Prelude.{ℕ, ◌==◌, nat_le, ℤ, List, [], ◌∷◌, length, Option, None, Some, Result, Ok, Err, unwrap_or, if◌then◌else◌}
use Rattle.std.specs.List.{slice_split}
use Rattle.std.specs.Option.{ok_or, option_map}
use Rattle.fits_card.specs.Card.{card_of_text}
use Rattle.fits_value.specs.Says.{field_says}
use Rattle.fits_value.specs.declared.value.Value.{Value}
use Rattle.fits_image.specs.declared.kind.Kind.{Kind}
use Rattle.fits_edit.specs.declared.card_edit.CardEdit.{CardEdit}
use Rattle.fits_edit.specs.declared.card_edit.CardEdit.TheVariants.{Insert, Put, Delete, Move, Set, Unset}
use Rattle.fits_edit.specs.declared.edit.Edit.{Edit as SessionEdit}
use Rattle.fits_edit.specs.declared.edit.Edit.TheVariants.{Hdu, NewImage, RemoveHdu}
use Rattle.fits_edit.specs.declared.hdu_edit.HduEdit.{HduEdit}
use Rattle.fits_edit.specs.declared.hdu_edit.HduEdit.TheVariants.{Cards, Keep, Pixels, Release, Reshape, Stamp}
use Rattle.fits_edit.specs.declared.paint.Paint.{Paint}
use Rattle.fits_edit.specs.declared.paint.Paint.TheVariants.{Fill, Write}
use Rattle.fits_script.specs.Misfit.{field_misfit, more_misfit, no_verb, unless_returned, values_misfit, word_misfit}
use Rattle.fits_script.specs.Words.{after_next, after_word, axes_of_word, corners_of_word, first_word, kind_of_word, list_of_text, name_of_word, number_of_word, value_of_word, verb_of}
use Rattle.fits_script.specs.declared.limits.TheConstants.{LINE_LIMIT}
use Rattle.fits_script.specs.declared.command.Command.{Command}
use Rattle.fits_script.specs.declared.command.Command.TheVariants.{Nothing, Edit, Offsets, Get, Positions, Report, Statistics, Rectangle, Sums, Kept}
use Rattle.fits_script.specs.declared.line_reading.LineReading.{LineReading}
use Rattle.fits_script.specs.declared.line_reading.LineReading.TheVariants.{TooLong, NoCommand, Said}
use Rattle.fits_script.specs.declared.misfit.Misfit.{Misfit}
use Rattle.fits_script.specs.declared.misfit.Misfit.TheVariants.{WordMissing, NotHdu, NotPlace, LongName, LongCard, NotRectangle, NotPixelValue, NotKind, NotAxes}
use Rattle.fits_script.specs.declared.verb.Verb.{Verb}
use Rattle.fits_script.specs.declared.verb.Verb.TheVariants as verb

-- what follows from one part of a line; where a part isn't what is wanted, why is all that is said
infixl 10 ◌>>=◌
abbrev pub ◌>>=◌ : {X Y : Type 0} → Result X Misfit → (X → Result Y Misfit) → Result Y Misfit
Ok part >>= next = next part
Err misfit >>= next = Err misfit

-- the next word of a line of this size, read in one way; where it reads as nothing, `another` says why
unfoldable pub next_word : {X : Type 0} → (List ℕ → Option X) → (List ℕ → Misfit) → ℕ → Option (List ℕ) → Result X Misfit
next_word reads another size None = Err WordMissing
next_word reads another size (Some text) = ok_or (reads (first_word text)) (word_misfit size text (another (first_word text)))

-- the number of an HDU comes next
abbrev pub next_hdu : ℕ → Option (List ℕ) → Result ℕ Misfit
next_hdu size rest = next_word number_of_word NotHdu size rest

-- a place
abbrev pub next_place : ℕ → Option (List ℕ) → Result ℕ Misfit
next_place size rest = next_word number_of_word NotPlace size rest

-- a keyword name
abbrev pub next_name : ℕ → Option (List ℕ) → Result (List ℕ) Misfit
next_name size rest = next_word name_of_word (λ word. LongName) size rest

-- a rectangle
abbrev pub next_area : ℕ → Option (List ℕ) → Result (List ℕ × List ℕ) Misfit
next_area size rest = next_word corners_of_word NotRectangle size rest

-- a value of a pixel
abbrev pub next_value : ℕ → Option (List ℕ) → Result ℤ Misfit
next_value size rest = next_word value_of_word NotPixelValue size rest

-- a kind of pixels
abbrev pub next_kind : ℕ → Option (List ℕ) → Result Kind Misfit
next_kind size rest = next_word kind_of_word NotKind size rest

-- axes
abbrev pub next_axes : ℕ → Option (List ℕ) → Result (List ℕ) Misfit
next_axes size rest = next_word axes_of_word NotAxes size rest

-- nothing follows, so that this is all
unfoldable pub ended : {X : Type 0} → ℕ → Option (List ℕ) → X → Result X Misfit
ended size None said = Ok said
ended size (Some text) said = Err (more_misfit size text)

-- the rest of a line is a card of at most 80 bytes; it may be empty without the space before it
unfoldable pub card_last : Option (List ℕ) → Result (List ℕ) Misfit
card_last rest =
    let text = unwrap_or rest [] in if nat_le (length text) 80 then Ok (card_of_text text) else Err (LongCard (length text))

-- it is a value and a comment, or empty likewise
unfoldable pub field_last : Option (List ℕ) → Result (Value × Option (List ℕ)) Misfit
field_last rest = let text = unwrap_or rest [] in ok_or (field_says text) (field_misfit text)

-- it is values that are written, one at least, a space between
unfoldable pub values_last : ℕ → Option (List ℕ) → Result Paint Misfit
values_last size None = Err WordMissing
values_last size (Some text) =
    ok_or
    (option_map Write (list_of_text value_of_word 32 text))
    (word_misfit size text (values_misfit size (length text) (slice_split (λ byte. byte == 32) text)))

-- `P CARD`
unfoldable pub card_words : ℕ → Option (List ℕ) → Result (ℕ × List ℕ) Misfit
card_words size rest = do
  place ← next_place size rest
  card ← card_last (after_next rest)
  Ok (place, card)

-- `P`
unfoldable pub place_word : ℕ → Option (List ℕ) → Result ℕ Misfit
place_word size rest = do
  place ← next_place size rest
  ended size (after_next rest) place

-- `P Q`
unfoldable pub move_words : ℕ → Option (List ℕ) → Result (ℕ × ℕ) Misfit
move_words size rest = do
  from ← next_place size rest
  to ← place_word size (after_next rest)
  Ok (from, to)

-- `NAME`
unfoldable pub name_word : ℕ → Option (List ℕ) → Result (List ℕ) Misfit
name_word size rest = do
  name ← next_name size rest
  ended size (after_next rest) name

-- `NAME FIELD`
unfoldable pub field_words : ℕ → Option (List ℕ) → Result (List ℕ × Value × Option (List ℕ)) Misfit
field_words size rest = do
  name ← next_name size rest
  said ← field_last (after_next rest)
  Ok (name, said.0, said.1)

-- `RECT`
unfoldable pub rectangle_word : ℕ → Option (List ℕ) → Result (List ℕ × List ℕ) Misfit
rectangle_word size rest = do
  area ← next_area size rest
  ended size (after_next rest) area

-- a value ends a line, with which a rectangle is filled
unfoldable pub value_last : ℕ → Option (List ℕ) → Result Paint Misfit
value_last size rest = do
  value ← next_value size rest
  ended size (after_next rest) (Fill value)

-- these corners, and what is painted between them
abbrev pub painted : List ℕ × List ℕ → Result Paint Misfit → Result (List ℕ × List ℕ × Paint) Misfit
painted corners paint = paint >>= (λ p. Ok (corners.0, corners.1, p))

-- `RECT V`
unfoldable pub fill_words : ℕ → Option (List ℕ) → Result (List ℕ × List ℕ × Paint) Misfit
fill_words size rest = do
  area ← next_area size rest
  painted area (value_last size (after_next rest))

-- `RECT V V ..`
unfoldable pub write_words : ℕ → Option (List ℕ) → Result (List ℕ × List ℕ × Paint) Misfit
write_words size rest = do
  area ← next_area size rest
  painted area (values_last size (after_next rest))

-- the axes that end a line
unfoldable pub axes_last : ℕ → Option (List ℕ) → Result (List ℕ) Misfit
axes_last size rest = do
  axes ← next_axes size rest
  ended size (after_next rest) axes

-- `KIND AXES`
unfoldable pub array_words : ℕ → Option (List ℕ) → Result (Kind × List ℕ) Misfit
array_words size rest = do
  kind ← next_kind size rest
  axes ← axes_last size (after_next rest)
  Ok (kind, axes)

-- the cards of HDU h are edited
abbrev pub cards_command : ℕ → CardEdit → Command
cards_command h edit = Edit (Hdu h (Cards edit))

-- the command that words come to
abbrev pub command_by : {X : Type 0} → (X → Command) → Result X Misfit → Result Command Misfit
command_by made words = words >>= (λ w. Ok (made w))

-- what a verb says of HDU h, by what follows h; the two that name no HDU say the same of each
unfoldable pub said_of : Verb → ℕ → ℕ → Option (List ℕ) → Result Command Misfit
said_of verb.Insert size h rest = command_by (λ w. cards_command h (Insert w.0 w.1)) (card_words size rest)
said_of verb.Put size h rest = command_by (λ w. cards_command h (Put w.0 w.1)) (card_words size rest)
said_of verb.Delete size h rest = command_by (λ place. cards_command h (Delete place)) (place_word size rest)
said_of verb.Move size h rest = command_by (λ w. cards_command h (Move w.0 w.1)) (move_words size rest)
said_of verb.Set size h rest = command_by (λ w. cards_command h (Set w.0 w.1 w.2)) (field_words size rest)
said_of verb.Unset size h rest = command_by (λ name. cards_command h (Unset name)) (name_word size rest)
said_of verb.Fill size h rest = command_by (λ w. Edit (Hdu h (Pixels w.0 w.1 w.2))) (fill_words size rest)
said_of verb.Write size h rest = command_by (λ w. Edit (Hdu h (Pixels w.0 w.1 w.2))) (write_words size rest)
said_of verb.Reshape size h rest = command_by (λ w. Edit (Hdu h (Reshape w.0 w.1))) (array_words size rest)
said_of verb.New size h rest = command_by (λ w. Edit (NewImage h w.0 w.1)) (array_words size rest)
said_of verb.Remove size h rest = ended size rest (Edit (RemoveHdu h))
said_of verb.Stamp size h rest = ended size rest (Edit (Hdu h Stamp))
said_of verb.Keep size h rest = ended size rest (Edit (Hdu h Keep))
said_of verb.Release size h rest = ended size rest (Edit (Hdu h Release))
said_of verb.Kept size h rest = ended size rest (Kept h)
said_of verb.Get size h rest = command_by (λ name. Get h name) (name_word size rest)
said_of verb.Positions size h rest = command_by (λ name. Positions h name) (name_word size rest)
said_of verb.Statistics size h rest = ended size rest (Statistics h)
said_of verb.Rectangle size h rest = command_by (λ w. Rectangle h w.0 w.1) (rectangle_word size rest)
said_of verb.Sums size h rest = ended size rest (Sums h)
said_of verb.Offsets size h rest = ended size rest Offsets
said_of verb.Report size h rest = ended size rest Report

-- what a verb says of the HDU that comes next
abbrev pub hdu_said : Verb → ℕ → Option (List ℕ) → Result Command Misfit
hdu_said verb size rest = next_hdu size rest >>= (λ h. said_of verb size h (after_next rest))

-- what a verb and the rest of the line say: most verbs name an HDU first
unfoldable pub said_by : Verb → ℕ → Option (List ℕ) → Result Command Misfit
said_by verb.Offsets size rest = ended size rest Offsets
said_by verb.Report size rest = ended size rest Report
said_by verb size rest = hdu_said verb size rest

-- what a line says whose first word is this verb, or none
unfoldable pub verb_said : Option Verb → List ℕ → Result Command Misfit
verb_said None line = Err (no_verb line)
verb_said (Some verb) line = said_by verb (length line) (after_word line)

-- what a line says: an empty line and a comment say that nothing is to be done
unfoldable pub command_of : List ℕ → Result Command Misfit
command_of [] = Ok Nothing
command_of (byte ∷ bytes) =
    if byte == 35 then Ok Nothing else verb_said (verb_of (first_word (byte ∷ bytes))) (byte ∷ bytes)

-- a line within the limit says a command, or none
abbrev pub said_or_none : List ℕ → Result Command Misfit → LineReading
said_or_none line (Ok command) = Said command
said_or_none line (Err misfit) = NoCommand (unless_returned line misfit)

-- what a line comes to: past the limit it is too long, whatever it holds
unfoldable pub reading_of : List ℕ → LineReading
reading_of line = if nat_le (length line) LINE_LIMIT then said_or_none line (command_of line) else TooLong

-- taking up this edit of cards may need memory: a value that is set is a text of its own
abbrev pub CardsHoldMemory : CardEdit → Type 0
CardsHoldMemory (Set name value comment) = Unit {0}
CardsHoldMemory edit = ⊥

-- and this edit of an HDU: corners and values of pixels, and new axes, are lists of their own
abbrev pub HduHoldsMemory : HduEdit → Type 0
HduHoldsMemory (Cards edit) = CardsHoldMemory edit
HduHoldsMemory Stamp = ⊥
HduHoldsMemory Keep = ⊥
HduHoldsMemory Release = ⊥
HduHoldsMemory edit = Unit {0}

-- and this edit: so are new axes
abbrev pub EditHoldsMemory : SessionEdit → Type 0
EditHoldsMemory (Hdu h edit) = HduHoldsMemory edit
EditHoldsMemory (NewImage at kind axes) = Unit {0}
EditHoldsMemory (RemoveHdu h) = ⊥

-- taking up this command may need memory: corners are lists of their own
abbrev pub HoldsMemory : Command → Type 0
HoldsMemory (Edit edit) = EditHoldsMemory edit
HoldsMemory (Rectangle hdu lo hi) = Unit {0}
HoldsMemory command = ⊥

-- reading a line may need memory: one that says no command needs none
abbrev pub ReadingNeedsMemory : LineReading → Type 0
ReadingNeedsMemory TooLong = ⊥
ReadingNeedsMemory (NoCommand misfit) = ⊥
ReadingNeedsMemory (Said command) = HoldsMemory command

-- the same of what its words say
abbrev pub SayingNeedsMemory : Result Command Misfit → Type 0
SayingNeedsMemory (Ok command) = HoldsMemory command
SayingNeedsMemory (Err misfit) = ⊥
