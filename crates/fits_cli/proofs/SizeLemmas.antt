-- What a line says has cards of 80 bytes and names of 8.
use Rattle.std.proofs.Common.{◌≡◌, ℕ, ◌-◌, ◌≤◌, Bool, true, false, List, [], ◌∷◌, ◌++◌, length, replicate, refl, arith, Option, None, Some, Result, Ok, Err}
use Rattle.std.specs.Prelude.{◌==◌, ◌&&◌, nat_le, unwrap_or, if◌then◌else◌}
use Rattle.std.specs.Option.{ok_or}
use Rattle.std.proofs.lemmas.Bool.{and_parts, leb-true}
use Rattle.std.proofs.lemmas.List.{length-append, length-replicate}
use Rattle.fits_card.specs.Card.{card_of_text}
use Rattle.fits_value.specs.declared.value.Value.{Value}
use Rattle.fits_session.specs.Edit.{HasSizes}
use Rattle.fits_edit.specs.declared.card_edit.CardEdit.TheVariants.{Insert, Put, Delete, Move, Set, Unset}
use Rattle.fits_edit.specs.declared.edit.Edit.TheVariants.{Hdu, NewImage, RemoveHdu}
use Rattle.fits_edit.specs.declared.hdu_edit.HduEdit.TheVariants.{Keep, Pixels, Release, Reshape, Stamp}
use Rattle.fits_script.specs.Line.{◌>>=◌, array_words, card_last, card_words, cards_command, command_by, command_of, ended, field_last, field_words, fill_words, hdu_said, move_words, name_word, next_hdu, next_name, next_place, next_word, place_word, rectangle_word, said_by, said_of, verb_said, write_words}
use Rattle.fits_script.specs.Words.{after_next, after_word, first_word, name_of_text, name_of_word, verb_of}
use Rattle.fits_script.specs.declared.command.Command.{Command}
use Rattle.fits_script.specs.declared.command.Command.TheVariants.{Nothing, Edit, Offsets, Get, Positions, Report, Statistics, Rectangle, Sums, Kept}
use Rattle.fits_script.specs.declared.misfit.Misfit.{Misfit}
use Rattle.fits_script.specs.declared.misfit.Misfit.TheVariants.{LongCard}
use Rattle.fits_script.specs.declared.verb.Verb.{Verb}
use Rattle.fits_script.specs.declared.verb.Verb.TheVariants as verb

-- what is said, if anything is, is so
abbrev pub AllIn : {X : Type 0} → (X → Type 0) → Result X Misfit → Type 0
AllIn P (Ok x) = P x
AllIn P (Err why) = Unit {0}

-- cards and names of the edit that a command asks for are as long as they are
abbrev pub IsSized : Command → Type 0
IsSized (Edit edit) = HasSizes edit
IsSized command = Unit {0}

-- nothing is asked of what is said
any : {X : Type 0} (part : Result X Misfit) → AllIn (λ (x : X). Unit {0}) part
any (Ok x) = tt
any (Err why) = tt

-- what passes a test is so
tested : {X : Type 0} (P : X → Type 0) (test : Bool) (x : X) (why : Misfit) → (test ≡ true → P x) → AllIn P (if test then Ok x else Err why)
tested P true x why is = is refl
tested P false x why is = tt

-- what follows from a part is so
bound : {X Y : Type 0} (P : X → Type 0) (Q : Y → Type 0) (part : Result X Misfit) (next : X → Result Y Misfit) → AllIn P part → ((x : X) → P x → AllIn Q (next x)) → AllIn Q (part >>= next)
bound P Q (Ok x) next is each = each x is
bound P Q (Err why) next is each = tt

-- a text that goes on in spaces
padded : (n : ℕ) (text : List ℕ) → length text ≤ n → length (text ++ replicate (n - length text) 32) ≡ n
padded n text short =
    let spaces : List ℕ = replicate (n - length text) 32 in
    let many : length spaces ≡ n - length text = length-replicate {A = ℕ} (n - length text) 32 in
    omega (arith, short, length-append text spaces, many)

-- a card that ends a line has 80 bytes
card_sized : (rest : Option (List ℕ)) → AllIn (λ (card : List ℕ). length card ≡ 80) (card_last rest)
unfolding card_last
card_sized rest =
    let text = unwrap_or rest [] in
    tested (λ (card : List ℕ). length card ≡ 80) (nat_le (length text) 80) (card_of_text text) (LongCard (length text)) (λ short. padded 80 text (leb-true (length text) 80 short))

-- a name of a word has 8
word_sized : (test : Bool) (name : List ℕ) (why : Misfit) → (test ≡ true → length name ≡ 8) → AllIn (λ (name : List ℕ). length name ≡ 8) (ok_or (if test then Some name else None) why)
word_sized true name why long = long refl
word_sized false name why long = tt

-- so has one that comes next
name_sized : (size : ℕ) (rest : Option (List ℕ)) → AllIn (λ (name : List ℕ). length name ≡ 8) (next_name size rest)
unfolding next_word name_of_word
name_sized size None = tt
name_sized size (Some text) =
    let word = first_word text in
    word_sized (nat_le 1 (length word) && nat_le (length word) 8) (name_of_text word) _ (λ both. padded 8 word (leb-true (length word) 8 (and_parts (nat_le 1 (length word)) (nat_le (length word) 8) both).1))

-- a card after a place
card_words_sized : (size : ℕ) (rest : Option (List ℕ)) → AllIn (λ (w : ℕ × List ℕ). length w.1 ≡ 80) (card_words size rest)
unfolding card_words
card_words_sized size rest =
    bound _ (λ (w : ℕ × List ℕ). length w.1 ≡ 80) (next_place size rest) _ (any (next_place size rest)) (λ place none.
    bound (λ (card : List ℕ). length card ≡ 80) (λ (w : ℕ × List ℕ). length w.1 ≡ 80) (card_last (after_next rest)) _ (card_sized (after_next rest)) (λ card long. long))

-- a name before a field
field_words_sized : (size : ℕ) (rest : Option (List ℕ)) → AllIn (λ (w : List ℕ × Value × Option (List ℕ)). length w.0 ≡ 8) (field_words size rest)
unfolding field_words
field_words_sized size rest =
    bound (λ (name : List ℕ). length name ≡ 8) (λ (w : List ℕ × Value × Option (List ℕ)). length w.0 ≡ 8) (next_name size rest) _ (name_sized size rest) (λ name long.
    bound _ (λ (w : List ℕ × Value × Option (List ℕ)). length w.0 ≡ 8) (field_last (after_next rest)) _ (any (field_last (after_next rest))) (λ said none. long))

-- a command that is all
alone : (size : ℕ) (rest : Option (List ℕ)) (command : Command) → IsSized command → AllIn IsSized (ended size rest command)
unfolding ended
alone size None command sized = sized
alone size (Some text) command sized = tt

-- what words come to
mapped : {X : Type 0} (f : X → Command) (words : Result X Misfit) → AllIn (λ (x : X). IsSized (f x)) words → AllIn IsSized (command_by f words)
mapped f (Ok x) sized = sized
mapped f (Err why) sized = tt

-- what a verb says of an HDU that comes next
of_hdu : (v : Verb) (size : ℕ) (rest : Option (List ℕ)) → ((h : ℕ) (more : Option (List ℕ)) → AllIn IsSized (said_of v size h more)) → AllIn IsSized (hdu_said v size rest)
of_hdu v size rest sized = bound _ IsSized (next_hdu size rest) (λ h. said_of v size h (after_next rest)) (any (next_hdu size rest)) (λ h none. sized h (after_next rest))

-- what a verb says of a rest
verb_sized : (v : Verb) (size : ℕ) (rest : Option (List ℕ)) → AllIn IsSized (said_by v size rest)
unfolding said_by said_of
verb_sized verb.Insert size rest = of_hdu verb.Insert size rest (λ h more. mapped (λ w. cards_command h (Insert w.0 w.1)) (card_words size more) (card_words_sized size more))
verb_sized verb.Put size rest = of_hdu verb.Put size rest (λ h more. mapped (λ w. cards_command h (Put w.0 w.1)) (card_words size more) (card_words_sized size more))
verb_sized verb.Delete size rest = of_hdu verb.Delete size rest (λ h more. mapped (λ place. cards_command h (Delete place)) (place_word size more) (any (place_word size more)))
verb_sized verb.Move size rest = of_hdu verb.Move size rest (λ h more. mapped (λ w. cards_command h (Move w.0 w.1)) (move_words size more) (any (move_words size more)))
verb_sized verb.Set size rest = of_hdu verb.Set size rest (λ h more. mapped (λ w. cards_command h (Set w.0 w.1 w.2)) (field_words size more) (field_words_sized size more))
verb_sized verb.Unset size rest = of_hdu verb.Unset size rest (λ h more. mapped (λ name. cards_command h (Unset name)) (name_word size more) (any (name_word size more)))
verb_sized verb.Fill size rest = of_hdu verb.Fill size rest (λ h more. mapped (λ w. Edit (Hdu h (Pixels w.0 w.1 w.2))) (fill_words size more) (any (fill_words size more)))
verb_sized verb.Write size rest = of_hdu verb.Write size rest (λ h more. mapped (λ w. Edit (Hdu h (Pixels w.0 w.1 w.2))) (write_words size more) (any (write_words size more)))
verb_sized verb.Reshape size rest = of_hdu verb.Reshape size rest (λ h more. mapped (λ w. Edit (Hdu h (Reshape w.0 w.1))) (array_words size more) (any (array_words size more)))
verb_sized verb.New size rest = of_hdu verb.New size rest (λ h more. mapped (λ w. Edit (NewImage h w.0 w.1)) (array_words size more) (any (array_words size more)))
verb_sized verb.Remove size rest = of_hdu verb.Remove size rest (λ h more. alone size more (Edit (RemoveHdu h)) tt)
verb_sized verb.Stamp size rest = of_hdu verb.Stamp size rest (λ h more. alone size more (Edit (Hdu h Stamp)) tt)
verb_sized verb.Keep size rest = of_hdu verb.Keep size rest (λ h more. alone size more (Edit (Hdu h Keep)) tt)
verb_sized verb.Release size rest = of_hdu verb.Release size rest (λ h more. alone size more (Edit (Hdu h Release)) tt)
verb_sized verb.Kept size rest = of_hdu verb.Kept size rest (λ h more. alone size more (Kept h) tt)
verb_sized verb.Get size rest = of_hdu verb.Get size rest (λ h more. mapped (λ name. Get h name) (name_word size more) (any (name_word size more)))
verb_sized verb.Positions size rest = of_hdu verb.Positions size rest (λ h more. mapped (λ name. Positions h name) (name_word size more) (any (name_word size more)))
verb_sized verb.Statistics size rest = of_hdu verb.Statistics size rest (λ h more. alone size more (Statistics h) tt)
verb_sized verb.Rectangle size rest = of_hdu verb.Rectangle size rest (λ h more. mapped (λ w. Rectangle h w.0 w.1) (rectangle_word size more) (any (rectangle_word size more)))
verb_sized verb.Sums size rest = of_hdu verb.Sums size rest (λ h more. alone size more (Sums h) tt)
verb_sized verb.Offsets size rest = alone size rest Offsets tt
verb_sized verb.Report size rest = alone size rest Report tt

-- what a line says by its words
words_sized : (v : Option Verb) (line : List ℕ) → AllIn IsSized (verb_said v line)
unfolding verb_said
words_sized None line = tt
words_sized (Some v) line = verb_sized v (length line) (after_word line)

-- one of two commands
either : (test : Bool) (a b : Result Command Misfit) → AllIn IsSized a → AllIn IsSized b → AllIn IsSized (if test then a else b)
either true a b p q = p
either false a b p q = q

-- what a line says has cards of 80 bytes and names of 8
pub line_sized : (line : List ℕ) → AllIn IsSized (command_of line)
unfolding command_of
line_sized [] = tt
line_sized (byte ∷ bytes) = either (byte == 35) (Ok Nothing) _ tt (words_sized (verb_of (first_word (byte ∷ bytes))) (byte ∷ bytes))
