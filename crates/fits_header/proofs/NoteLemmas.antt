-- Notes of cards.
use Rattle.std.proofs.Common.{◌≡◌, ℕ, ◌+◌, ◌-◌, ◌<◌, List, [], length, get_or, set, ap, sym, ◌∙◌, arith}
use Rattle.std.proofs.lemmas.List.{length-map, get_or-map}
use Rattle.std.proofs.Math.Seq.{paste}
use Rattle.fits_card.specs.Change.{spliced, moved, cards_after}
use Rattle.fits_card.specs.declared.change.Change.{Change}
use Rattle.fits_card.specs.declared.change.Change.TheVariants.{Splice, Move}
use Rattle.fits_card.proofs.SpliceLemmas.{paste-spliced, paste-more}
use Rattle.fits_header.specs.declared.note.Note.{Note}
use Rattle.fits_header.specs.Notes.{note_of, notes_of}
use Rattle.fits_header.proofs.HeaderLemmas.{map-spliced, map-moved, length_after-splice, length_after-move, range_of-splice, range_of-move}

-- the note of a card that is there
pub note_there : (notes : List Note) (cards : List (List ℕ)) (i : ℕ) (note : Note) → notes ≡ notes_of cards → i < length notes → note ≡ get_or notes i note → note ≡ note_of (get_or cards i [])
note_there notes cards i note is within at =
    at ∙ (ap (λ ns. get_or ns i note) is ∙ get_or-map note_of cards i [] note (omega (arith, within, ap length is, length-map cards note_of)))

-- so many notes were written over
pub notes-spliced : (xs : List Note) (cards : List (List ℕ)) (place n : ℕ) → n ≡ length cards → paste xs (place - 1) (notes_of cards) n ≡ spliced xs place n (notes_of cards)
notes-spliced xs cards place n h = paste-spliced xs (notes_of cards) place n (h ∙ sym (length-map cards note_of))

-- one more is
pub notes-more : (xs ys : List Note) (cards : List (List ℕ)) (from i : ℕ) (x : Note) (card : List ℕ) → ys ≡ paste xs from (notes_of cards) i → from + i < length xs → i < length cards → x ≡ note_of card → card ≡ get_or cards i card
    → set ys (from + i) x ≡ paste xs from (notes_of cards) (i + 1)
notes-more xs ys cards from i x card h fits within note is =
    paste-more xs ys (notes_of cards) from i x h fits (omega (arith, length-map cards note_of))
    (note ∙ ap note_of is ∙ sym (get_or-map note_of cards i card x within))

pub ruleset write_steps = (notes-spliced, notes-more)

-- the notes after a splice
pub notes_after-splice : (cards : List (List ℕ)) (change : Change) (place removed : ℕ) (new : List (List ℕ)) → change ≡ Splice place removed new → notes_of (cards_after cards change) ≡ spliced (notes_of cards) place removed (notes_of new)
unfolding cards_after
notes_after-splice cards change place removed new is = rw is (map-spliced note_of cards new place removed)

-- the notes after a move
pub notes_after-move : (cards : List (List ℕ)) (change : Change) (from to : ℕ) → change ≡ Move from to → notes_of (cards_after cards change) ≡ moved (notes_of cards) from to
unfolding cards_after
notes_after-move cards change from to is = rw is (map-moved note_of cards from to)

pub ruleset change_steps = (notes_after-splice, notes_after-move, length_after-splice, length_after-move, range_of-splice, range_of-move)
