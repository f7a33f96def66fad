-- What is kept of each card of a header: all that it says alone, and the total of its words.
use Rattle.std.specs.Prelude.{ℕ, Bool, false, List, map}
use Rattle.std.specs.List.{sum_by}
use Rattle.fits_codes.specs.Mark.{mark_of}
use Rattle.fits_header.specs.Links.{StringMark, links_from}
use Rattle.fits_header.specs.declared.note.Note.{Note}
use Rattle.fits_sum.specs.Words.{word_total}

-- the note of a card: its mark, and the total of its words (Appendix J)
abbrev pub note_of : List ℕ → Note
note_of card = record { mark = mark_of card; total = word_total card }

-- the notes of cards
abbrev pub notes_of : List (List ℕ) → List Note
notes_of cards = map note_of cards

-- their totals, added up
abbrev pub total_in : List Note → ℕ
total_in notes = sum_by (λ note. note.total) notes

-- what a note says of long strings
abbrev pub strings_in : Note → StringMark
strings_in note = record { continues = note.mark.continues; begins = note.mark.begins; is_open = note.mark.is_open }

-- which cards are links, by their notes
abbrev pub links_in : List Note → List Bool
links_in notes = links_from false (map strings_in notes)
