-- Links, by the notes of cards.
use Rattle.std.proofs.Common.{◌≡◌, ℕ, suc, ◌≤◌, ◌&&◌, Bool, true, false, Option, List, [], ◌∷◌, ◌++◌, length, take, drop, map, ap, sym, ◌∙◌, refl, arith, append-nil}
use Rattle.std.proofs.lemmas.List.{length-map, take_all, drop_all}
use Rattle.fits_card.specs.Card.{has_value}
use Rattle.fits_value.specs.Says.{card_string}
use Rattle.fits_rules.specs.Reads.{string_said}
use Rattle.fits_codes.specs.Mark.{mark_of}
use Rattle.fits_codes.specs.declared.surrounding.Surrounding.{Surrounding}
use Rattle.fits_header.specs.declared.note.Note.{Note}
use Rattle.fits_header.specs.Links.{StringMark, string_mark, leaves_open, links_from, header_links}
use Rattle.fits_header.specs.Notes.{note_of, notes_of, strings_in, links_in}

-- the links that are marked
abbrev links_marked : List Surrounding → List Bool
links_marked = map (λ (s : Surrounding). s.is_link)

-- in the end all are
pub links-all : (found : List Surrounding) (notes : List Note) (i : ℕ) (is_open : Bool) (all : List Bool) → length found ≡ length notes → length notes ≤ i
    → links_marked (take i found) ++ links_from is_open (map strings_in (drop i notes)) ≡ all → links_marked found ≡ all
links-all found notes i is_open all size done so_far =
    sym (append-nil (links_marked found))
    ∙ (ap (λ xs. links_marked xs ++ []) (sym (take_all i found (omega (arith, size))))
    ∙ (ap (λ ms. links_marked (take i found) ++ links_from is_open (map strings_in ms)) (sym (drop_all i notes done)) ∙ so_far))

pub ruleset link_steps = (links-all)

-- a note says of strings what its card does
strings-marked : (card : List ℕ) → strings_in (note_of card) ≡ string_mark card
unfolding mark_of string_said
strings-marked card = by (has_value card) (card_string card) refl refl
  where
    by : (v : Bool) (said : Option (List ℕ)) → has_value card ≡ v → card_string card ≡ said → strings_in (note_of card) ≡ string_mark card
    by true said h g = rw h refl
    by false said h g = rw h refl

-- so those of cards do
strings-notes : (cards : List (List ℕ)) → map strings_in (notes_of cards) ≡ map string_mark cards
strings-notes [] = refl
strings-notes (card ∷ cards) = rw (strings-marked card, strings-notes cards) refl

-- and the links by notes are those of the cards
pub links-of_notes : (notes : List Note) (cards : List (List ℕ)) → notes ≡ notes_of cards → links_in notes ≡ header_links cards
links-of_notes notes cards is = ap links_in is ∙ ap (links_from false) (strings-notes cards)

-- each card is a link or none
length-links_from : (before : Bool) (marks : List StringMark) → length (links_from before marks) ≡ length marks
length-links_from before [] = refl
length-links_from before (mark ∷ marks) = ap suc (length-links_from (leaves_open (before && mark.continues) mark) marks)

-- as many as cards
pub length-links : (cards : List (List ℕ)) → length (header_links cards) ≡ length cards
length-links cards = length-links_from false (map string_mark cards) ∙ length-map cards string_mark
