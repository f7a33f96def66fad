-- The lines of a script that makes the cards of one file those of another (own).
use Rattle.std.specs.Prelude.{◌≡◌, ℕ, zero, suc, ◌+◌, ◌-◌, List, [], ◌∷◌, ◌++◌, length, map, take, drop, codes, min, ◌==◌, if◌then◌else◌, Option, Some, None}
use Rattle.std.specs.Fmt.{decimal}
use Rattle.fits_value.specs.Text.{trimmed}
use Rattle.fits_passing.specs.File.{FileParts}
use Rattle.fits_passing.specs.Hdu.{HduParts}
use Rattle.fits_session.specs.Edit.{hdu_of}
use Rattle.fits_tell.specs.Cards.{after_space}
use Rattle.fits_tell.specs.Numbered.{numbered}
use Rattle.fits_diff.specs.Matching.{AreMatched}

-- the cards of an HDU, or none
abbrev pub cards_or_none : Option HduParts → List (List ℕ)
cards_or_none None = []
cards_or_none (Some hdu) = hdu.header.cards

-- the cards of HDU h, if it is there
abbrev pub cards_at : FileParts → ℕ → List (List ℕ)
cards_at file h = cards_or_none (hdu_of file h)

-- the cards from one index up to another
abbrev pub between : List (List ℕ) → ℕ → ℕ → List (List ℕ)
between cards from to = take (to - from) (drop from cards)

-- `VERB H P`
abbrev pub place_words : List ℕ → ℕ → ℕ → List ℕ
place_words verb h place = verb ++ (codes " " ++ decimal h) ++ (codes " " ++ decimal place)

-- a byte of a card as a line has it: in the place of a line feed, which would end the line, another that isn't text
abbrev pub line_byte : ℕ → ℕ
line_byte byte = if byte == 10 then 0 else byte

-- the line `VERB H P CARD`, without the spaces at the end of the card
abbrev pub card_line : List ℕ → ℕ → ℕ → List ℕ → List ℕ
card_line verb h place card = place_words verb h place ++ after_space (map line_byte (trimmed card)) ++ codes "\n"

-- the lines of cards, from one index up to another, each with its place
abbrev pub card_lines : List ℕ → ℕ → List (List ℕ) → ℕ → ℕ → List ℕ
card_lines verb h cards from to = numbered (card_line verb h) (from + 1) (between cards from to)

-- the line `del H P`
abbrev pub deletion : ℕ → ℕ → List ℕ
deletion h place = place_words (codes "del") h place ++ codes "\n"

-- a text so many times
abbrev pub repeated : ℕ → List ℕ → List ℕ
repeated zero text = []
repeated (suc more) text = text ++ repeated more text

-- cards from one index up to another come where so many others go: in the place of these as far as both go, and then between what is there,
-- or what is left goes
abbrev pub gap_lines : ℕ → List (List ℕ) → (gone from to : ℕ) → List ℕ
gap_lines h cards gone from to =
    let both : ℕ = min gone (to - from) in
    card_lines (codes "put") h cards from (from + both)
    ++ (card_lines (codes "ins") h cards (from + both) to ++ repeated (gone - both) (deletion h (to + 1)))

-- the lines of the cards that aren't matched, from these indices on; all cards before them are the other's by then
abbrev pub patch_lines : ℕ → List (List ℕ) → List (List ℕ) → ℕ → ℕ → List (ℕ × ℕ) → List ℕ
patch_lines h xs ys i j [] = gap_lines h ys (length xs - i) j (length ys)
patch_lines h xs ys i j (pair ∷ pairs) = gap_lines h ys (pair.0 - i) j pair.1 ++ patch_lines h xs ys (pair.0 + 1) (pair.1 + 1) pairs

-- these lines are to make the cards of HDU h others: each that isn't matched is put in, inserted or deleted
pub record PatchesCards (h : ℕ) (xs ys : List (List ℕ)) (text : List ℕ) : Type 0 where
  pub pairs : List (ℕ × ℕ)
  pub matched : AreMatched xs ys 0 0 pairs
  pub is : text ≡ patch_lines h xs ys 0 0 pairs

-- the same of the cards of as many HDUs, from this number on
abbrev pub PatchesHdus : ℕ → List (List (List ℕ)) → List (List (List ℕ)) → List ℕ → Type 0
PatchesHdus h [] [] text = text ≡ []
PatchesHdus h [] (ys ∷ others) text = ⊥
PatchesHdus h (xs ∷ headers) [] text = ⊥
PatchesHdus h (xs ∷ headers) (ys ∷ others) text =
    (one : List ℕ) × (rest : List ℕ) × (text ≡ one ++ rest) × PatchesCards h xs ys one × PatchesHdus (h + 1) headers others rest
