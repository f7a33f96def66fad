-- Character strings that go on over CONTINUE cards (FITS Standard 4.0, section 4.2.1.2).
use Rattle.std.specs.Prelude.{◌≡◌, ℕ, ◌-◌, List, ◌++◌, take, drop, length, codes}

-- the text ends in an ampersand: it may be continued (4.2.1.2)
abbrev pub EndsInAmpersand : List ℕ → Type 0
EndsInAmpersand text = (front : List ℕ) × (text ≡ front ++ codes "&")

-- the cards from a place on, counted from 1
abbrev pub cards_from : List (List ℕ) → ℕ → List (List ℕ)
cards_from cards place = drop (place - 1) cards

-- a text without its last byte
abbrev pub without_last : List ℕ → List ℕ
without_last text = take (length text - 1) text
