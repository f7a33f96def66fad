-- A keyword record, seen as its 80 bytes (FITS Standard 4.0, section 4.1).
use Rattle.std.specs.Prelude.{ℕ, ◌-◌, Bool, ◌&&◌, not, nat_le, IsTrue, List, ◌++◌, length, take, drop, replicate, codes}
use Rattle.std.specs.List.{list_all}
use Rattle.std.specs.Str.{bytes_eq}
use Rattle.fits_card.specs.Name.{end_name, is_valueless}

-- bytes 1 to 8: the keyword name (4.1.2.1)
abbrev pub keyword_name : List ℕ → List ℕ
keyword_name card = take 8 card

-- bytes 9 and 10, where the value indicator stands (4.1.2.2)
abbrev pub indicator : List ℕ → List ℕ
indicator card = take 2 (drop 8 card)

-- the card has a value field, readable or not (4.1.2.2)
unfoldable pub has_value : List ℕ → Bool
has_value card = bytes_eq (indicator card) (codes "= ") && not (is_valueless (keyword_name card))

-- the card ends a header (4.4.1)
unfoldable pub is_end : List ℕ → Bool
is_end card = bytes_eq (keyword_name card) end_name

-- a character of text, from a space to a tilde (4.1.2.3)
abbrev pub is_text_byte : ℕ → Bool
is_text_byte byte = nat_le 32 byte && nat_le byte 126

-- every byte of the card is one
unfoldable pub is_text : List ℕ → Bool
is_text card = list_all is_text_byte card

-- the same as facts
abbrev pub HasValue : List ℕ → Type 0
HasValue card = IsTrue (has_value card)

abbrev pub IsEnd : List ℕ → Type 0
IsEnd card = IsTrue (is_end card)

abbrev pub IsText : List ℕ → Type 0
IsText card = IsTrue (is_text card)

-- the card that begins with a text and goes on in spaces
abbrev pub card_of_text : List ℕ → List ℕ
card_of_text text = text ++ replicate (80 - length text) 32
