-- Keyword names, seen as their 8 bytes (FITS Standard 4.0, section 4.1.2.1).
use Rattle.std.specs.Prelude.{ℕ, Bool, nat_eq, not, ◌||◌, ◌&&◌, List, [], ◌∷◌, drop, codes}
use Rattle.std.specs.Char.{is_ascii_uppercase, is_ascii_digit}
use Rattle.std.specs.List.{list_all, list_any, prefix_len}
use Rattle.std.specs.Str.{bytes_eq}

-- the name of the card that ends a header (4.4.1)
abbrev pub end_name : List ℕ
end_name = codes "END     "

-- the name of spaces alone (4.4.2.4)
abbrev pub blank_name : List ℕ
blank_name = codes "        "

-- the names of cards that have no value field: commentary, CONTINUE and END (4.4.2.4, 4.2.1.2, 4.4.1)
abbrev pub valueless_names : List (List ℕ)
valueless_names = codes "COMMENT " ∷ codes "HISTORY " ∷ codes "CONTINUE" ∷ end_name ∷ blank_name ∷ []

-- it is one of these
unfoldable pub is_valueless : List ℕ → Bool
is_valueless name = list_any (bytes_eq name) valueless_names

-- a character that a name may have: A to Z, 0 to 9, a hyphen or an underscore (4.1.2.1)
abbrev pub is_name_byte : ℕ → Bool
is_name_byte byte = is_ascii_uppercase byte || is_ascii_digit byte || list_any (nat_eq byte) (codes "-_")

-- the name is spelled as the standard asks: such characters, then spaces (4.1.2.1); spaces alone are the blank name
unfoldable pub is_spelled : List ℕ → Bool
is_spelled name = list_all (nat_eq 32) (drop (prefix_len is_name_byte name) name)

-- a card of this name may be given a value (own)
unfoldable pub is_settable : List ℕ → Bool
is_settable name = is_spelled name && not (is_valueless name)
