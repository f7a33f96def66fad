-- Cards written by hand from the standard's fixed format, so that a wrong layout in the specs does not check
-- (FITS Standard 4.0, sections 4.2 and 4.2.1.2).
use Rattle.std.proofs.Common.{◌≡◌, ℕ, List, [], ◌∷◌, ◌++◌, replicate, Option, None, Some, codes, refl, true}
use Rattle.fits_card.specs.Card.{card_of_text, is_text}
use Rattle.fits_value.specs.Scan.{number_of}
use Rattle.fits_value.specs.Written.{number_kind, writable_string, writable_value, writable_comment, is_writable, write_says}
use Rattle.fits_value.specs.declared.value.Value.{Value}
use Rattle.fits_value.specs.declared.value.Value.TheVariants.{Undefined, Logical, Integer, Real, Complex, Str}

-- a value and a comment on one card
abbrev IsWrittenAs : Value → Option (List ℕ) → List ℕ → Type 0
IsWrittenAs value comment text = write_says (codes "KEY     ") value comment ≡ Some (card_of_text text ∷ [])

-- a value of each type in fixed format, and comments after them
pub known_cards : IsWrittenAs Undefined (Some (codes " none")) (codes "KEY     =                      / none")
    × IsWrittenAs (Logical true) None (codes "KEY     =                    T")
    × IsWrittenAs (Integer (codes "5")) (Some (codes " c")) (codes "KEY     =                    5 / c")
    × IsWrittenAs (Integer (codes "123456789012345678901")) (Some (codes "x")) (codes "KEY     = 123456789012345678901 /x")
    × IsWrittenAs (Real (codes "-1.5E-3")) None (codes "KEY     =              -1.5E-3")
    × IsWrittenAs (Complex (codes "1") (codes "2.5")) None (codes "KEY     =             (1, 2.5)")
    × IsWrittenAs (Str (codes "it's")) (Some (codes " x")) (codes "KEY     = 'it''s   '           / x")
    × IsWrittenAs (Str []) None (codes "KEY     = ''")
unfolding write_says is_writable writable_value writable_comment number_kind number_of writable_string is_text
known_cards = (refl, refl, refl, refl, refl, refl, refl, refl)

-- a string over three cards, with a quote where the first one is full
pub known_pieces : write_says (codes "KEY     ") (Str (replicate 66 97 ++ codes "'" ++ replicate 73 98)) None ≡ Some (
    card_of_text (codes "KEY     = '" ++ replicate 66 97 ++ codes "&'")
    ∷ card_of_text (codes "CONTINUE  '''" ++ replicate 65 98 ++ codes "&'")
    ∷ card_of_text (codes "CONTINUE  'bbbbbbbb'")
    ∷ [])
unfolding write_says is_writable writable_value writable_comment writable_string is_text
known_pieces = refl

-- what can't be written: a string that ends in an ampersand, and a number of 71 digits
pub known_bad : (write_says (codes "KEY     ") (Str (codes "a&")) None ≡ None)
    × (write_says (codes "KEY     ") (Integer (replicate 71 49)) None ≡ None)
    × (write_says (codes "KEY     ") (Integer (codes "5")) (Some (codes "x ")) ≡ None)
unfolding write_says is_writable writable_value writable_comment number_kind number_of writable_string is_text
known_bad = (refl, refl, refl)
