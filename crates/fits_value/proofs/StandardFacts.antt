-- The standard's own examples, so that a wrong rule in the specs does not check (FITS Standard 4.0, section 4.2).
use Rattle.std.proofs.Common.{◌≡◌, ℕ, true, false, pos, negsuc, List, [], ◌∷◌, None, Some, codes, refl}
use Rattle.fits_card.specs.Card.{card_of_text, has_value, is_text}
use Rattle.fits_card.specs.Name.{is_valueless}
use Rattle.fits_value.specs.Scan.{front_value, reading_of}
use Rattle.fits_value.specs.Says.{field_says, card_says, card_string, is_continue, link_says, chain_length, link_count, long_says, says_number}
use Rattle.fits_value.specs.declared.value.Value.TheVariants.{Logical, Str}

-- the null string, the empty string and a doubled quote (4.2.1.1)
pub known_strings : (card_string (card_of_text (codes "KEYWORD1= ''")) ≡ Some [])
    × (card_string (card_of_text (codes "KEYWORD2= '   '")) ≡ Some (codes " "))
    × (card_string (card_of_text (codes "OBSERVER= 'O''HARA'")) ≡ Some (codes "O'HARA"))
unfolding card_string card_says field_says is_text reading_of front_value
known_strings = (refl, refl, refl)

-- a logical value in column 30 (4.2.2)
pub known_logical : card_says (card_of_text (codes "SIMPLE  =                    T")) ≡ Some (Logical true, None)
unfolding card_says field_says is_text reading_of front_value
known_logical = refl

-- a string over three cards (4.2.1.2)
abbrev weather : List (List ℕ)
weather = card_of_text (codes "WEATHER = 'Partly cloudy during the evening f&'")
    ∷ card_of_text (codes "CONTINUE  'ollowed by cloudy skies overnight.&'")
    ∷ card_of_text (codes "CONTINUE  ' Low 21C. Winds NNE at 5 to 10 mph.'")
    ∷ []

-- its pieces are joined without their ampersands
pub known_chain : long_says weather 1
    ≡ Some (Str (codes "Partly cloudy during the evening followed by cloudy skies overnight. Low 21C. Winds NNE at 5 to 10 mph."), None)
unfolding long_says link_says is_continue has_value is_valueless card_says field_says is_text reading_of front_value
known_chain = refl

-- and two links belong to it
pub known_links : link_count weather 1 ≡ 2
unfolding chain_length card_string link_says is_continue has_value is_valueless card_says field_says is_text reading_of front_value
known_links = refl

-- integers and reals denote numbers exactly; what is near to 1 isn't 1 (4.2.3, 4.2.4)
pub known_numbers : (says_number (codes "+032768") (pos 32768) ≡ true)
    × (says_number (codes "3.2768E4") (pos 32768) ≡ true)
    × (says_number (codes "-1280.D-1") (negsuc 127) ≡ true)
    × (says_number (codes "-0.") (pos 0) ≡ true)
    × (says_number (codes "1.00000000000000000001") (pos 1) ≡ false)
    × (says_number (codes "-1") (pos 1) ≡ false)
    × (says_number (codes "1 ") (pos 1) ≡ false)
    × (says_number (codes ".") (pos 0) ≡ false)
unfolding says_number
known_numbers = (refl, refl, refl, refl, refl, refl, refl, refl)
