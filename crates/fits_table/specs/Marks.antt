-- Marks of numbers, by which most that weren't marked are told at once (own).
use Rattle.std.specs.Prelude.{ℕ, ◌+◌, ◌*◌, ◌%◌, Bool, false, true, List, Option, None, Some, get_or}
use Rattle.fits_card.specs.Card.{keyword_name}
use Rattle.fits_table.specs.Print.{print_of_title}
use Rattle.fits_table.specs.declared.marks.TheConstants.{MARK_COUNT}

-- a number was marked, or another that shares its mark
abbrev pub is_marked : List Bool → ℕ → Bool
is_marked marks number = get_or marks (number % MARK_COUNT) false

-- the number of a name is marked, if one is said
abbrev pub is_name_marked : List Bool → Option (List ℕ) → Bool
is_name_marked marks None = true
is_name_marked marks (Some name) = is_marked marks (print_of_title (Some name))

-- a number of a keyword: in tables that of its root alone
abbrev pub root_number : List ℕ → ℕ
root_number name = get_or name 1 0 * 32 + get_or name 3 0

-- that of a card's keyword is marked
abbrev pub is_card_marked : List Bool → List ℕ → Bool
is_card_marked marks card = is_marked marks (root_number (keyword_name card))
