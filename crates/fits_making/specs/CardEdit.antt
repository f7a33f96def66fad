-- Edits of cards: the change that each makes of those of its HDU (own).
use Rattle.std.specs.Prelude.{◌≡◌, ℕ, ◌+◌, ◌&&◌, Bool, not, nat_le, List, [], ◌∷◌, length, Option, None, Some, Result, Ok, Err, if◌then◌else◌}
use Rattle.std.specs.List.{list_all, list_any}
use Rattle.std.specs.Str.{bytes_eq}
use Rattle.fits_card.specs.Card.{is_text, is_end}
use Rattle.fits_card.specs.Change.{new_cards}
use Rattle.fits_card.specs.Name.{blank_name, is_settable, is_spelled}
use Rattle.fits_card.specs.declared.change.Change.{Change}
use Rattle.fits_card.specs.declared.change.Change.TheVariants as change
use Rattle.fits_value.specs.Written.{write_says}
use Rattle.fits_value.specs.declared.value.Value.{Value}
use Rattle.fits_hdu.specs.Keyword.{keyword_cards, replacing}
use Rattle.fits_hdu.specs.declared.keyword_cards.KeywordCards.{KeywordCards}
use Rattle.fits_edit.specs.declared.card_edit.CardEdit.{CardEdit}
use Rattle.fits_edit.specs.declared.card_edit.CardEdit.TheVariants.{Insert, Put, Delete, Move, Set, Unset}
use Rattle.fits_making.specs.declared.refusal.Refusal.{Refusal}
use Rattle.fits_making.specs.declared.refusal.Refusal.TheVariants.{NoCard, NoKey, BadText, EndCard, BadName, BadValue}

-- a number from 1 to a last one
abbrev pub is_within : ℕ → ℕ → Bool
is_within number last = nat_le 1 number && nat_le number last

-- a splice takes out so many of so many cards from a place on, which may be one past the last
abbrev pub is_splice_within : ℕ → ℕ → ℕ → Bool
is_splice_within count place removed = nat_le 1 place && nat_le (place + removed) (count + 1)

-- the places of a change are in range among so many cards
abbrev pub is_in_range : ℕ → Change → Bool
is_in_range count (change.Splice place removed new) = is_splice_within count place removed
is_in_range count (change.Move from to) = is_within from count && is_within to count

-- the tests of a change by itself: its places, and that the cards that it puts in are text, and none is END
unfoldable pub own_refusal : ℕ → Change → Option Refusal
own_refusal count change =
    if not (is_in_range count change) then Some NoCard
    else if not (list_all is_text (new_cards change)) then Some BadText
    else if list_any is_end (new_cards change) then Some EndCard
    else None

-- a change, unless it's refused
abbrev pub unless : Option Refusal → Change → Result Change Refusal
unless None change = Ok change
unless (Some why) change = Err why

-- a change among so many cards, if it passes the tests by itself
abbrev pub tested : ℕ → Change → Result Change Refusal
tested count change = unless (own_refusal count change) change

-- the name is a keyword's: spelled as the standard asks, and not of spaces alone (4.1.2.1)
abbrev pub is_keyword_name : List ℕ → Bool
is_keyword_name name = is_spelled name && not (bytes_eq name blank_name)

-- written cards instead of a keyword's, if its value and comment can be written
abbrev pub setting : ℕ → Option KeywordCards → Option (List (List ℕ)) → Result Change Refusal
setting count old None = Err BadValue
setting count old (Some new) = Ok (replacing count old new)

-- nothing instead of a keyword's cards, if it has a lead
abbrev pub unsetting : Option KeywordCards → Result Change Refusal
unsetting None = Err NoKey
unsetting (Some old) = Ok (change.Splice old.place old.count [])

-- the change that gives a keyword a value and a comment; an old comment doesn't stay
unfoldable pub set_of : List (List ℕ) → List ℕ → Value → Option (List ℕ) → Result Change Refusal
set_of cards name value comment =
    if is_settable name then setting (length cards) (keyword_cards cards name) (write_says name value comment) else Err BadName

-- the change that takes a keyword out
unfoldable pub unset_of : List (List ℕ) → List ℕ → Result Change Refusal
unset_of cards name = if is_keyword_name name then unsetting (keyword_cards cards name) else Err BadName

-- the change that an edit makes of the cards of its HDU, or the first of its own tests that fails
unfoldable pub change_of : List (List ℕ) → CardEdit → Result Change Refusal
change_of cards (Insert place card) = tested (length cards) (change.Splice place 0 (card ∷ []))
change_of cards (Put place card) = tested (length cards) (change.Splice place 1 (card ∷ []))
change_of cards (Delete place) = tested (length cards) (change.Splice place 1 [])
change_of cards (Move from to) = tested (length cards) (change.Move from to)
change_of cards (Set name value comment) = set_of cards name value comment
change_of cards (Unset name) = unset_of cards name

-- its card has 80 bytes (4.1), and the name that it sets has 8 (4.1.2.1)
abbrev pub HasCardSizes : CardEdit → Type 0
HasCardSizes (Insert place card) = length card ≡ 80
HasCardSizes (Put place card) = length card ≡ 80
HasCardSizes (Set name value comment) = length name ≡ 8
HasCardSizes edit = Unit {0}
