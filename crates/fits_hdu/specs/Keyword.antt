-- What a keyword says in an HDU, and which cards say it (FITS Standard 4.0, sections 4.1.2 and 4.2.1.2).
use Rattle.std.specs.Prelude.{◌≡◌, ℕ, ◌+◌, List, Option, None, Some, ok_or, Result, Err, IsOk}
use Rattle.std.specs.Option.{option_map, option_map_or}
use Rattle.fits_card.specs.declared.change.Change.{Change}
use Rattle.fits_card.specs.declared.change.Change.TheVariants.{Splice}
use Rattle.fits_value.specs.Says.{link_count, long_says}
use Rattle.fits_value.specs.declared.value.Value.{Value}
use Rattle.fits_rules.specs.Lead.{lead_place}
use Rattle.fits_hdu.specs.declared.keyword.KeywordFault.{KeywordFault}
use Rattle.fits_hdu.specs.declared.keyword_cards.KeywordCards.{KeywordCards}
use Rattle.fits_hdu.specs.declared.keyword.KeywordFault.TheVariants.{NoKey, BadValue, Memory}

-- what stands at the lead's place, if there is a lead
abbrev pub said_at : List (List ℕ) → Option ℕ → Result (Value × Option (List ℕ)) KeywordFault
said_at cards None = Err NoKey
said_at cards (Some place) = ok_or (long_says cards place) BadValue

-- the value and the comment of a keyword: those of its lead, the long string included (own)
unfoldable pub keyword_value : List (List ℕ) → List ℕ → Result (Value × Option (List ℕ)) KeywordFault
keyword_value cards name = said_at cards (lead_place cards name)

-- asking for a keyword may end so: by its fault, or out of memory where it has a value
abbrev pub KeywordFails : List (List ℕ) → List ℕ → KeywordFault → Type 0
KeywordFails cards name Memory = IsOk (keyword_value cards name)
KeywordFails cards name fault = keyword_value cards name ≡ Err fault

-- the card at a place with the CONTINUE cards that belong to its string (4.2.1.2)
abbrev pub with_links : List (List ℕ) → ℕ → KeywordCards
with_links cards place = record { place = place; count = 1 + link_count cards place }

-- where the cards of a keyword stand, if it has a lead (own)
unfoldable pub keyword_cards : List (List ℕ) → List ℕ → Option KeywordCards
keyword_cards cards name = option_map (with_links cards) (lead_place cards name)

-- how many cards a keyword has
abbrev pub own_count : List (List ℕ) → List ℕ → ℕ
own_count cards name = option_map_or (λ (at : KeywordCards). at.count) (keyword_cards cards name) 0

-- new cards instead of a keyword's among so many; where it has no lead they go after the last
abbrev pub replacing : ℕ → Option KeywordCards → List (List ℕ) → Change
replacing count None new = Splice (count + 1) 0 new
replacing count (Some old) new = Splice old.place old.count new
