-- The lead of a name: the first card of that name that has a value. It alone counts (own).
use Rattle.std.specs.Prelude.{◌≡◌, ℕ, ◌+◌, Bool, ◌&&◌, List, Option, option_and_then, unwrap_or, length, position, codes}
use Rattle.std.specs.Option.{option_map}
use Rattle.std.specs.Str.{bytes_eq}
use Rattle.fits_card.specs.Card.{keyword_name, has_value}
pub use Rattle.fits_card.specs.Header.{card_at}
use Rattle.fits_rules.specs.declared.shape_leads.ShapeLeads.{ShapeLeads}

-- the card has this name and a value (4.1.2.1, 4.1.2.2)
unfoldable pub is_value_of : List ℕ → List ℕ → Bool
is_value_of name card = bytes_eq (keyword_name card) name && has_value card

-- where the lead stands, counted from 1
unfoldable pub lead_place : List (List ℕ) → List ℕ → Option ℕ
lead_place cards name = option_map (λ index. index + 1) (position (is_value_of name) cards)

-- the lead
unfoldable pub lead_card : List (List ℕ) → List ℕ → Option (List ℕ)
lead_card cards name = option_and_then (card_at cards) (lead_place cards name)

-- where the lead stands, or one past the last card where there is none
unfoldable pub lead_or_end : List (List ℕ) → List ℕ → ℕ
lead_or_end cards name = unwrap_or (lead_place cards name) (length cards + 1)

-- these are the leads that count for a shape wherever they stand (4.4.1.2, 6)
pub record AreLeads (cards : List (List ℕ)) (leads : ShapeLeads) : Type 0 where
  pub groups : leads.groups ≡ lead_card cards (codes "GROUPS  ")
  pub pcount : leads.pcount ≡ lead_card cards (codes "PCOUNT  ")
  pub gcount : leads.gcount ≡ lead_card cards (codes "GCOUNT  ")
