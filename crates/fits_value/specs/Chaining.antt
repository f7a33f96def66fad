-- The steps along a chain: private contracts alone name them (own).
use Rattle.std.specs.Prelude.{◌≡◌, ℕ, List, [], ◌∷◌, ◌++◌, Option, None, if◌then◌else◌}
use Rattle.std.specs.Option.{option_map}
use Rattle.fits_value.specs.Says.{link_says, links_of, ends_in_ampersand, joined}

-- the link that continues a text: that of the next card, where the text ends in an ampersand
abbrev pub next_link : List ℕ → List (List ℕ) → Option (List ℕ × Option (List ℕ))
next_link text [] = None
next_link text (card ∷ cards) = if ends_in_ampersand text then link_says card else None

-- its string alone
abbrev pub next_string : List ℕ → List (List ℕ) → Option (List ℕ)
next_string text cards = option_map (λ link. link.0) (next_link text cards)

-- a text joined so far, with what a piece and the cards after it join to, is the whole
pub record JoinsTo (whole : List ℕ × Option (List ℕ)) (so_far piece : List ℕ) (comment : Option (List ℕ)) (cards : List (List ℕ)) : Type 0 where
  pub text : whole.0 ≡ so_far ++ (joined piece comment (links_of cards)).0
  pub comment_is : whole.1 ≡ (joined piece comment (links_of cards)).1
