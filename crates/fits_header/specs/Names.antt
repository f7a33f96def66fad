-- The names of a header, and their order.
use Rattle.std.specs.Prelude.{◌≡◌, ◌↔◌, ℕ, ◌<◌, Bool, IsTrue, List, [], ◌∷◌, length, map, All, AllPairs, Contains, if◌then◌else◌}
use Rattle.std.specs.Cmp.Lexicographic.{slice_cmp}
use Rattle.std.specs.Int.{from_be_bytes, w64}
use Rattle.std.specs.Ordering.{nat_cmp, is_lt}
use Rattle.std.specs.Str.{bytes_eq}
use Rattle.fits_card.specs.Card.{keyword_name}

-- eight bytes (4.1.2.1)
pub record IsName (name : List ℕ) : Type 0 where
  pub size : length name ≡ 8
  pub bytes : All (λ byte. byte < 256) name

-- the names of cards are
abbrev pub AreNamed : List (List ℕ) → Type 0
AreNamed cards = All (λ (card : List ℕ). IsName (keyword_name card)) cards

-- the number that the bytes of a name write, the first one weighing most (own)
unfoldable pub name_number : List ℕ → ℕ
name_number name = from_be_bytes w64 name

-- it stands before another name: its byte is the smaller one where they first differ (own)
abbrev pub is_before : List ℕ → List ℕ → Bool
is_before name other = is_lt (slice_cmp nat_cmp name other)

-- ascending names with one more, where it goes, unless it is there
abbrev pub with_name : List ℕ → List (List ℕ) → List (List ℕ)
with_name name [] = name ∷ []
with_name name (first ∷ others) =
    if is_before name first then name ∷ first ∷ others
    else if bytes_eq name first then first ∷ others
    else first ∷ with_name name others

-- the names of a header's cards, each once, ascending (own)
abbrev pub header_names : List (List ℕ) → List (List ℕ)
header_names [] = []
header_names (card ∷ cards) = with_name (keyword_name card) (header_names cards)

-- names that ascend, each once, and are exactly those of the cards
pub record AreNamesOf (names cards : List (List ℕ)) : Type 0 where
  pub ascending : AllPairs (λ name other. IsTrue (is_before name other)) names
  pub theirs : (name : List ℕ) → Contains names name ↔ Contains (map keyword_name cards) name
