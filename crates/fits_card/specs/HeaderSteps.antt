-- How a header is found by pieces of 80 bytes: private contracts alone name it (own).
use Rattle.std.specs.Prelude.{◌≡◌, ℕ, ◌+◌, ◌*◌, ◌<◌, ◌≤◌, List, length, map, take, drop}
use Rattle.std.specs.List.{range_with_len}
use Rattle.fits_card.specs.Card.{IsEnd}
use Rattle.fits_card.specs.Header.{Header, fill_length, header_bytes, IsHeaderOf}

-- piece k of 80 bytes, from 0
abbrev pub piece : List ℕ → ℕ → List ℕ
piece bytes k = take 80 (drop (80 * k) bytes)

-- the first pieces of 80 bytes
abbrev pub pieces : List ℕ → ℕ → List (List ℕ)
pieces bytes count = map (piece bytes) (range_with_len 0 count)

-- the header of so many cards at the front, if there is one
abbrev pub header_at : List ℕ → ℕ → Header
header_at bytes cards = record {
  cards = pieces bytes cards;
  end = piece bytes cards;
  fill = take (fill_length cards) (drop (80 * (cards + 1)) bytes);
}

-- the first piece that ends a header is piece k, from 0 (4.4.1)
pub record IsEndPlace (bytes : List ℕ) (k : ℕ) : Type 0 where
  pub within : 80 * (k + 1) ≤ length bytes
  pub ends : IsEnd (piece bytes k)
  pub first : (j : ℕ) → j < k → IsEnd (piece bytes j) → ⊥

-- no piece of 80 bytes ends a header
abbrev pub HasNoEnd : List ℕ → Type 0
HasNoEnd bytes = (j : ℕ) → 80 * (j + 1) ≤ length bytes → IsEnd (piece bytes j) → ⊥

-- a header of so many bytes stands at the front
pub record HasHeader (bytes : List ℕ) (len : ℕ) : Type 0 where
  pub header : Header
  pub cut : IsHeaderOf bytes header (drop len bytes)
  pub size : len ≡ length (header_bytes header)
  pub within : len ≤ length bytes
