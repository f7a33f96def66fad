-- A header: cards, the END card and the fill of its last block (FITS Standard 4.0, sections 3.1, 3.3.1 and 4.4.1).
use Rattle.std.specs.Prelude.{◌≡◌, ◌⊎◌, ℕ, ◌+◌, ◌-◌, ◌*◌, ◌%◌, Bool, nat_eq, drop, List, [], ◌++◌, length, replicate, codes, All, Option, slice_get}
use Rattle.std.specs.List.{flat_map, list_all}
use Rattle.fits_card.specs.Card.{IsEnd, card_of_text}

-- the parts of a header: its cards, each a list of bytes, then END, then the fill
pub record Header : Type 0 where
  pub cards : List (List ℕ)
  pub end : List ℕ
  pub fill : List ℕ

-- the card at a place, counted from 1
abbrev pub card_at : List (List ℕ) → ℕ → Option (List ℕ)
card_at cards place = slice_get cards (place - 1)

-- cards, one after another
abbrev pub joined_cards : List (List ℕ) → List ℕ
joined_cards cards = flat_map (λ card. card) cards

-- a header's bytes
abbrev pub header_bytes : Header → List ℕ
header_bytes header = joined_cards header.cards ++ (header.end ++ header.fill)

-- how many bytes are missing to the end of a block of 2880 (3.1)
abbrev pub to_block_end : ℕ → ℕ
to_block_end bytes = (2880 - bytes % 2880) % 2880

-- how many bytes of fill a header of so many cards has: END and the fill complete its last block (3.3.1)
unfoldable pub fill_length : ℕ → ℕ
fill_length cards = to_block_end (80 * (cards + 1))

-- a card of a header before its END
pub record IsInnerCard (card : List ℕ) : Type 0 where
  pub size : length card ≡ 80
  pub not_end : IsEnd card → ⊥

-- cards before END, then END, then a fill that completes the block and is shorter than one (3.3.1, 4.4.1)
pub record IsHeader (header : Header) : Type 0 where
  pub cards : All IsInnerCard header.cards
  pub end_size : length header.end ≡ 80
  pub ends : IsEnd header.end
  pub fill_size : length header.fill ≡ fill_length (length header.cards)

-- the header cut: bytes are a header and then a rest
pub record IsHeaderOf (bytes : List ℕ) (header : Header) (rest : List ℕ) : Type 0 where
  pub whole : IsHeader header
  pub joined : bytes ≡ header_bytes header ++ rest

-- no header stands at the front of these bytes
abbrev pub HasNoHeader : List ℕ → Type 0
HasNoHeader bytes = (header : Header) → (rest : List ℕ) → IsHeaderOf bytes header rest → ⊥

-- these cards stand before END, whatever follows it
pub record EndsCards (bytes : List ℕ) (cards : List (List ℕ)) : Type 0 where
  pub end : List ℕ
  pub more : List ℕ
  pub inner : All IsInnerCard cards
  pub end_size : length end ≡ 80
  pub ends : IsEnd end
  pub joined : bytes ≡ joined_cards cards ++ (end ++ more)

-- the cards before END, where there is one; else none
abbrev pub AreFrontCards : List ℕ → List (List ℕ) → Type 0
AreFrontCards bytes cards = EndsCards bytes cards ⊎ ((cards ≡ []) × ((others : List (List ℕ)) → EndsCards bytes others → ⊥))

-- how many bytes a header of so many cards has
abbrev pub header_length : ℕ → ℕ
header_length cards = 80 * (cards + 1) + fill_length cards

-- a header with other cards: END stays, and the fill is spaces (own)
abbrev pub with_cards : Header → List (List ℕ) → Header
with_cards header cards = record { cards = cards; end = header.end; fill = replicate (fill_length (length cards)) 32 }

-- END has spaces alone after its name (4.4.1)
abbrev pub is_end_blank : Header → Bool
is_end_blank header = list_all (nat_eq 32) (drop 8 header.end)

-- the fill is spaces (3.3.1)
abbrev pub is_fill_blank : Header → Bool
is_fill_blank header = list_all (nat_eq 32) header.fill

-- the header of these cards: END without more, and spaces to the end of its block (3.3.1)
abbrev pub new_header : List (List ℕ) → Header
new_header cards = record { cards = cards; end = card_of_text (codes "END"); fill = replicate (fill_length (length cards)) 32 }
