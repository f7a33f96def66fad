-- Long strings over CONTINUE cards, in the terms of the standard (4.2.1.2).
use Rattle.std.specs.Prelude.{◌≡◌, ℕ, ◌⊎◌, List, [], ◌∷◌, ◌++◌, take, drop, map, codes, All, Option}
use Rattle.std.specs.List.{flat_map}
use Rattle.fits_card.specs.Card.{keyword_name, indicator, HasValue}
use Rattle.fits_value.specs.Text.{normal_form}
use Rattle.fits_value.specs.Value.{CardSays}
use Rattle.fits_value.specs.declared.value.Value.{Value}
use Rattle.fits_value.specs.declared.value.Value.TheVariants.{Str}
use Rattle.fits_value.specs.LongString.{EndsInAmpersand, cards_from, without_last}

-- a card that says a string: its bytes, the string in normal form and the comment
pub record Piece : Type 0 where
  pub card : List ℕ
  pub text : List ℕ
  pub comment : Option (List ℕ)

-- the card says this string and comment
abbrev pub SaysPiece : Piece → Type 0
SaysPiece piece = CardSays piece.card (Str piece.text) piece.comment

-- a proper CONTINUE card: spaces in bytes 9 and 10, and a string (4.2.1.2)
pub record IsContinueCard (card : List ℕ) : Type 0 where
  pub named : keyword_name card ≡ codes "CONTINUE"
  pub not_indicated : indicator card ≡ codes "  "
  pub text : List ℕ
  pub comment : Option (List ℕ)
  pub says : CardSays card (Str text) comment

-- a proper CONTINUE card comes first
abbrev pub BeginsWithContinue : List (List ℕ) → Type 0
BeginsWithContinue cards = (card : List ℕ) × (rest : List (List ℕ)) × (cards ≡ card ∷ rest) × IsContinueCard card

-- cards that begin with pieces, each but the last ending in an ampersand and each but the first on a proper CONTINUE card (4.2.1.2)
pub record IsRun (cards : List (List ℕ)) (front : List Piece) (last : Piece) (rest : List (List ℕ)) : Type 0 where
  pub parts : cards ≡ map (λ piece. piece.card) (front ++ last ∷ []) ++ rest
  pub say : All SaysPiece (front ++ last ∷ [])
  pub are_open : All (λ piece. EndsInAmpersand piece.text) front
  pub continued : All (λ piece. IsContinueCard piece.card) (drop 1 (front ++ last ∷ []))

-- the chain that begins at a place: the longest run, where its first card has a value (4.2.1.2)
pub record IsChain (cards : List (List ℕ)) (place : ℕ) (front : List Piece) (last : Piece) : Type 0 where
  pub rest : List (List ℕ)
  pub run : IsRun (cards_from cards place) front last rest
  pub first : All HasValue (take 1 (cards_from cards place))
  pub longest : EndsInAmpersand last.text → BeginsWithContinue rest → ⊥

-- the string of a chain: the pieces joined, each but the last without its ampersand (4.2.1.2)
abbrev pub chain_text : List Piece → Piece → List ℕ
chain_text front last = normal_form (flat_map (λ piece. without_last piece.text) front ++ last.text)

-- the card at a place has a value that is a string, and so begins a chain (4.2.1.2)
pub record BeginsChain (cards : List (List ℕ)) (place : ℕ) : Type 0 where
  pub first : All HasValue (take 1 (cards_from cards place))
  pub piece : Piece
  pub says : SaysPiece piece
  pub at : take 1 (cards_from cards place) ≡ piece.card ∷ []

-- the string of the chain at a place, with the comment of its last card (4.2.1.2)
pub record SaysChain (cards : List (List ℕ)) (place : ℕ) (value : Value) (comment : Option (List ℕ)) : Type 0 where
  pub front : List Piece
  pub last : Piece
  pub is_chain : IsChain cards place front last
  pub value_is : value ≡ Str (chain_text front last)
  pub comment_is : comment ≡ last.comment

-- what the card at a place says, where it begins no chain
pub record SaysAlone (cards : List (List ℕ)) (place : ℕ) (value : Value) (comment : Option (List ℕ)) : Type 0 where
  pub card : List ℕ
  pub at : take 1 (cards_from cards place) ≡ card ∷ []
  pub says : CardSays card value comment
  pub no_chain : BeginsChain cards place → ⊥

-- what a place says: the string of its chain, or what its card says alone (own)
abbrev pub LongSays : List (List ℕ) → ℕ → Value → Option (List ℕ) → Type 0
LongSays cards place value comment = SaysChain cards place value comment ⊎ SaysAlone cards place value comment
