-- The cards of two headers, matched in their order (own).
use Rattle.std.specs.Prelude.{◌≡◌, ℕ, ◌+◌, ◌-◌, ◌<◌, ◌≤◌, List, [], ◌∷◌, ◌++◌, length, take, drop, get_or, codes}
use Rattle.fits_tell.specs.Cards.{card_line}
use Rattle.fits_tell.specs.Numbered.{numbered}

-- two cards, at these indices, are one, byte for byte
abbrev pub AreAlike : List (List ℕ) → List (List ℕ) → ℕ → ℕ → Type 0
AreAlike xs ys p q = get_or xs p [] ≡ get_or ys q []

-- from these indices on no two cards are alike whose indices come to less than this
abbrev pub NoneNearer : List (List ℕ) → List (List ℕ) → ℕ → ℕ → ℕ → Type 0
NoneNearer xs ys i j far = (s t : ℕ) → i ≤ s → j ≤ t → s < length xs → t < length ys → s + t < far → AreAlike xs ys s t → ⊥

-- the next two cards that are matched from these indices on: they are alike, and none are with fewer cards left out before them
pub record IsNext (xs ys : List (List ℕ)) (i j p q : ℕ) : Type 0 where
  pub from : i ≤ p
  pub from_other : j ≤ q
  pub within : p < length xs
  pub within_other : q < length ys
  pub alike : AreAlike xs ys p q
  pub nearest : NoneNearer xs ys i j (p + q)

-- these pairs of indices are matched from these on, one after another; after the last no card of one is a card of the other
abbrev pub AreMatched : List (List ℕ) → List (List ℕ) → ℕ → ℕ → List (ℕ × ℕ) → Type 0
AreMatched xs ys i j [] = NoneNearer xs ys i j (length xs + length ys)
AreMatched xs ys i j (pair ∷ pairs) = IsNext xs ys i j pair.0 pair.1 × AreMatched xs ys (pair.0 + 1) (pair.1 + 1) pairs

-- `- HDU PLACE CARD`, or the same with a plus sign
abbrev pub signed_line : List ℕ → ℕ → ℕ → List ℕ → List ℕ
signed_line sign h place card = sign ++ card_line (record { hdu = h; place = place; card = card })

-- the lines of cards from one index up to another
abbrev pub lines_between : List ℕ → ℕ → List (List ℕ) → ℕ → ℕ → List ℕ
lines_between sign h cards from to = numbered (signed_line sign h) (from + 1) (take (to - from) (drop from cards))

-- the lines of the cards before two, those of the first file and then those of the other
abbrev pub lines_before : ℕ → List (List ℕ) → List (List ℕ) → ℕ → ℕ → ℕ → ℕ → List ℕ
lines_before h xs ys i j p q = lines_between (codes "- ") h xs i p ++ lines_between (codes "+ ") h ys j q

-- the lines of the cards that aren't matched
abbrev pub unmatched_lines : ℕ → List (List ℕ) → List (List ℕ) → ℕ → ℕ → List (ℕ × ℕ) → List ℕ
unmatched_lines h xs ys i j [] = lines_before h xs ys i j (length xs) (length ys)
unmatched_lines h xs ys i j (pair ∷ pairs) = lines_before h xs ys i j pair.0 pair.1 ++ unmatched_lines h xs ys (pair.0 + 1) (pair.1 + 1) pairs

-- these lines tell of the cards of HDU h that aren't matched
pub record TellsCards (h : ℕ) (xs ys : List (List ℕ)) (text : List ℕ) : Type 0 where
  pub pairs : List (ℕ × ℕ)
  pub matched : AreMatched xs ys 0 0 pairs
  pub is : text ≡ unmatched_lines h xs ys 0 0 pairs
