-- Cards that are searched stretch by stretch: private contracts alone name them (own).
use Rattle.std.specs.Prelude.{ℕ, ◌+◌, nat_lt, List, [], ◌∷◌, ◌++◌, if◌then◌else◌}
use Rattle.fits_header.specs.Places.{cards_within}
use Rattle.fits_header.specs.declared.leads.Stretch.{Stretch}

-- the cards of stretches, one stretch after another
abbrev pub cards_in_turn : List (List ℕ) → List Stretch → List (List ℕ)
cards_in_turn cards [] = []
cards_in_turn cards (stretch ∷ others) = cards_within cards stretch.from stretch.to ++ cards_in_turn cards others

-- the stretches of the cards before a place, in the order in which a move leaves them
abbrev pub stretches_moved : ℕ → ℕ → ℕ → List Stretch
stretches_moved from to end =
    if nat_lt to from then record { from = 1; to = to } ∷ record { from = from; to = from + 1 } ∷ record { from = to; to = from } ∷ record { from = from + 1; to = end } ∷ []
    else record { from = 1; to = from } ∷ record { from = from + 1; to = to + 1 } ∷ record { from = from; to = from + 1 } ∷ record { from = to + 1; to = end } ∷ []
