-- A text in pieces, each on a HISTORY card.
use Rattle.std.proofs.Common.{◌≡◌, ◌≤◌, ◌<◌, ℕ, zero, suc, ◌+◌, List, [], ◌∷◌, ◌++◌, length, take, drop, refl, ap, sym, ◌∙◌, append_assoc, arith, Bool, true, false}
use Rattle.std.specs.Prelude.{◌==◌, nat_le, codes, if◌then◌else◌}
use Rattle.std.proofs.lemmas.Bool.Decides.{nat_tests}
use Rattle.fits_extended.specs.Stands.{added_after, history_after, last_gap, piece_end, piece_len, pieces}

-- a text for which a card has room is one piece
pieces-last : (more : ℕ) (text : List ℕ) → length text ≤ 72 → pieces more text ≡ text ∷ []
unfolding pieces
pieces-last zero text short = refl
pieces-last (suc more) text short = let fits : nat_le (length text) 72 ≡ true = grind (arith, nat_tests) in rw fits refl

-- one that is longer is cut
pieces-cut : (more : ℕ) (text : List ℕ) → 72 < length text
    → pieces (suc more) text ≡ take (piece_len (last_gap text 72)) text ∷ (if length (drop (piece_end (last_gap text 72)) text) == 0 then [] else pieces more (drop (piece_end (last_gap text 72)) text))
unfolding pieces
pieces-cut more text long = let past : nat_le (length text) 72 ≡ false = grind (arith, nat_tests) in rw past refl

-- the card of the last piece
pub history-last : (h count place more : ℕ) (text : List ℕ) (lines new total : List (List ℕ)) → lines ++ history_after h count place (pieces more text) ≡ total → length text ≤ 72
    → new ≡ lines ++ (added_after h (codes "HISTORY " ++ text) count place ∷ []) → new ≡ total
history-last h count place more text lines new total is short added =
    added ∙ sym (ap (λ ps. lines ++ history_after h count place ps) (pieces-last more text short)) ∙ is

-- the card of a piece, after which nothing is left
pub history-done : (h count place more : ℕ) (text piece after : List ℕ) (lines new total : List (List ℕ)) → lines ++ history_after h count place (pieces more text) ≡ total → 72 < length text → length text ≤ more
    → piece ≡ take (piece_len (last_gap text 72)) text → after ≡ drop (piece_end (last_gap text 72)) text → length after ≡ 0
    → new ≡ lines ++ (added_after h (codes "HISTORY " ++ piece) count place ∷ []) → new ≡ total
history-done h count place zero text piece after lines new total is long enough piece_is after_is none added = absurd (omega (arith, long, enough))
history-done h count place (suc more) text piece after lines new total is long enough piece_is after_is none added =
    let empty : (length (drop (piece_end (last_gap text 72)) text) == 0) ≡ true = rw (← after_is, none) refl in
    let cut = pieces-cut more text long in
    added ∙ sym (ap (λ ps. lines ++ history_after h count place ps) (rw (empty, ← piece_is) at cut)) ∙ is

-- or something
pub history-more : (h count place more : ℕ) (text piece after : List ℕ) (lines new total : List (List ℕ)) → lines ++ history_after h count place (pieces more text) ≡ total → 72 < length text → length text ≤ more
    → piece ≡ take (piece_len (last_gap text 72)) text → after ≡ drop (piece_end (last_gap text 72)) text → 0 < length after → length after < length text
    → new ≡ lines ++ (added_after h (codes "HISTORY " ++ piece) count place ∷ [])
    → (fewer : ℕ) × (length after ≤ fewer) × (new ++ history_after h count (place + 1) (pieces fewer after) ≡ total)
history-more h count place zero text piece after lines new total is long enough piece_is after_is some shorter added = absurd (omega (arith, long, enough))
history-more h count place (suc more) text piece after lines new total is long enough piece_is after_is some shorter added =
    let left : (length (drop (piece_end (last_gap text 72)) text) == 0) ≡ false = rw (← after_is) (grind (arith, nat_tests)) in
    let cut = pieces-cut more text long in
    let next : pieces (suc more) text ≡ piece ∷ pieces more after = rw (left, ← piece_is, ← after_is) at cut in (
      more,
      omega (arith, enough, shorter),
      ap (λ t. t ++ history_after h count (place + 1) (pieces more after)) added ∙ append_assoc lines (added_after h (codes "HISTORY " ++ piece) count place ∷ []) (history_after h count (place + 1) (pieces more after))
          ∙ sym (ap (λ ps. lines ++ history_after h count place ps) next) ∙ is,
    )
