-- Steps of changes of one card.
use Rattle.std.proofs.Common.{◌≡◌, ℕ, true, false, List, [], ◌∷◌, length, refl, sym, subst, arith, All, None, Some, zero, suc}
use Rattle.fits_card.specs.Card.{is_text, is_end}
use Rattle.std.specs.Prelude.{◌&&◌, Ok, Err}
use Rattle.fits_card.specs.Change.{new_cards}
use Rattle.fits_card.specs.Header.{IsInnerCard}
use Rattle.fits_card.specs.declared.change.Change.TheVariants.{Splice, Move}
use Rattle.fits_making.specs.CardEdit.{is_splice_within, is_within, own_refusal, tested}
use Rattle.fits_making.specs.declared.refusal.Refusal.TheVariants as refusal

-- the place is the first test
pub no_card : (count place removed : ℕ) (card : List ℕ) → is_splice_within count place removed ≡ false → own_refusal count (Splice place removed (card ∷ [])) ≡ Some refusal.NoCard
unfolding own_refusal
no_card count place removed card e = rw e refl

-- the text is the second
pub bad_text : (count place removed : ℕ) (card : List ℕ) → is_splice_within count place removed ≡ true → is_text card ≡ false → own_refusal count (Splice place removed (card ∷ [])) ≡ Some refusal.BadText
unfolding own_refusal new_cards
bad_text count place removed card e f = rw (e, f) refl

-- END is the third
pub end_card : (count place removed : ℕ) (card : List ℕ) → is_splice_within count place removed ≡ true → is_text card ≡ true → is_end card ≡ true → own_refusal count (Splice place removed (card ∷ [])) ≡ Some refusal.EndCard
unfolding own_refusal new_cards
end_card count place removed card e f g = rw (e, f, g) refl

-- and the last
pub passes : (count place removed : ℕ) (card : List ℕ) → is_splice_within count place removed ≡ true → is_text card ≡ true → is_end card ≡ false → own_refusal count (Splice place removed (card ∷ [])) ≡ None
unfolding own_refusal new_cards
passes count place removed card e f g = rw (e, f, g) refl

-- a card of 80 bytes that isn't END
pub inner_card : (card : List ℕ) → length card ≡ 80 → is_end card ≡ false → IsInnerCard card
inner_card card size e = record { size = size; not_end = λ ends. cc }

pub ruleset card_steps = (no_card, bad_text, end_card, passes, inner_card)

-- a list of one card
one_only : (card : List ℕ) → IsInnerCard card → All IsInnerCard (card ∷ [])
one_only card p zero d l = p
one_only card p (suc k) d l = absurd (omega arith)

-- one card comes that may stand before END
pub one_inner : (place removed : ℕ) (cards : List (List ℕ)) (card : List ℕ) → cards ≡ card ∷ [] → IsInnerCard card → All IsInnerCard (new_cards (Splice place removed cards))
unfolding new_cards
one_inner place removed cards card e p = subst (λ (cs : List (List ℕ)). All IsInnerCard cs) (sym e) (one_only card p)

-- no card comes where cards only go
pub none_come : (place removed : ℕ) (cards : List (List ℕ)) → cards ≡ [] → All IsInnerCard (new_cards (Splice place removed cards))
unfolding new_cards
none_come place removed cards e = subst (λ (cs : List (List ℕ)). All IsInnerCard cs) (sym e) (λ k d l. absurd (omega arith))

-- nor where one is moved
pub none_moves_in : (from to : ℕ) → All IsInnerCard (new_cards (Move from to))
unfolding new_cards
none_moves_in from to = λ k d l. absurd (omega arith)

-- a card that isn't there doesn't go
pub not_taken : (count place : ℕ) → is_splice_within count place 1 ≡ false → tested count (Splice place 1 []) ≡ Err refusal.NoCard
unfolding own_refusal
not_taken count place e = rw e refl

-- another does
pub taken : (count place : ℕ) → is_splice_within count place 1 ≡ true → tested count (Splice place 1 []) ≡ Ok (Splice place 1 [])
unfolding own_refusal new_cards
taken count place e = rw e refl

-- nor is it moved
pub not_moved : (count from to : ℕ) → is_within from count && is_within to count ≡ false → tested count (Move from to) ≡ Err refusal.NoCard
unfolding own_refusal
not_moved count from to e = rw e refl

-- another is
pub is_moved : (count from to : ℕ) → is_within from count && is_within to count ≡ true → tested count (Move from to) ≡ Ok (Move from to)
unfolding own_refusal new_cards
is_moved count from to e = rw e refl

pub ruleset take_steps = (not_taken, taken, not_moved, is_moved)
