-- Chains of cards: each place has at most one, and the run so far is no longer than it.
use Rattle.std.proofs.Common.{◌≡◌, ℕ, ◌≤◌, List, [], ◌∷◌, ◌++◌, length, map, take, Option, refl, sym, ◌∙◌, ap, subst, arith, inl, inr}
use Rattle.std.proofs.lemmas.List.Elements.{All-drop, All-head, All-tail}
use Rattle.fits_laws.proofs.OneValueLemmas.{one_card_value}
use Rattle.fits_value.specs.Value.{CardSays}
use Rattle.fits_value.specs.LongString.{EndsInAmpersand, cards_from}
use Rattle.fits_laws.specs.LongStrings.{Piece, SaysPiece, IsContinueCard, BeginsWithContinue, IsRun, IsChain, BeginsChain, LongSays, chain_text}
use Rattle.fits_value.specs.declared.value.Value.{Value}
use Rattle.fits_value.specs.declared.value.Value.TheVariants.{Str}

-- the cards of pieces
abbrev cards_of : List Piece → List (List ℕ)
cards_of pieces = map (λ piece. piece.card) pieces

-- a run without its first piece
run_tail : (cards : List (List ℕ)) (p : Piece) (front : List Piece) (last : Piece) (rest : List (List ℕ)) → IsRun cards (p ∷ front) last rest → IsRun (cards_of (front ++ last ∷ []) ++ rest) front last rest
run_tail cards p front last rest h = record {
  parts = refl;
  say = All-tail SaysPiece p (front ++ last ∷ []) h.say;
  are_open = All-tail (λ (x : Piece). EndsInAmpersand x.text) p front h.are_open;
  continued = All-drop (λ (x : Piece). IsContinueCard x.card) 1 (front ++ last ∷ []) h.continued;
}

-- a run of two cards or more goes on over a proper CONTINUE card
run_continues : (cards : List (List ℕ)) (p : Piece) (front : List Piece) (last : Piece) (rest : List (List ℕ)) → IsRun cards (p ∷ front) last rest → BeginsWithContinue (cards_of (front ++ last ∷ []) ++ rest)
run_continues cards p [] last rest h = (last.card, rest, refl, All-head (λ (piece : Piece). IsContinueCard piece.card) last [] h.continued)
run_continues cards p (q ∷ front) last rest h = (q.card, cards_of (front ++ last ∷ []) ++ rest, refl, All-head (λ (piece : Piece). IsContinueCard piece.card) q (front ++ last ∷ []) h.continued)

-- cards that begin with the same card go on alike
pub cons_parts : (a b : List ℕ) (s t : List (List ℕ)) → a ∷ s ≡ b ∷ t → (a ≡ b) × (s ≡ t)
cons_parts a b s t e = ((cc), (cc))

-- the text of a string
str_text : (a b : List ℕ) → Str a ≡ Str b → a ≡ b
str_text a b e = (cc)

-- pieces of one card say the same
same_piece : (p q : Piece) → p.card ≡ q.card → SaysPiece p → SaysPiece q → p ≡ q
same_piece p q e g h =
    let both = one_card_value q.card (Str p.text) (Str q.text) p.comment q.comment (subst (λ (x : List ℕ). CardSays x (Str p.text) p.comment) e g) h in
    let text : p.text ≡ q.text = str_text p.text q.text both.0 in
    let card = e in
    let comment = both.1 in
    ap (λ (x : List ℕ). let y : Piece = record { card = x; text = p.text; comment = p.comment } in y) card
    ∙ (ap (λ (x : List ℕ). let y : Piece = record { card = q.card; text = x; comment = p.comment } in y) text
    ∙ ap (λ (x : Option (List ℕ)). let y : Piece = record { card = q.card; text = q.text; comment = x } in y) comment)

-- a run is no longer than one that goes as far as it can
pub run_within : (cards : List (List ℕ)) (f g : List Piece) (l m : Piece) (r s : List (List ℕ)) → IsRun cards f l r → IsRun cards g m s → (EndsInAmpersand m.text → BeginsWithContinue s → ⊥) → length f ≤ length g
run_within cards [] g l m r s h k longest = omega arith
run_within cards (p ∷ f) [] l m r s h k longest =
    let e = cons_parts p.card m.card (cards_of (f ++ l ∷ []) ++ r) s (sym h.parts ∙ k.parts) in
    let same : p ≡ m = same_piece p m e.0 (All-head SaysPiece p (f ++ l ∷ []) h.say) (All-head SaysPiece m [] k.say) in
    let is_open : EndsInAmpersand m.text = subst (λ (x : Piece). EndsInAmpersand x.text) same (All-head (λ (x : Piece). EndsInAmpersand x.text) p f h.are_open) in
    absurd (longest is_open (subst (λ (x : List (List ℕ)). BeginsWithContinue x) e.1 (run_continues cards p f l r h)))
run_within cards (p ∷ f) (q ∷ g) l m r s h k longest =
    let e = cons_parts p.card q.card (cards_of (f ++ l ∷ []) ++ r) (cards_of (g ++ m ∷ []) ++ s) (sym h.parts ∙ k.parts) in
    let a = run_tail cards p f l r h in
    let b = subst (λ (x : List (List ℕ)). IsRun x g m s) (sym e.1) (run_tail cards q g m s k) in
    let shorter = run_within (cards_of (f ++ l ∷ []) ++ r) f g l m r s a b longest in
    omega arith

-- two runs that go as far as they can are one
pub one_run : (cards : List (List ℕ)) (f g : List Piece) (l m : Piece) (r s : List (List ℕ)) → IsRun cards f l r → IsRun cards g m s
    → (EndsInAmpersand l.text → BeginsWithContinue r → ⊥) → (EndsInAmpersand m.text → BeginsWithContinue s → ⊥) → (f ≡ g) × (l ≡ m)
one_run cards [] [] l m r s h k longest longest' =
    let e = cons_parts l.card m.card r s (sym h.parts ∙ k.parts) in
    (refl, same_piece l m e.0 (All-head SaysPiece l [] h.say) (All-head SaysPiece m [] k.say))
one_run cards [] (q ∷ g) l m r s h k longest longest' = let n = run_within cards (q ∷ g) [] m l s r k h longest in absurd (omega arith)
one_run cards (p ∷ f) [] l m r s h k longest longest' = let n = run_within cards (p ∷ f) [] l m r s h k longest' in absurd (omega arith)
one_run cards (p ∷ f) (q ∷ g) l m r s h k longest longest' =
    let e = cons_parts p.card q.card (cards_of (f ++ l ∷ []) ++ r) (cards_of (g ++ m ∷ []) ++ s) (sym h.parts ∙ k.parts) in
    let same : p ≡ q = same_piece p q e.0 (All-head SaysPiece p (f ++ l ∷ []) h.say) (All-head SaysPiece q (g ++ m ∷ []) k.say) in
    let a = run_tail cards p f l r h in
    let b = subst (λ (x : List (List ℕ)). IsRun x g m s) (sym e.1) (run_tail cards q g m s k) in
    let others = one_run (cards_of (f ++ l ∷ []) ++ r) f g l m r s a b longest longest' in
    (ap (λ (x : Piece). x ∷ f) same ∙ ap (λ (x : List Piece). q ∷ x) others.0, others.1)

-- at most one chain begins at a place
pub one_chain : (cards : List (List ℕ)) (place : ℕ) (f g : List Piece) (l m : Piece) → IsChain cards place f l → IsChain cards place g m → (f ≡ g) × (l ≡ m)
one_chain cards place f g l m h k = one_run (cards_from cards place) f g l m h.rest k.rest h.run k.run h.longest k.longest

-- a run begins with the card of its first piece, which says it
record Starts (cards : List (List ℕ)) : Type 0 where
  piece : Piece
  says : SaysPiece piece
  at : take 1 cards ≡ piece.card ∷ []

-- each run does
run_starts : (cards : List (List ℕ)) (f : List Piece) (l : Piece) (r : List (List ℕ)) → IsRun cards f l r → Starts cards
run_starts cards [] l r h = record { piece = l; says = All-head SaysPiece l [] h.say; at = ap (λ (x : List (List ℕ)). take 1 x) h.parts }
run_starts cards (p ∷ f) l r h = record { piece = p; says = All-head SaysPiece p (f ++ l ∷ []) h.say; at = ap (λ (x : List (List ℕ)). take 1 x) h.parts }

-- a chain begins at its place
pub chain_begins : (cards : List (List ℕ)) (place : ℕ) (f : List Piece) (l : Piece) → IsChain cards place f l → BeginsChain cards place
chain_begins cards place f l h =
    let s = run_starts (cards_from cards place) f l h.rest h.run in
    record { first = h.first; piece = s.piece; says = s.says; at = s.at }

-- equal lists of one card
same_card : (a b : List ℕ) (s : List (List ℕ)) → s ≡ a ∷ [] → s ≡ b ∷ [] → a ≡ b
same_card a b s e f = let g : ◌≡◌ {A = List (List ℕ)} (a ∷ []) (b ∷ []) = sym e ∙ f in (cc)

-- a place says at most one thing
pub one_long_value : (cards : List (List ℕ)) (place : ℕ) (v w : Value) (c d : Option (List ℕ)) → LongSays cards place v c → LongSays cards place w d → (v ≡ w) × (c ≡ d)
one_long_value cards place v w c d (inl g) (inl h) =
    let e = one_chain cards place g.front h.front g.last h.last g.is_chain h.is_chain in (
      g.value_is ∙ (ap (λ (x : List Piece). Str (chain_text x g.last)) e.0 ∙ (ap (λ (x : Piece). Str (chain_text h.front x)) e.1 ∙ sym h.value_is)),
      g.comment_is ∙ (ap (λ (x : Piece). x.comment) e.1 ∙ sym h.comment_is),
    )
one_long_value cards place v w c d (inl g) (inr h) = absurd (h.no_chain (chain_begins cards place g.front g.last g.is_chain))
one_long_value cards place v w c d (inr g) (inl h) = absurd (g.no_chain (chain_begins cards place h.front h.last h.is_chain))
one_long_value cards place v w c d (inr g) (inr h) =
    let e = same_card g.card h.card (take 1 (cards_from cards place)) g.at h.at in
    one_card_value h.card v w c d (subst (λ (x : List ℕ). CardSays x v c) e g.says) h.says
