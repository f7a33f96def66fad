-- Steps of `emit`: cards, then END, then the fill.
use Rattle.std.proofs.Common.{◌≡◌, ℕ, ◌+◌, ◌<◌, ◌≤◌, List, [], ◌∷◌, ◌++◌, length, take, drop, get_or, ap, sym, ◌∙◌}
use Rattle.std.proofs.lemmas.List.{append-nil, take_all, take_more, drop_more, take-append-drop}
use Rattle.std.proofs.lemmas.List.Concat.{flat_map-append}
use Rattle.fits_stream.specs.Stream.{SinkState, Prints, PrintsFront}
use Rattle.fits_card.specs.Header.{joined_cards}
use Rattle.fits_stream.proofs.StreamLemmas.{Prints-more, Prints-none, PrintsFront-longer, PrintsFront-more}

-- one more card
pub joined-more : (cards : List (List ℕ)) (i : ℕ) (card : List ℕ) → i < length cards → card ≡ get_or cards i card → joined_cards (take (i + 1) cards) ≡ joined_cards (take i cards) ++ card
joined-more cards i card h e =
    ap joined_cards (take_more cards i card h) ∙ flat_map-append (λ c. c) (take i cards) (get_or cards i card ∷ []) ∙ ap (λ t. joined_cards (take i cards) ++ t) (append-nil (get_or cards i card) ∙ sym e)

-- the cards before i, card i, and those after it
pub joined-at : (cards : List (List ℕ)) (i : ℕ) (card : List ℕ) → i < length cards → card ≡ get_or cards i card → joined_cards cards ≡ joined_cards (take i cards) ++ (card ++ joined_cards (drop (i + 1) cards))
joined-at cards i card h e =
    ap joined_cards (sym (take-append-drop i cards)) ∙ flat_map-append (λ c. c) (take i cards) (drop i cards) ∙ ap (λ t. joined_cards (take i cards) ++ t) (ap joined_cards (drop_more cards i card h) ∙ ap (λ t. t ++ joined_cards (drop (i + 1) cards)) (sym e))

-- no card is written yet
pub Prints-no_cards : (a : SinkState) (cards : List (List ℕ)) → Prints (joined_cards (take 0 cards)) a a
Prints-no_cards a cards = Prints-none a

-- one more card is written
pub Prints-card : (a b c : SinkState) (cards : List (List ℕ)) (i : ℕ) (card : List ℕ) → i < length cards → card ≡ get_or cards i card → Prints (joined_cards (take i cards)) a b → Prints card b c → Prints (joined_cards (take (i + 1) cards)) a c
Prints-card a b c cards i card h e p q = rw (joined-more cards i card h e) (Prints-more a b c _ _ p q)

-- all are
pub Prints-cards : (a b : SinkState) (cards : List (List ℕ)) (i : ℕ) → length cards ≤ i → Prints (joined_cards (take i cards)) a b → Prints (joined_cards cards) a b
Prints-cards a b cards i h p = rw (take_all i cards h) at p

-- a prefix of one more card is written
pub PrintsFront-card : (a b c : SinkState) (cards : List (List ℕ)) (i : ℕ) (card : List ℕ) → i < length cards → card ≡ get_or cards i card → Prints (joined_cards (take i cards)) a b → PrintsFront card b c → PrintsFront (joined_cards cards) a c
PrintsFront-card a b c cards i card h e p q =
    rw (joined-at cards i card h e) (PrintsFront-more a b c _ (card ++ joined_cards (drop (i + 1) cards)) p (PrintsFront-longer b c card (joined_cards (drop (i + 1) cards)) q))

pub ruleset card_steps = (Prints-no_cards, Prints-card, Prints-cards, PrintsFront-card)

-- cards, END and fill are written
pub Prints-whole : (a b c d : SinkState) (cards end fill : List ℕ) → Prints cards a b → Prints end b c → Prints fill c d → Prints (cards ++ (end ++ fill)) a d
Prints-whole a b c d cards end fill p q r = Prints-more a b d cards (end ++ fill) p (Prints-more b c d end fill q r)

-- cards and a prefix of END
pub PrintsFront-end : (a b c : SinkState) (cards end fill : List ℕ) → Prints cards a b → PrintsFront end b c → PrintsFront (cards ++ (end ++ fill)) a c
PrintsFront-end a b c cards end fill p q = PrintsFront-more a b c cards (end ++ fill) p (PrintsFront-longer b c end fill q)

-- cards, END and a prefix of the fill
pub PrintsFront-fill : (a b c d : SinkState) (cards end fill : List ℕ) → Prints cards a b → Prints end b c → PrintsFront fill c d → PrintsFront (cards ++ (end ++ fill)) a d
PrintsFront-fill a b c d cards end fill p q r = PrintsFront-more a b d cards (end ++ fill) p (PrintsFront-more b c d end fill q r)

pub ruleset emit_steps = (PrintsFront-longer, Prints-whole, PrintsFront-end, PrintsFront-fill)
