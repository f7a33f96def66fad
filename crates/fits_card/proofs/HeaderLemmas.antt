-- How long headers are, and what keeps them headers.
use Rattle.std.proofs.Common.{◌≡◌, ℕ, ◌+◌, ◌-◌, ◌*◌, ◌%◌, List, [], ◌∷◌, ◌++◌, length, take, drop, replicate, refl, ap, ◌∙◌, arith, All, suc}
use Rattle.std.proofs.lemmas.List.{length-append, length-replicate}
use Rattle.std.proofs.lemmas.List.Elements.{All-append, All-take, All-drop}
use Rattle.std.specs.Prelude.{codes}
use Rattle.fits_card.specs.Card.{IsEnd, card_of_text, is_end}
use Rattle.fits_card.specs.Change.{spliced, moved, only_item}
use Rattle.fits_card.specs.Header.{Header, IsHeader, IsInnerCard, joined_cards, header_bytes, fill_length}

-- the fill in cards: a block holds 36, and END is one
pub fill_length-by_cards : (n : ℕ) → fill_length n ≡ 80 * (35 - n % 36)
unfolding fill_length
fill_length-by_cards n = omega arith

pub ruleset fill_steps = (fill_length-by_cards)

-- cards of 80 bytes each
pub length-joined_cards : (cards : List (List ℕ)) → All IsInnerCard cards → length (joined_cards cards) ≡ 80 * length cards
length-joined_cards [] h = refl
length-joined_cards (card ∷ cards) h =
    omega (arith, length-append card (joined_cards cards), (h 0 card (omega arith)).size, length-joined_cards cards (λ k d l. h (suc k) d (omega arith)))

-- cards, END and fill
pub length-header_bytes : (header : Header) → IsHeader header → length (header_bytes header) ≡ 80 * (length header.cards + 1) + length header.fill
length-header_bytes header whole =
    omega (arith, length-append (joined_cards header.cards) (header.end ++ header.fill), length-append header.end header.fill, length-joined_cards header.cards whole.cards, whole.end_size)

-- cards of a header among others, and new ones that don't end a header
pub inner-spliced : (cards new : List (List ℕ)) (place removed : ℕ) → All IsInnerCard cards → All IsInnerCard new → All IsInnerCard (spliced cards place removed new)
inner-spliced cards new place removed h g =
    let rest : All IsInnerCard (new ++ drop (place - 1 + removed) cards) = All-append IsInnerCard new (drop (place - 1 + removed) cards) g (All-drop IsInnerCard (place - 1 + removed) cards h) in
    All-append IsInnerCard (take (place - 1) cards) (new ++ drop (place - 1 + removed) cards) (All-take IsInnerCard (place - 1) cards h) rest

-- the same after a move
pub inner-moved : (cards : List (List ℕ)) (from to : ℕ) → All IsInnerCard cards → All IsInnerCard (moved cards from to)
inner-moved cards from to h =
    inner-spliced (spliced cards from 1 []) (only_item cards from) to 0 (inner-spliced cards [] from 1 h (λ k d l. absurd (omega (arith, l))))
    (All-take IsInnerCard 1 (drop (from - 1) cards) (All-drop IsInnerCard (from - 1) cards h))

-- a header with other cards that don't end it is one
pub whole-with_cards : (header : Header) (cards : List (List ℕ)) (fill : List ℕ) (n : ℕ) → IsHeader header → All IsInnerCard cards → n ≡ length cards → fill ≡ replicate (fill_length n) 32 → IsHeader (record { cards = cards; end = header.end; fill = fill })
whole-with_cards header cards fill n whole inner count is = record {
  cards = inner;
  end_size = whole.end_size;
  ends = whole.ends;
  fill_size = ap length is ∙ (length-replicate (fill_length n) 32 ∙ ap fill_length count);
}

-- so a splice leaves a header
pub whole-spliced : (header : Header) (cards new : List (List ℕ)) (place removed n : ℕ) (fill : List ℕ) → IsHeader header → cards ≡ spliced header.cards place removed new → All (λ card. length card ≡ 80) new → All (λ card. IsEnd card → ⊥) new → n ≡ length cards → fill ≡ replicate (fill_length n) 32
    → IsHeader (record { cards = cards; end = header.end; fill = fill })
whole-spliced header cards new place removed n fill whole are sizes no_end count is =
    let inner : All IsInnerCard new = λ k d l. record { size = sizes k d l; not_end = no_end k d l } in
    whole-with_cards header cards fill n whole (rw are (inner-spliced header.cards new place removed whole.cards inner)) count is

-- and so does a move
pub whole-moved : (header : Header) (cards : List (List ℕ)) (from to n : ℕ) (fill : List ℕ) → IsHeader header → cards ≡ moved header.cards from to → n ≡ length cards → fill ≡ replicate (fill_length n) 32
    → IsHeader (record { cards = cards; end = header.end; fill = fill })
whole-moved header cards from to n fill whole are count is =
    whole-with_cards header cards fill n whole (rw are (inner-moved header.cards from to whole.cards)) count is

-- END without more has the length of a card
end_length : length (card_of_text (codes "END")) ≡ 80
end_length = refl

-- and ends a header
end_ends : IsEnd (card_of_text (codes "END"))
unfolding is_end
end_ends = refl

-- cards that don't end a header, END and spaces are one
pub new_whole : (cards : List (List ℕ)) (end fill : List ℕ) (n : ℕ) → All IsInnerCard cards → end ≡ card_of_text (codes "END") → n ≡ length cards → fill ≡ replicate (fill_length n) 32 → IsHeader (record { cards = cards; end = end; fill = fill })
new_whole cards end fill n inner is count spaces = record {
  cards = inner;
  end_size = ap length is ∙ end_length;
  ends = rw is end_ends;
  fill_size = ap length spaces ∙ (length-replicate {A = ℕ} (fill_length n) 32 ∙ ap fill_length count);
}
