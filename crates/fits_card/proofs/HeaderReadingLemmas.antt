-- Steps of reading a header block by block.
use Rattle.std.proofs.Common.{◌≡◌, ℕ, ◌+◌, ◌*◌, ◌%◌, ◌<◌, ◌≤◌, List, [], ◌∷◌, ◌++◌, length, take, drop, refl, ap, sym, ◌∙◌, append_assoc, subst, arith, All}
use Rattle.std.proofs.lemmas.List.{append-nil, length-append, length-drop, length-take-le, take_all, take-append-drop}
use Rattle.std.proofs.lemmas.List.Concat.{flat_map-append}
use Rattle.std.proofs.lemmas.List.Elements.{All-append, All-nil}
use Rattle.std.proofs.lemmas.List.FromFn.{length-map-range_with_len}
use Rattle.std.proofs.Math.Seq.{take-add}
use Rattle.fits_card.specs.Card.{IsEnd}
use Rattle.fits_card.specs.Header.{Header, AreFrontCards, IsHeader, IsInnerCard, HasNoHeader, header_bytes, joined_cards}
use Rattle.fits_card.specs.HeaderReading.{IsCut}
use Rattle.fits_card.specs.HeaderSteps.{HasNoEnd, IsEndPlace, piece, pieces}
use Rattle.fits_stream.specs.Gave.{FindsAll}
use Rattle.fits_stream.specs.Intake.{IsSpent, Supply, Takes}
use Rattle.fits_card.proofs.HeaderLemmas.{fill_length-by_cards, length-joined_cards}
use Rattle.fits_card.proofs.CutLemmas.{header-end_place, inner-pieces, joined-pieces, length-spread, pieces-more, piece-joined_cards, length-piece}
use Rattle.fits_stream.proofs.GaveLemmas.{finds_all_spent}
use Rattle.fits_stream.proofs.SightLemmas.{takes_and_holds, takes_more, takes_none}

-- one more card of a block, after others
pub pushed : (start cards next : List (List ℕ)) (card : List ℕ) (f : List ℕ) (k : ℕ) → cards ≡ start ++ pieces f k → next ≡ cards ++ card ∷ [] → card ≡ piece f k → next ≡ start ++ pieces f (k + 1)
pushed start cards next card f k e p q =
    p ∙ ap (λ t. t ++ card ∷ []) e ∙ append_assoc start (pieces f k) (card ∷ []) ∙ ap (λ t. start ++ t) (pieces-more f k (pieces f k) card refl q)

-- no card is pushed yet
pub pushed_none : (start : List (List ℕ)) (f : List ℕ) → start ≡ start ++ pieces f 0
pushed_none start f = sym (append-nil start)

pub ruleset push_steps = (pushed_none, pushed)

-- cards, END and the fill of a last block are a header
pub ended_whole : (cards : List (List ℕ)) (block end fill : List ℕ) (k n : ℕ) → length block ≡ 2880 → IsEndPlace block k → All IsInnerCard cards → n ≡ length cards → n % 36 ≡ k → end ≡ piece block k → fill ≡ drop (80 * (k + 1)) block
    → IsHeader (record { cards = cards; end = end; fill = fill })
ended_whole cards block end fill k n size place inner count full last is = record {
  cards = inner;
  end_size = ap length last ∙ length-piece block k place.within;
  ends = rw last place.ends;
  fill_size = ap length is ∙ omega (arith, length-drop (80 * (k + 1)) block, size, place.within, fill_length-by_cards (length cards), count, full);
}

-- a block is the cards before its END, END and the rest
pub ended_block : (block fill : List ℕ) (k : ℕ) → fill ≡ drop (80 * (k + 1)) block → joined_cards (pieces block k) ++ (piece block k ++ fill) ≡ block
ended_block block fill k is =
    let size : 80 * (k + 1) ≡ 80 * k + 80 = omega arith in
    sym (append_assoc (joined_cards (pieces block k)) (piece block k) fill)
    ∙ ap (λ t. (t ++ piece block k) ++ fill) (joined-pieces block k)
    ∙ ap (λ t. t ++ fill) (sym (take-add (80 * k) 80 block) ∙ ap (λ m. take m block) (sym size))
    ∙ ap (λ t. take (80 * (k + 1)) block ++ t) is ∙ take-append-drop (80 * (k + 1)) block

pub ruleset ending_steps = (ended_whole, ended_block)

-- no block is read yet
pub blocks_none : (cards : List (List ℕ)) (a : Supply) → cards ≡ [] → Takes a a (joined_cards cards)
blocks_none cards a none = rw none (takes_none a)

-- a whole block without END is 36 cards
block_cards : (block : List ℕ) (n : ℕ) → length block ≡ 80 * n → joined_cards (pieces block n) ≡ block
block_cards block n size = joined-pieces block n ∙ take_all (80 * n) block (omega (arith, size))

-- inner cards stay so when those of a block without END are pushed
pub inner_more : (cards new : List (List ℕ)) (block : List ℕ) (n : ℕ) → All IsInnerCard cards → 80 * n ≤ length block → HasNoEnd block → new ≡ cards ++ pieces block n → All IsInnerCard new
inner_more cards new block n inner size none is =
    rw is (All-append IsInnerCard cards (pieces block n) inner (inner-pieces block n size (λ j l. none j (omega (arith, l, size)))))

-- and so many more cards are there
pub length-more : (cards new : List (List ℕ)) (block : List ℕ) (n : ℕ) → new ≡ cards ++ pieces block n → length new ≡ length cards + n
length-more cards new block n is = ap length is ∙ length-append cards (pieces block n) ∙ ap (λ k. length cards + k) (length-map-range_with_len (piece block) 0 n)

-- the next block is held, and its cards are taken
pub blocks_more : (cards new : List (List ℕ)) (a b c d : Supply) (n : ℕ) → Takes a b (joined_cards cards) → Takes b c [] → Takes c d (take (80 * n) c.ahead) → 80 * n ≤ length c.ahead → new ≡ cards ++ pieces (take (80 * n) c.ahead) n → Takes a d (joined_cards new)
blocks_more cards new a b c d n p q r size is =
    let block : List ℕ = take (80 * n) c.ahead in
    let all : joined_cards cards ++ block ≡ joined_cards new =
    sym (ap joined_cards is ∙ flat_map-append (λ card. card) cards (pieces block n) ∙ ap (λ t. joined_cards cards ++ t) (block_cards block n (length-take-le (80 * n) c.ahead size))) in
    subst (Takes a d) all (takes_more a c d (joined_cards cards) block (takes_and_holds a b c (joined_cards cards) p q) r)

-- cards before the END of a block end no header
pub inner_ended : (cards new : List (List ℕ)) (block : List ℕ) (n : ℕ) → All IsInnerCard cards → IsEndPlace block n → new ≡ cards ++ pieces block n → All IsInnerCard new
inner_ended cards new block n inner place is = rw is (All-append IsInnerCard cards (pieces block n) inner (inner-pieces block n (omega (arith, place.within)) place.first))

-- the last block, from its END on
pub blocks_ended : (cards new : List (List ℕ)) (a b c d : Supply) (block : List ℕ) (n : ℕ) (header : Header) → Takes a b (joined_cards cards) → Takes b c [] → Takes c d block → new ≡ cards ++ pieces block n → header.cards ≡ new
    → joined_cards (pieces block n) ++ (header.end ++ header.fill) ≡ block → Takes a d (header_bytes header)
blocks_ended cards new a b c d block n header p q r is same ended =
    let all : joined_cards cards ++ block ≡ header_bytes header =
    ap (λ t. joined_cards cards ++ t) (sym ended)
    ∙ sym (append_assoc (joined_cards cards) (joined_cards (pieces block n)) (header.end ++ header.fill))
    ∙ ap (λ t. t ++ (header.end ++ header.fill)) (sym (flat_map-append (λ card. card) cards (pieces block n)) ∙ ap joined_cards (sym (same ∙ is))) in
    subst (Takes a d) all (takes_more a c d (joined_cards cards) block (takes_and_holds a b c (joined_cards cards) p q) r)

-- cards of whole blocks, and then less than a block, are no header
no_header_short : (cards : List (List ℕ)) (block : List ℕ) → All IsInnerCard cards → length cards % 36 ≡ 0 → length block < 2880 → HasNoHeader (joined_cards cards ++ block)
no_header_short cards block inner full short header rest cut =
    let n : ℕ = length header.cards in
    let size : length (joined_cards cards ++ block) ≡ 80 * length cards + length block = length-append (joined_cards cards) block ∙ ap (λ k. k + length block) (length-joined_cards cards inner) in
    let before : n < length cards = omega (arith, size, full, short, length-spread (joined_cards cards ++ block) header rest cut, fill_length-by_cards n) in
    let place : IsEndPlace (joined_cards cards ++ block) n = header-end_place (joined_cards cards ++ block) header rest cut in
    (inner n [] before).not_end (subst (λ (card : List ℕ). IsEnd card) (piece-joined_cards cards block n inner before) place.ends)

-- no cards are all inner ones
pub no_cards : (cards : List (List ℕ)) → cards ≡ [] → All IsInnerCard cards
no_cards cards none = rw none (All-nil IsInnerCard)

pub ruleset header_steps = (blocks_none, no_cards, inner_more, length-more, inner_ended)

-- the source ended, or the limit came, within a block: these cards stand before END
pub stops_cut : (cards all : List (List ℕ)) (block : List ℕ) (a b c : Supply) → Takes a b (joined_cards cards) → Takes b c [] → IsSpent c → All IsInnerCard cards → length cards % 36 ≡ 0 → length c.ahead < 2880 → block ≡ c.ahead
    → AreFrontCards (joined_cards cards ++ block) all → FindsAll a c (IsCut all)
stops_cut cards all block a b c p q spent inner full short same front =
    finds_all_spent (IsCut all) a c (joined_cards cards) (takes_and_holds a b c (joined_cards cards) p q) spent (record {
      none = no_header_short cards c.ahead inner full short;
      front = subst (λ t. AreFrontCards (joined_cards cards ++ t) all) same front;
    })
