-- Where the header cut falls, and that it can fall nowhere else.
use Rattle.std.proofs.Common.{◌≡◌, ◌⊎◌, ℕ, ◌+◌, ◌*◌, ◌/◌, ◌<◌, ◌≤◌, Bool, true, false, List, [], ◌∷◌, ◌++◌, length, take, drop, get_or, refl, ap, sym, ◌∙◌, append_assoc, inl, inr, arith, All, subst, zero, suc}
use Rattle.std.proofs.lemmas.Bool.{cases_lt}
use Rattle.std.proofs.lemmas.List.{append-nil, length-append, length-take-le, length-drop, take_at, drop_at, get_or_default, take-append-drop}
use Rattle.std.proofs.lemmas.List.Concat.{flat_map-append}
use Rattle.std.proofs.lemmas.List.Elements.{All-take}
use Rattle.std.proofs.lemmas.List.FromFn.{length-map-range_with_len, get_or-map-range_with_len, map-range_with_len_more, fill_by_all}
use Rattle.std.proofs.Math.Seq.{take-add}
use Rattle.fits_card.specs.Card.{IsEnd, is_end}
use Rattle.fits_card.specs.Header.{Header, IsHeader, IsInnerCard, IsHeaderOf, HasNoHeader, joined_cards, header_bytes, header_length, fill_length}
use Rattle.fits_card.specs.HeaderSteps.{HasHeader, HasNoEnd, IsEndPlace, header_at, piece, pieces}
use Rattle.fits_stream.specs.Gave.{FindsAll}
use Rattle.fits_stream.specs.Intake.{Supply, Takes}
use Rattle.fits_card.proofs.EmitLemmas.{joined-at}
use Rattle.fits_card.proofs.HeaderLemmas.{length-joined_cards, length-header_bytes}
use Rattle.fits_stream.proofs.SightLemmas.{takes_ahead}

-- one more piece
pub pieces-more : (f : List ℕ) (k : ℕ) (cards : List (List ℕ)) (card : List ℕ) → cards ≡ pieces f k → card ≡ piece f k → cards ++ card ∷ [] ≡ pieces f (k + 1)
pieces-more f k cards card c e = rw (c, e) (sym (map-range_with_len_more (piece f) 0 k k (omega arith)))

-- the first pieces, one after another
pub joined-pieces : (f : List ℕ) (k : ℕ) → joined_cards (pieces f k) ≡ take (80 * k) f
joined-pieces f zero = refl
joined-pieces f (suc k) =
    let more : pieces f (k + 1) ≡ pieces f k ++ piece f k ∷ [] = map-range_with_len_more (piece f) 0 k k (omega arith) in
    let next : suc k ≡ k + 1 = omega arith in
    let size : 80 * suc k ≡ 80 * k + 80 = omega arith in
    ap (λ n. joined_cards (pieces f n)) next ∙ ap joined_cards more
    ∙ flat_map-append (λ c. c) (pieces f k) (piece f k ∷ [])
    ∙ ap (λ t. joined_cards (pieces f k) ++ t) (append-nil (piece f k))
    ∙ ap (λ t. t ++ piece f k) (joined-pieces f k)
    ∙ sym (take-add (80 * k) 80 f) ∙ ap (λ n. take n f) (sym size)

-- pieces, the next piece and what follows it
header_bytes-pieces : (f : List ℕ) (k n : ℕ) → joined_cards (pieces f k) ++ (piece f k ++ take n (drop (80 * (k + 1)) f)) ≡ take (80 * (k + 1) + n) f
header_bytes-pieces f k n =
    let size : 80 * (k + 1) ≡ 80 * k + 80 = omega arith in
    let behind : List ℕ = take n (drop (80 * (k + 1)) f) in
    sym (append_assoc (joined_cards (pieces f k)) (piece f k) behind)
    ∙ ap (λ t. t ++ piece f k ++ behind) (joined-pieces f k)
    ∙ ap (λ t. t ++ behind) (sym (take-add (80 * k) 80 f) ∙ ap (λ m. take m f) (sym size))
    ∙ sym (take-add (80 * (k + 1)) n f)

-- each has 80 bytes
pub length-piece : (f : List ℕ) (k : ℕ) → 80 * (k + 1) ≤ length f → length (piece f k) ≡ 80
length-piece f k le =
    let more : 80 ≤ length (drop (80 * k) f) = rw (length-drop (80 * k) f) (omega arith) in
    length-take-le 80 (drop (80 * k) f) more

-- pieces before the first END are cards of a header
pub inner-pieces : (f : List ℕ) (n : ℕ) → 80 * n ≤ length f → ((j : ℕ) → j < n → IsEnd (piece f j) → ⊥) → All IsInnerCard (pieces f n)
inner-pieces f n le first k d h =
    let l : k < n = rw (length-map-range_with_len (piece f) 0 n) at h in
    rw (get_or-map-range_with_len (piece f) 0 n k k d l (omega arith)) (record { size = length-piece f k (omega arith); not_end = first k l })

-- a header stands where the first END is, if its block is whole
pub header_there : (f : List ℕ) (n : ℕ) → IsEndPlace f n → fill_length n ≤ length (drop (80 * (n + 1)) f) → IsHeaderOf f (header_at f n) (drop (header_length n) f)
header_there f n at_end le = record {
  whole = record {
    cards = inner-pieces f n (omega (arith, at_end.within)) at_end.first;
    end_size = length-piece f n at_end.within;
    ends = at_end.ends;
    fill_size = length-take-le (fill_length n) (drop (80 * (n + 1)) f) le ∙ ap fill_length (sym (length-map-range_with_len (piece f) 0 n));
  };
  joined = sym (take-append-drop (header_length n) f) ∙ ap (λ t. t ++ drop (header_length n) f) (sym (header_bytes-pieces f n (fill_length n)));
}

-- what follows cards of a header
pub drop-cards : (cards : List (List ℕ)) (rest : List ℕ) → All IsInnerCard cards → drop (80 * length cards) (joined_cards cards ++ rest) ≡ rest
drop-cards cards rest h = drop_at (joined_cards cards) rest (80 * length cards) (length-joined_cards cards h)

-- piece k of cards that are joined is card k
pub piece-joined_cards : (cards : List (List ℕ)) (rest : List ℕ) (k : ℕ) → All IsInnerCard cards → k < length cards → piece (joined_cards cards ++ rest) k ≡ get_or cards k []
piece-joined_cards cards rest k h l =
    let card : List ℕ = get_or cards k [] in
    let a : List ℕ = joined_cards (take k cards) in
    let b : List ℕ = joined_cards (drop (k + 1) cards) ++ rest in
    let front : length a ≡ 80 * k = length-joined_cards (take k cards) (All-take IsInnerCard k cards h) ∙ ap (λ n. 80 * n) (length-take-le k cards (omega arith)) in
    let same : joined_cards cards ++ rest ≡ a ++ (card ++ b) =
    ap (λ t. t ++ rest) (joined-at cards k card l (get_or_default cards k [] card l))
    ∙ append_assoc a (card ++ joined_cards (drop (k + 1) cards)) rest ∙ ap (λ t. a ++ t) (append_assoc card (joined_cards (drop (k + 1) cards)) rest) in
    ap (λ t. take 80 (drop (80 * k) t)) same
    ∙ ap (λ t. take 80 t) (drop_at a (card ++ b) (80 * k) front)
    ∙ take_at card b 80 ((h k [] l).size)

-- the bytes of a header and a rest, with the parts side by side
header-spread : (f : List ℕ) (h : Header) (rest : List ℕ) → IsHeaderOf f h rest → f ≡ joined_cards h.cards ++ (h.end ++ (h.fill ++ rest))
header-spread f h rest cut =
    cut.joined ∙ append_assoc (joined_cards h.cards) (h.end ++ h.fill) rest ∙ ap (λ t. joined_cards h.cards ++ t) (append_assoc h.end h.fill rest)

-- how many bytes those are
pub length-spread : (f : List ℕ) (h : Header) (rest : List ℕ) → IsHeaderOf f h rest → length f ≡ 80 * (length h.cards + 1) + fill_length (length h.cards) + length rest
length-spread f h rest cut =
    omega (arith, ap length cut.joined, length-append (header_bytes h) rest, length-header_bytes h cut.whole, cut.whole.fill_size)

-- its cards are the first pieces
header-piece : (f : List ℕ) (h : Header) (rest : List ℕ) → IsHeaderOf f h rest → (k : ℕ) → k < length h.cards → piece f k ≡ get_or h.cards k []
header-piece f h rest cut k l = ap (λ t. piece t k) (header-spread f h rest cut) ∙ piece-joined_cards h.cards (h.end ++ (h.fill ++ rest)) k cut.whole.cards l

-- END is the piece after them
header-end : (f : List ℕ) (h : Header) (rest : List ℕ) → IsHeaderOf f h rest → piece f (length h.cards) ≡ h.end
header-end f h rest cut =
    ap (λ t. piece t (length h.cards)) (header-spread f h rest cut)
    ∙ ap (λ t. take 80 t) (drop-cards h.cards (h.end ++ (h.fill ++ rest)) cut.whole.cards)
    ∙ take_at h.end (h.fill ++ rest) 80 cut.whole.end_size

-- so the first END stands there
pub header-end_place : (f : List ℕ) (h : Header) (rest : List ℕ) → IsHeaderOf f h rest → IsEndPlace f (length h.cards)
header-end_place f h rest cut = record {
  within = omega (arith, length-spread f h rest cut);
  ends = rw (header-end f h rest cut) cut.whole.ends;
  first = λ j l ends. (cut.whole.cards j [] l).not_end (rw (header-piece f h rest cut j l) at ends);
}

-- the first END has one place
pub one_end_place : (f : List ℕ) (m n : ℕ) → IsEndPlace f m → IsEndPlace f n → m ≡ n
one_end_place f m n p q =
    elim (cases_lt m n) [ inl l ↦ absurd (q.first m l p.ends) | inr le ↦ elim (cases_lt n m) [ inl l ↦ absurd (p.first n l q.ends) | inr le' ↦ omega (arith, le, le') ] ]

-- without an END there is no header
pub no_end_no_header : (f : List ℕ) → HasNoEnd f → HasNoHeader f
no_end_no_header f none h rest cut =
    let place : IsEndPlace f (length h.cards) = header-end_place f h rest cut in
    none (length h.cards) place.within place.ends

-- nor where its block isn't whole
pub short_no_header : (f : List ℕ) (n : ℕ) → IsEndPlace f n → length (drop (80 * (n + 1)) f) < fill_length n → HasNoHeader f
short_no_header f n at_end short h rest cut =
    let same : n ≡ length h.cards = one_end_place f n (length h.cards) at_end (header-end_place f h rest cut) in
    omega (arith, short, length-drop (80 * (n + 1)) f, length-spread f h rest cut, same, ap fill_length same)

-- headers of equal parts are equal
same_header : (cards cards' : List (List ℕ)) (end end' fill fill' : List ℕ) → cards ≡ cards' → end ≡ end' → fill ≡ fill'
    → (let h : Header = record { cards = cards; end = end; fill = fill } in h) ≡ (let h : Header = record { cards = cards'; end = end'; fill = fill' } in h)
same_header cards cards' end end' fill fill' c e p = rw (c, e, p) refl

-- what follows END
drop-end : (f : List ℕ) (h : Header) (rest : List ℕ) → IsHeaderOf f h rest → drop (80 * (length h.cards + 1)) f ≡ h.fill ++ rest
drop-end f h rest cut =
    let front : List ℕ = joined_cards h.cards ++ h.end in
    let size : length front ≡ 80 * (length h.cards + 1) = omega (arith, length-append (joined_cards h.cards) h.end, length-joined_cards h.cards cut.whole.cards, cut.whole.end_size) in
    ap (λ t. drop (80 * (length h.cards + 1)) t) (header-spread f h rest cut ∙ sym (append_assoc (joined_cards h.cards) h.end (h.fill ++ rest)))
    ∙ drop_at front (h.fill ++ rest) (80 * (length h.cards + 1)) size

-- a header at the front is the one of so many cards
header_is : (f : List ℕ) (h : Header) (rest : List ℕ) → IsHeaderOf f h rest → h ≡ header_at f (length h.cards)
header_is f h rest cut =
    same_header h.cards (pieces f (length h.cards)) h.end (piece f (length h.cards)) h.fill (take (fill_length (length h.cards)) (drop (80 * (length h.cards + 1)) f))
    (fill_by_all (piece f) h.cards (length h.cards) [] refl (λ k l. sym (header-piece f h rest cut k l)))
    (sym (header-end f h rest cut))
    (sym (ap (λ t. take (fill_length (length h.cards)) t) (drop-end f h rest cut) ∙ take_at h.fill rest (fill_length (length h.cards)) cut.whole.fill_size))

-- and what follows it is the rest
rest_is : (f : List ℕ) (h : Header) (rest : List ℕ) → IsHeaderOf f h rest → rest ≡ drop (header_length (length h.cards)) f
rest_is f h rest cut =
    let n : ℕ = header_length (length h.cards) in
    let size : length (header_bytes h) ≡ n = omega (arith, length-header_bytes h cut.whole, cut.whole.fill_size) in
    sym (ap (λ t. drop n t) cut.joined ∙ drop_at (header_bytes h) rest n size)

-- bytes begin with one header at most
pub one_header : (f : List ℕ) (h i : Header) (s t : List ℕ) → IsHeaderOf f h s → IsHeaderOf f i t → (h ≡ i) × (s ≡ t)
one_header f h i s t p q =
    let same : length h.cards ≡ length i.cards = one_end_place f (length h.cards) (length i.cards) (header-end_place f h s p) (header-end_place f i t q) in (
      header_is f h s p ∙ ap (header_at f) same ∙ sym (header_is f i t q),
      rest_is f h s p ∙ ap (λ n. drop (header_length n) f) same ∙ sym (rest_is f i t q),
    )

-- the first of so many pieces that ends a header, or none of them does
abbrev EndAmong : List ℕ → ℕ → Type 0
EndAmong f n = ((k : ℕ) × IsEndPlace f k) ⊎ ((j : ℕ) → j < n → IsEnd (piece f j) → ⊥)

-- one piece more
end_more : (f : List ℕ) (n : ℕ) (b : Bool) → 80 * (n + 1) ≤ length f → ((j : ℕ) → j < n → IsEnd (piece f j) → ⊥) → is_end (piece f n) ≡ b → EndAmong f (suc n)
end_more f n true le none e = inl (n, record { within = le; ends = e; first = none })
end_more f n false le none e = inr (λ j l ends. elim (cases_lt j n) [ inl below ↦ none j below ends | inr last ↦ let same : j ≡ n = omega arith in let no : false ≡ true = sym e ∙ ap (λ i. is_end (piece f i)) (sym same) ∙ ends in cc ])

-- one of the first pieces ends a header, or none does
end_among : (f : List ℕ) (n : ℕ) → 80 * n ≤ length f → EndAmong f n
end_among f zero le = inr (λ j l ends. absurd (omega arith))
end_among f (suc n) le = elim (end_among f n (omega arith)) [ inl p ↦ inl p | inr none ↦ end_more f n (is_end (piece f n)) (omega arith) none refl ]

-- where the first END is, or that there is none
end_or_none : (f : List ℕ) → ((k : ℕ) × IsEndPlace f k) ⊎ HasNoEnd f
end_or_none f = elim (end_among f (length f / 80) (omega arith)) [ inl p ↦ inl p | inr none ↦ inr (λ j le. none j (omega arith)) ]

-- bytes begin with a header, or with none
pub header_or_none : (f : List ℕ) → ((header : Header) × (rest : List ℕ) × IsHeaderOf f header rest) ⊎ HasNoHeader f
header_or_none f =
    elim (end_or_none f) [
      | inl place ↦ elim (cases_lt (length (drop (80 * (place.0 + 1)) f)) (fill_length place.0)) [
        | inl short ↦ inr (short_no_header f place.0 place.1 short)
        | inr le ↦ inl (header_at f place.0, drop (header_length place.0) f, header_there f place.0 place.1 le)
      ]
      | inr none ↦ inr (no_end_no_header f none)
    ]

-- the length of the header at the front
pub length-header_at : (f : List ℕ) (n : ℕ) (rest : List ℕ) → IsHeaderOf f (header_at f n) rest → length (header_bytes (header_at f n)) ≡ header_length n
length-header_at f n rest cut =
    omega (arith, length-header_bytes (header_at f n) cut.whole, cut.whole.fill_size, length-map-range_with_len (piece f) 0 n, ap fill_length (length-map-range_with_len (piece f) 0 n))

-- a header stands where the first END is, if its block is whole
pub header_begins : (f : List ℕ) (n fill len : ℕ) → IsEndPlace f n → fill ≡ fill_length n → len ≡ 80 * (n + 1) + fill → len ≤ length f → HasHeader f len
header_begins f n fill len at_end is all le =
    let same : len ≡ header_length n = omega (arith, all, is) in
    let there : IsHeaderOf f (header_at f n) (drop (header_length n) f) = header_there f n at_end (omega (arith, length-drop (80 * (n + 1)) f, is, all, le)) in
    rw same (record { header = header_at f n; cut = there; size = sym (length-header_at f n (drop (header_length n) f) there); within = omega (arith, le, same) })

-- none does where it isn't
pub header_broken : (f : List ℕ) (n fill len : ℕ) → IsEndPlace f n → fill ≡ fill_length n → len ≡ 80 * (n + 1) + fill → length f < len → HasNoHeader f
header_broken f n fill len at_end is all more = short_no_header f n at_end (omega (arith, length-drop (80 * (n + 1)) f, at_end.within, is, all, more))

-- a header that was taken of bytes, and how many bytes it has
pub cut_taken : (f : List ℕ) (a b : Supply) (len : ℕ) (header : Header) → a.ahead ≡ f → a.left ≡ 0 → Takes a b (header_bytes header) → IsHeader header → HasHeader f len
    → IsHeaderOf f header (drop len f) × (len ≡ length (header_bytes header))
cut_taken f a b len header are none p whole has =
    let joined : f ≡ header_bytes header ++ b.ahead = sym are ∙ takes_ahead a b (header_bytes header) none p in
    let same = one_header f header has.header b.ahead (drop len f) (record { whole = whole; joined = joined }) has.cut in
    (rw (sym same.1) (record { whole = whole; joined = joined }), has.size ∙ ap (λ (h : Header). length (header_bytes h)) (sym same.0))

-- where a header is, none isn't found
pub not_missing : (f : List ℕ) (a b : Supply) (len : ℕ) → a.ahead ≡ f → a.left ≡ 0 → HasHeader f len → FindsAll a b HasNoHeader → ⊥
not_missing f a b len are none has found =
    let joined : f ≡ found.bytes ++ (b.ahead ++ []) = sym are ∙ takes_ahead a b found.bytes none found.taken ∙ ap (λ t. found.bytes ++ t) (sym (append-nil b.ahead)) in
    let missing : HasNoHeader f = subst HasNoHeader (sym joined) (found.all [] (omega arith) (λ _. refl)) in
    missing has.header (drop len f) has.cut
