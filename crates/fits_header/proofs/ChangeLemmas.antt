-- An index through changes of the cards.
use Rattle.std.proofs.Common.{◌≡◌, ℕ, ◌+◌, ◌-◌, ◌<◌, ◌≤◌, Bool, true, false, cond, List, [], ◌∷◌, ◌++◌, length, take, drop, map, filter, get_or, ap, subst, sym, ◌∙◌, append_assoc, arith, length-append, length-drop}
use Rattle.std.specs.List.{All}
use Rattle.std.proofs.lemmas.List.{length-map, length-take-le, drop_more}
use Rattle.std.proofs.lemmas.List.Elements.{All-nil, All-cons, All-tail, All-filter, All-append, All-take, All-drop}
use Rattle.std.proofs.lemmas.Bool.Decides.{nat_tests}
use Rattle.std.proofs.lemmas.Simd.{map-map}
use Rattle.fits_card.specs.Change.{spliced, only_item, moved}
use Rattle.fits_header.specs.declared.entry.Entry.{Entry}
use Rattle.fits_header.specs.Findings.{card_of}
use Rattle.fits_card.specs.Card.{keyword_name}
use Rattle.fits_header.specs.Names.{AreNamed, IsName}
use Rattle.fits_header.specs.Index.{is_named, entry_of, entries_from, AreSame, IsIndex, IsIndexOf, IsSortedIndex, stays, shifted, turned, added}
use Rattle.fits_header.proofs.IndexLemmas.{same-added, sorted-shifted}
use Rattle.fits_header.proofs.EntriesLemmas.{entries-append, entries-low, entries-high, same-taken, is_low, is_high}
use Rattle.fits_header.proofs.CountLemmas.{length-index, length-two}
use Rattle.fits_header.proofs.FilterLemmas.{filter_all}
use Rattle.fits_header.proofs.ShiftLemmas.{pass_written}

-- what holds of all with one more holds of all
kept_all : (P : Entry → Type 0) (b : Bool) (e : Entry) (es : List Entry) → All P (cond b (e ∷ es) es) → All P es
kept_all P true e es h = All-tail P e es h
kept_all P false e es h = h

-- what holds of the entries of each name holds of all
pub all_by_name : (P : Entry → Type 0) (es : List Entry) → ((name : ℕ) → All P (filter (is_named name) es)) → All P es
all_by_name P [] h = All-nil P
all_by_name P (e ∷ es) h =
    let own : is_named e.name e ≡ true = grind (arith, nat_tests) in
    let here : All P (e ∷ filter (is_named e.name) es) = rw own at (h e.name) in
    All-cons P e es (here 0 e (omega arith)) (all_by_name P es (λ name. kept_all P (is_named name e) e (filter (is_named name) es) (h name)))

-- below the next number is at most this one
no_more : (limit n : ℕ) → n < limit + 1 → n ≤ limit
no_more limit n h = omega arith

-- no place is past the last card
pub places_within : (es : List Entry) (cards : List (List ℕ)) → IsIndexOf es cards → All (λ (e : Entry). e.place ≤ length cards) es
places_within es cards index =
    all_by_name (λ (e : Entry). e.place ≤ length cards) es (λ name.
    rw (index.same name) (All-filter (is_named name) (λ (e : Entry). e.place ≤ length cards) (entries_from 1 cards)
    (λ k d l. no_more (length cards) _ (entries-low 1 (length cards + 1) cards (omega arith) k d l))))

-- as many entries as cards: no place is past their number
pub places_among : (es : List Entry) → IsIndex es → All (λ (e : Entry). e.place ≤ length es) es
places_among es index = subst (λ n. All (λ (e : Entry). e.place ≤ n) es) (sym (length-index es index.cards index.theirs)) (places_within es index.cards index.theirs)

-- so many entries are left once some went
pub length-taken : (es : List Entry) (cards : List (List ℕ)) (place removed coming : ℕ) → 1 ≤ place → place + removed ≤ length cards + 1 → IsIndexOf es cards
    → length (map (shifted place removed coming) (filter (stays place removed) es)) + removed ≡ length cards
length-taken es cards place removed coming one fits index =
    let size = length-two _ 1 (place + coming) (take (place - 1) cards) (drop (place - 1 + removed) cards) (same-taken es cards place removed coming one fits index.same) in
    omega (arith, size, length-take-le (place - 1) cards (omega arith), length-drop (place - 1 + removed) cards)

-- only one entry has a place
pub one_goes : (es : List Entry) (place : ℕ) → 1 ≤ place → place ≤ length es → IsIndex es → length (filter (stays place 1) es) + 1 ≡ length es
one_goes es place first last index =
    let cards = index.cards in
    let size = length-index es cards index.theirs in
    omega (arith, size, length-map (filter (stays place 1) es) (shifted place 1 0), length-taken es cards place 1 0 first (omega (arith, size, last)) index.theirs)

-- what holds of items and of those that come holds after a splice
pub All-spliced : {X : Type 0} (P : X → Type 0) (xs new : List X) (place removed : ℕ) → All P xs → All P new → All P (spliced xs place removed new)
All-spliced P xs new place removed old come =
    All-append P (take (place - 1) xs) (new ++ drop (place - 1 + removed) xs) (All-take P (place - 1) xs old)
    (All-append P new (drop (place - 1 + removed) xs) come (All-drop P (place - 1 + removed) xs old))

-- and after a move
pub All-moved : {X : Type 0} (P : X → Type 0) (xs : List X) (from to : ℕ) → All P xs → All P (moved xs from to)
All-moved P xs from to old =
    All-spliced P (spliced xs from 1 []) (only_item xs from) to 0 (All-spliced P xs [] from 1 old (All-nil P)) (All-take P 1 (drop (from - 1) xs) (All-drop P (from - 1) xs old))

-- where none come, the rest is the index of the other cards
pub index-taken : (es : List Entry) (cards : List (List ℕ)) (place removed : ℕ) → 1 ≤ place → place + removed ≤ length cards + 1 → IsIndexOf es cards
    → IsIndexOf (map (shifted place removed 0) (filter (stays place removed) es)) (spliced cards place removed [])
index-taken es cards place removed one fits index =
    let front = take (place - 1) cards in
    let rest = drop (place - 1 + removed) cards in
    let joined : entries_from 1 front ++ entries_from (place + 0) rest ≡ entries_from 1 (front ++ rest) =
    ap (λ p. entries_from 1 front ++ entries_from p rest) {x = place + 0} {y = 1 + length front} (omega (arith, length-take-le (place - 1) cards (omega arith))) ∙ sym (entries-append 1 front rest) in
    record {
      sorted = sorted-shifted es place removed 0 index.sorted;
      same = λ name. same-taken es cards place removed 0 one fits index.same name ∙ ap (filter (is_named name)) joined;
      named = All-spliced (λ card. IsName (keyword_name card)) cards [] place removed index.named (All-nil (λ (card : List ℕ). IsName (keyword_name card)));
    }

-- an entry is put into a gap
pub same-put : (es fs : List Entry) (xs zs : List (List ℕ)) (card : List ℕ) (place : ℕ) → length xs + 1 ≡ place → fs ≡ added es (entry_of card place)
    → AreSame es (entries_from 1 xs ++ entries_from (place + 1) zs) → AreSame fs (entries_from 1 (xs ++ card ∷ zs))
same-put es fs xs zs card place size is same name =
    let before = entries_from 1 xs in
    let rest = entries_from (place + 1) zs in
    let low : All (λ (x : Entry). x.place < place) before = entries-low 1 place xs (omega arith) in
    let high : All (λ (x : Entry). place ≤ x.place) rest = entries-high (place + 1) place zs (omega arith) in
    let more = same-added es before rest (entry_of card place) same (λ k d l. is_low place (get_or before k d) (low k d l)) (λ k d l. is_high place (get_or rest k d) (high k d l)) in
    let joined : before ++ entry_of card place ∷ rest ≡ entries_from 1 (xs ++ card ∷ zs) =
    sym (entries-append 1 xs (card ∷ zs) ∙ ap (λ p. before ++ (entry_of card p ∷ entries_from (p + 1) zs)) {x = 1 + length xs} {y = place} (omega arith)) in
    ap (filter (is_named name)) is ∙ (more name ∙ ap (filter (is_named name)) joined)

-- the card at a place, as a list
one_item : (cards : List (List ℕ)) (place : ℕ) → 1 ≤ place → place ≤ length cards → only_item cards place ≡ card_of cards place ∷ []
one_item cards place one within = ap (take 1) (drop_more cards (place - 1) [] (omega arith))

-- no entry goes where none is taken out
pub one_stays : (place : ℕ) (e : Entry) → stays place 0 e ≡ true
one_stays place e = grind (arith, nat_tests)

-- nor any of them
pub all_stay : (place : ℕ) (es : List Entry) → filter (stays place 0) es ≡ es
all_stay place es = filter_all (stays place 0) es (λ k d l. one_stays place (get_or es k d))

-- so a gap that opens is all that is made of them
pub none_goes : (place removed coming : ℕ) (es : List Entry) → removed ≡ 0 → map (shifted place 0 coming) es ≡ map (shifted place removed coming) (filter (stays place removed) es)
none_goes place removed coming es none = rw none (ap (map (shifted place 0 coming)) (sym (all_stay place es)))

-- entries in order stay so where a gap opens
pub sorted-gap : (es : List Entry) (place : ℕ) → IsSortedIndex es → IsSortedIndex (map (shifted place 0 1) es)
sorted-gap es place sorted = subst (λ fs. IsSortedIndex (map (shifted place 0 1) fs)) (all_stay place es) (sorted-shifted es place 0 1 sorted)

-- the entry that was taken out is put in where it goes
pub same-moved : (es fs : List Entry) (cards : List (List ℕ)) (from to : ℕ) → 1 ≤ from → from ≤ length cards → 1 ≤ to → to ≤ length cards
    → IsIndexOf es (spliced cards from 1 []) → fs ≡ added (map (shifted to 0 1) es) (entry_of (card_of cards from) to)
    → AreSame fs (entries_from 1 (moved cards from to))
same-moved es fs cards from to one within first last index is =
    let others = spliced cards from 1 [] in
    let size : length others + 1 ≡ length cards = omega (arith, length-append (take (from - 1) cards) (drop (from - 1 + 1) cards), length-take-le (from - 1) cards (omega arith), length-drop (from - 1 + 1) cards) in
    let gap : AreSame (map (shifted to 0 1) es) (entries_from 1 (take (to - 1) others) ++ entries_from (to + 1) (drop (to - 1 + 0) others)) =
    λ name. ap (λ xs. filter (is_named name) (map (shifted to 0 1) xs)) (sym (all_stay to es)) ∙ same-taken es others to 0 1 first (omega arith) index.same name in
    let put = same-put _ fs (take (to - 1) others) (drop (to - 1 + 0) others) (card_of cards from) to (omega (arith, length-take-le (to - 1) others (omega arith))) is gap in
    λ name. put name ∙ ap (λ ks. filter (is_named name) (entries_from 1 (take (to - 1) others ++ (ks ++ drop (to - 1 + 0) others)))) (sym (one_item cards from one within))

-- an index without the entry of a place
pub index-out : (es fs : List Entry) (cards : List (List ℕ)) (place : ℕ) → 1 ≤ place → place ≤ length es → IsIndexOf es cards → fs ≡ map (shifted place 1 0) (filter (stays place 1) es) → IsIndexOf fs (spliced cards place 1 [])
index-out es fs cards place one within index is =
    subst (λ xs. IsIndexOf xs (spliced cards place 1 [])) (sym is) (index-taken es cards place 1 one (omega (arith, length-index es cards index)) index)

-- what is left once some went, and as many come
abbrev pub left_by : ℕ → ℕ → ℕ → List Entry → List Entry
left_by place removed coming es = map (shifted place removed coming) (filter (stays place removed) es)

-- it is in order
pub left-sorted : (es fs : List Entry) (place removed coming : ℕ) → IsIndex es → fs ≡ left_by place removed coming es → IsSortedIndex fs
left-sorted es fs place removed coming index is = subst IsSortedIndex (sym is) (sorted-shifted es place removed coming index.theirs.sorted)

-- and so many entries fewer
pub left-length : (es fs : List Entry) (place removed coming : ℕ) → IsIndex es → 1 ≤ place → place + removed ≤ length es + 1 → fs ≡ left_by place removed coming es
    → length fs + removed ≡ length es
left-length es fs place removed coming index one fits is =
    let size = length-index es index.cards index.theirs in
    omega (arith, ap length is, size, length-taken es index.cards place removed coming one (omega (arith, size)) index.theirs)

-- with the entries of those that come it is the index of the cards as they are then
pub index-spliced : (es fs gs : List Entry) (old new : List (List ℕ)) (place removed : ℕ) → IsIndexOf es old → 1 ≤ place → place + removed ≤ length es + 1
    → fs ≡ left_by place removed (length new) es → IsSortedIndex gs → AreNamed new
    → ((xs zs : List (List ℕ)) → length xs + 1 ≡ place → AreSame fs (entries_from 1 xs ++ entries_from (place + length new) zs) → AreSame gs (entries_from 1 ((xs ++ new) ++ zs)))
    → IsIndexOf gs (spliced old place removed new)
index-spliced es fs gs old new place removed index one fits is sorted named put =
    let front = take (place - 1) old in
    let rest = drop (place - 1 + removed) old in
    let size = length-index es old index in
    let kept = same-taken es old place removed (length new) one (omega (arith, size)) index.same in
    let all = put front rest (omega (arith, size, length-take-le (place - 1) old (omega (arith, size)))) (λ name. ap (filter (is_named name)) is ∙ kept name) in
    record {
      sorted = sorted;
      same = λ name. all name ∙ ap (λ cards. filter (is_named name) (entries_from 1 cards)) (append_assoc front new rest);
      named = All-spliced (λ card. IsName (keyword_name card)) old new place removed index.named named;
    }

-- no place is past the last card where one of them is out
pub places_out : (es out seen : List Entry) (place : ℕ) → IsIndex es → out ≡ filter (stays place 1) es → seen ≡ out
    → All (λ (e : Entry). e.place ≤ length es) seen
places_out es out seen place index gone same = subst (All (λ (e : Entry). e.place ≤ length es)) (sym (same ∙ gone)) (All-filter (stays place 1) (λ (e : Entry). e.place ≤ length es) es (places_among es index))

-- where one is out, a pass over the others writes them all
pub out_written : (f : Entry → Entry) (es out seen new : List Entry) (place n : ℕ) → out ≡ filter (stays place 1) es → n ≡ length out → seen ≡ out → new ≡ map f seen
    → take n (new ++ drop (length new) out) ≡ map f (filter (stays place 1) es)
out_written f es out seen new place n gone size same is = pass_written f out seen new n size same is ∙ ap (map f) gone

-- where a card moves, that is one shift after another
pub turned-out : (es : List Entry) (from to : ℕ) → map (turned from to) (filter (stays from 1) es) ≡ map (shifted to 0 1) (left_by from 1 0 es)
turned-out es from to = sym (map-map (shifted to 0 1) (shifted from 1 0) (filter (stays from 1) es))
