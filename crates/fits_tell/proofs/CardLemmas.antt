-- Cards as they are chosen and printed.
use Rattle.std.proofs.Common.{◌≡◌, ℕ, suc, ◌+◌, ◌-◌, ◌<◌, ◌==◌, Bool, false, not, ◌&&◌, ◌||◌, List, [], ◌∷◌, ◌++◌, length, take, drop, map, set, get_or, slice_index_or, Option, inr, refl, ap, sym, subst, rules, ◌∙◌, append_assoc, arith, if◌then◌else◌}
use Rattle.std.proofs.lemmas.List.{get_or-map, length-map}
use Rattle.std.proofs.lemmas.List.Concat.{flat_map-append}
use Rattle.std.proofs.Math.Seq.{drop-cons, map-set_same}
use Rattle.fits_card.specs.Card.{keyword_name}
use Rattle.fits_card.specs.CardList.{CardStore}
use Rattle.fits_header.specs.Links.{header_links, leaves_open, links_from, string_mark}
use Rattle.fits_stream.specs.Stream.{SourceState, SinkState, Prints, StaysQuiet}
use Rattle.fits_stream.proofs.StreamLemmas.{Prints-more, PrintsFront-unflushed}
use Rattle.fits_passing.specs.Headers.{read_cards, ShowsHeaders}
use Rattle.fits_passing.specs.declared.open_fault.OpenFault.{OpenFault}
use Rattle.fits_tell.specs.Asked.{numbers_asked}
use Rattle.fits_tell.specs.Cards.{all_chosen, card_line, card_lines, cards_text, changed_at, changed_of, chosen_among, chosen_from, chosen_in, has_name, has_some, CardsStop}
use Rattle.fits_tell.specs.Faults.{FlushFails}
use Rattle.fits_tell.specs.Numbered.{numbered}
use Rattle.fits_tell.specs.Telling.{PrintingStops}
use Rattle.fits_tell.specs.declared.card_choice.CardChoice.{CardChoice}
use Rattle.fits_tell.specs.declared.card_place.CardPlace.{CardPlace}
use Rattle.fits_tell.specs.declared.fault.Fault.{Fault}
use Rattle.fits_tell.specs.declared.fault.Fault.TheVariants.{Memory, ReadFailed, Refused, Reread, ScriptTooLong, WriteFailed}
use Rattle.fits_tell.specs.declared.shown_card.ShownCard.{ShownCard}
use Rattle.fits_tell.proofs.NumberedLemmas.{numbered-more, numbered-split}
use Rattle.fits_tell.proofs.VerifyingLemmas.{PrintingStops-longer, PrintingStops-more, PrintingStops-none}

-- the cards that are still to come, some being chosen before them
abbrev pub to_come : CardChoice → ℕ → ℕ → Bool → Bool → List (List ℕ) → List ShownCard
to_come choice h index is_open before cards = chosen_from choice h (index + 1) before (drop index cards) (links_from is_open (map string_mark (drop index cards)))

-- none is passed yet
pub choice_begun : (choice : CardChoice) (h : ℕ) (cards : List (List ℕ)) (shown : List ShownCard) → shown ≡ [] → shown ++ to_come choice h 0 false false cards ≡ chosen_from choice h 1 false cards (header_links cards)
choice_begun choice h cards shown none = ap (λ t. t ++ to_come choice h 0 false false cards) none

-- the first of them is passed
come_more : (choice : CardChoice) (h place : ℕ) (is_open before : Bool) (card : List ℕ) (rest : List (List ℕ)) (shown whole : List ShownCard)
    → shown ++ chosen_from choice h place before (card ∷ rest) (links_from is_open (map string_mark (card ∷ rest))) ≡ whole
    → (shown ++ (if has_name choice (keyword_name card) || ((is_open && (string_mark card).continues) && before) then (record { hdu = h; place = place; card = card }) ∷ [] else []))
    ++ chosen_from choice h (place + 1) (has_name choice (keyword_name card) || ((is_open && (string_mark card).continues) && before)) rest (links_from (leaves_open (is_open && (string_mark card).continues) (string_mark card)) (map string_mark rest))
    ≡ whole
come_more choice h place is_open before card rest shown whole so_far = append_assoc shown _ _ ∙ so_far

-- one more is
pub choice_more : (choice : CardChoice) (h index : ℕ) (is_open before link next shows : Bool) (cards : List (List ℕ)) (card : List ℕ) (shown new whole : List ShownCard) → index < length cards → card ≡ slice_index_or cards (index + 1 - 1) card
    → link ≡ (is_open && (string_mark card).continues) → next ≡ leaves_open link (string_mark card) → shows ≡ (has_name choice (keyword_name card) || (link && before))
    → new ≡ shown ++ (if shows then (record { hdu = h; place = index + 1; card = card }) ∷ [] else []) → shown ++ to_come choice h index is_open before cards ≡ whole
    → new ++ to_come choice h (index + 1) next shows cards ≡ whole
choice_more choice h index is_open before link next shows cards card shown new whole l is link_is next_is shows_is pushed so_far =
    let at : index + 1 - 1 ≡ index = omega arith in
    let next_at : suc index ≡ index + 1 = omega arith in
    let here : drop index cards ≡ card ∷ drop (index + 1) cards =
    drop-cons cards index card l ∙ ap (λ c. c ∷ drop (suc index) cards) (sym (is ∙ ap (λ i. slice_index_or cards i card) at)) ∙ ap (λ n. card ∷ drop n cards) next_at in
    rw (pushed, shows_is, next_is, link_is) (come_more choice h (index + 1) is_open before card (drop (index + 1) cards) shown whole (rw here at so_far))

pub ruleset choice_steps = (choice_begun, choice_more)

pub ruleset pattern_steps = (choice_begun)

pub ruleset text_steps = (choice_begun)

-- the cards of header i
pub cards_here : (lists : List CardStore) (headers : List (List (List ℕ))) (i : ℕ) (it : CardStore) → read_cards lists ≡ headers → i < length lists → it ≡ get_or lists i it → get_or headers i it.header.cards ≡ it.header.cards
cards_here lists headers i it same l e =
    ap (λ (t : List (List (List ℕ))). get_or t i it.header.cards) (sym same)
    ∙ get_or-map (λ (list : CardStore). list.header.cards) lists i it it.header.cards l
    ∙ ap (λ (list : CardStore). list.header.cards) (sym e)

-- their number
pub cards_within : (lists : List CardStore) (headers : List (List (List ℕ))) (i : ℕ) → read_cards lists ≡ headers → i < length lists → i < length headers
cards_within lists headers i same l = omega (arith, ap length same, length-map lists (λ (list : CardStore). list.header.cards))

-- the cards stay where one is read
pub headers_kept : (lists : List CardStore) (headers : List (List (List ℕ))) (i : ℕ) (old new : CardStore) → read_cards lists ≡ headers → old ≡ get_or lists i old → new.header ≡ old.header → read_cards (set lists i new) ≡ headers
headers_kept lists headers i old new same e kept =
    map-set_same (λ (list : CardStore). list.header.cards) lists i new old (ap (λ h. h.cards) kept ∙ ap (λ (list : CardStore). list.header.cards) e) ∙ same

-- the cards that are shown of the first headers, and of one more
pub chosen_more : (choice : CardChoice) (numbers : List ℕ) (lists : List CardStore) (headers : List (List (List ℕ))) (i : ℕ) (it : CardStore) (shown : List ShownCard) → read_cards lists ≡ headers → i < length lists → it ≡ get_or lists i it
    → shown ≡ chosen_in choice numbers (i + 1) it.header.cards → chosen_among choice numbers (take (i + 1) headers) ≡ chosen_among choice numbers (take i headers) ++ shown
chosen_more choice numbers lists headers i it shown same l e is =
    numbered-more (chosen_in choice numbers) headers i it.header.cards (cards_within lists headers i same l)
    ∙ ap (λ t. chosen_among choice numbers (take i headers) ++ t) (ap (chosen_in choice numbers (i + 1)) (cards_here lists headers i it same l e) ∙ sym is)

-- the lines of one more header are printed
pub prints_header : (a b c : SinkState) (choice : CardChoice) (some more shown : List ShownCard) → more ≡ some ++ shown → Prints (card_lines some) a b → Prints (card_lines shown) b c → Prints (card_lines more) a c
prints_header a b c choice some more shown is p q = rw (is, flat_map-append card_line some shown) (Prints-more a b c _ _ p q)

-- a text that stops within the lines of one header stops that of all
pub stops_in_header : (a b c : SinkState) (choice : CardChoice) (numbers : List ℕ) (headers : List (List (List ℕ))) (i : ℕ) (shown : List ShownCard) (fault : Fault) → chosen_among choice numbers (take (i + 1) headers) ≡ chosen_among choice numbers (take i headers) ++ shown
    → Prints (card_lines (chosen_among choice numbers (take i headers))) a b → PrintingStops (card_lines shown) b c fault → PrintingStops (card_lines (chosen_among choice numbers headers)) a c fault
stops_in_header a b c choice numbers headers i shown fault is p q =
    let rest : List ShownCard = numbered (chosen_in choice numbers) (1 + length (take (i + 1) headers)) (drop (i + 1) headers) in
    let split : card_lines (chosen_among choice numbers headers) ≡ card_lines (chosen_among choice numbers (take i headers)) ++ (card_lines shown ++ card_lines rest) =
    ap card_lines (numbered-split (chosen_in choice numbers) headers (i + 1) ∙ ap (λ t. t ++ rest) is)
    ∙ flat_map-append card_line (chosen_among choice numbers (take i headers) ++ shown) rest
    ∙ ap (λ t. t ++ card_lines rest) (flat_map-append card_line (chosen_among choice numbers (take i headers)) shown)
    ∙ append_assoc (card_lines (chosen_among choice numbers (take i headers))) (card_lines shown) (card_lines rest) in
    rw split (PrintingStops-more a b c _ _ fault p (PrintingStops-longer b c _ (card_lines rest) fault q))

-- and one that stops before them
pub stops_at_header : (a b : SinkState) (choice : CardChoice) (numbers : List ℕ) (headers : List (List (List ℕ))) (i : ℕ) → Prints (card_lines (chosen_among choice numbers (take i headers))) a b → PrintingStops (card_lines (chosen_among choice numbers headers)) a b Memory
stops_at_header a b choice numbers headers i p =
    let rest : List ShownCard = numbered (chosen_in choice numbers) (1 + length (take i headers)) (drop i headers) in
    let split : card_lines (chosen_among choice numbers headers) ≡ card_lines (chosen_among choice numbers (take i headers)) ++ card_lines rest =
    ap card_lines (numbered-split (chosen_in choice numbers) headers i) ∙ flat_map-append card_line (chosen_among choice numbers (take i headers)) rest in
    rw split (PrintingStops-more a b b _ _ Memory p (PrintingStops-none b (card_lines rest)))

-- the places of one more header's cards
pub changed_more : (base old new : List CardPlace) (some more shown : List ShownCard) → more ≡ some ++ shown → old ≡ base ++ changed_of some → new ≡ old ++ changed_of shown → new ≡ base ++ changed_of more
changed_more base old new some more shown is p q =
    q ∙ ap (λ t. t ++ changed_of shown) p ∙ append_assoc base (changed_of some) (changed_of shown) ∙ ap (λ t. base ++ t) (sym (flat_map-append changed_at some shown) ∙ ap changed_of (sym is))

-- a list that begins isn't empty
not_empty : (n : ℕ) → (suc n == 0) ≡ false
not_empty n = search rules

-- there are some among two lists
some_more : {X : Type 0} (xs ys : List X) (before any empty : Bool) → before ≡ has_some xs → empty ≡ (length ys == 0) → any ≡ (before || not empty) → any ≡ has_some (xs ++ ys)
some_more [] ys before any empty p q r = r ∙ ap (λ b. b || not empty) p ∙ ap not q
some_more (x ∷ xs) ys before any empty p q r = r ∙ ap (λ b. b || not empty) (p ∙ ap not (not_empty (length xs))) ∙ ap not (sym (not_empty (length (xs ++ ys))))

-- the same of one more header
pub any_more : (some more shown : List ShownCard) (before empty : Bool) → more ≡ some ++ shown → before ≡ has_some some → empty ≡ (length shown == 0) → (before || not empty) ≡ has_some more
any_more some more shown before empty is p q = some_more some shown before _ empty p q refl ∙ ap has_some (sym is)

-- what is shown by the numbers of the HDUs that are asked for is what is chosen of all
pub chosen_by_numbers : (choice : CardChoice) (headers after : List (List (List ℕ))) (numbers found : List ℕ) → after ≡ headers → numbers ≡ found → found ≡ numbers_asked headers choice.hdus.items
    → chosen_among choice numbers after ≡ all_chosen choice headers
chosen_by_numbers choice headers after numbers found same is asked = rw (is, asked, same) refl

-- by a text that isn't printed to its end
stop-text : (choice : CardChoice) (file file_after : SourceState) (out out_after : SinkState) (headers : List (List (List ℕ))) (found : Option OpenFault) (fault : Fault) → ShowsHeaders file file_after headers found → StaysQuiet file file_after
    → PrintingStops (cards_text choice headers) out out_after fault → CardsStop choice file file_after out out_after fault
stop-text choice file file_after out out_after headers found (Refused why) shows read stops = absurd stops
stop-text choice file file_after out out_after headers found ScriptTooLong shows read stops = absurd stops
stop-text choice file file_after out out_after headers found Memory shows read stops = record { read = read; quiet = stops.1; printed = inr (headers, found, shows, stops.0) }
stop-text choice file file_after out out_after headers found ReadFailed shows read stops = absurd stops
stop-text choice file file_after out out_after headers found WriteFailed shows read stops = record { headers = headers; fault = found; shows = shows; read = read; printed = stops }
stop-text choice file file_after out out_after headers found (Reread why) shows read stops = absurd stops

-- the same of the lines of what is chosen
pub CardsStop-text : (choice : CardChoice) (file file_after : SourceState) (out out_after : SinkState) (headers : List (List (List ℕ))) (shown : List ShownCard) (found : Option OpenFault) (fault : Fault) → shown ≡ all_chosen choice headers
    → ShowsHeaders file file_after headers found → StaysQuiet file file_after → PrintingStops (card_lines shown) out out_after fault → CardsStop choice file file_after out out_after fault
CardsStop-text choice file file_after out out_after headers shown found fault all shows read stops =
    stop-text choice file file_after out out_after headers found fault shows read (subst (λ (t : List ShownCard). PrintingStops (card_lines t) out out_after fault) all stops)

-- by a flush that fails
pub CardsStop-flush : (choice : CardChoice) (file file_after : SourceState) (out mid out_after : SinkState) (headers : List (List (List ℕ))) (shown : List ShownCard) (found : Option OpenFault) (fault : Fault) → shown ≡ all_chosen choice headers
    → ShowsHeaders file file_after headers found → StaysQuiet file file_after → Prints (card_lines shown) out mid → FlushFails mid out_after fault → CardsStop choice file file_after out out_after fault
CardsStop-flush choice file file_after out mid out_after headers shown found fault all shows read printed failed =
    subst (λ (f : Fault). CardsStop choice file file_after out out_after f) (sym failed.0)
    (record { headers = headers; fault = found; shows = shows; read = read; printed = PrintsFront-unflushed out mid out_after (cards_text choice headers) (subst (λ (t : List ShownCard). Prints (card_lines t) out mid) all printed) failed.1 })
