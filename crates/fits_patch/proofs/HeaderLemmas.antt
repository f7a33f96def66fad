-- The cards of the HDUs of a file, one after another.
use Rattle.std.proofs.Common.{◌≡◌, ℕ, zero, suc, ◌+◌, ◌-◌, ◌<◌, ◌≤◌, List, [], ◌∷◌, ◌++◌, length, take, get_or, Option, None, Some, Result, Ok, Err, refl, ap, sym, subst, ◌∙◌, append_assoc, arith, inl, inr, All, rules}
use Rattle.std.specs.Prelude.{ok_or, nat_lt, slice_get, slice_set, IsTrue, Bool, true, false}
use Rattle.std.specs.Str.{bytes_eq}
use Rattle.std.proofs.Math.Seq.{map-set_same}
use Rattle.std.proofs.lemmas.Slice.Eq.{bytes_eq-Decides}
use Rattle.std.proofs.lemmas.List.{append-nil, length-append, length-take-le, take_all, take_more, take_more_same, length-map, get_or-map}
use Rattle.std.proofs.lemmas.List.Elements.{All-nil}
use Rattle.std.proofs.lemmas.Option.{get_or_from_slice_get, slice_get_cases, slice_get_within}
use Rattle.fits_card.specs.CardList.{CardStore}
use Rattle.fits_card.specs.Header.{Header, IsInnerCard}
use Rattle.fits_passing.specs.File.{FileParts, IsFile}
use Rattle.fits_passing.specs.Hdu.{HduParts}
use Rattle.fits_passing.specs.Headers.{cards_of, read_cards}
use Rattle.fits_hdu.specs.State.{card_placed}
use Rattle.fits_making.specs.declared.refusal.Refusal.{Refusal}
use Rattle.fits_making.specs.declared.refusal.Refusal.TheVariants.{NoCard, NoHdu}
use Rattle.fits_session.specs.Edit.{hdu_of}
use Rattle.fits_session.specs.Marked.{Marked}
use Rattle.fits_session.specs.Query.{card_in, in_hdu}
use Rattle.fits_session.specs.Session.{file_of, marked_of, SessionState}
use Rattle.fits_session.proofs.ChangeLemmas.{hdu_is}
use Rattle.fits_patch.specs.Patch.{cards_at, cards_or_none, PatchesCards, PatchesHdus}

-- the card after so many
next_placed : (cards : List (List ℕ)) (n : ℕ) → card_placed cards (n + 1) ≡ slice_get cards n
next_placed cards n =
    let some : nat_lt 0 (n + 1) ≡ true = search rules in
    let at : n + 1 - 1 ≡ n = omega arith in
    rw some (ap (slice_get cards) at)

-- what is there
was_there : (found : Option (List ℕ)) (card : List ℕ) → ok_or found NoCard ≡ Ok card → found ≡ Some card
was_there None card e = absurd (let z : ◌≡◌ {A = Result (List ℕ) Refusal} (Err NoCard) (Ok card) = e in cc)
was_there (Some x) card e = ap Some (let z : ◌≡◌ {A = Result (List ℕ) Refusal} (Ok x) (Ok card) = e in let same : x ≡ card = cc in same)

-- what isn't
was_none : (found : Option (List ℕ)) (why : Refusal) → ok_or found NoCard ≡ Err why → found ≡ None
was_none None why e = refl
was_none (Some x) why e = absurd (let z : ◌≡◌ {A = Result (List ℕ) Refusal} (Ok x) (Err why) = e in cc)

-- a card that an HDU has after so many
next_in : (found : Option HduParts) (n : ℕ) (card : List ℕ) → in_hdu (λ hdu. ok_or (card_placed hdu.header.cards (n + 1)) NoCard) found ≡ Ok card → slice_get (cards_or_none found) n ≡ Some card
next_in None n card e = absurd (let z : ◌≡◌ {A = Result (List ℕ) Refusal} (Err NoHdu) (Ok card) = e in cc)
next_in (Some hdu) n card e = sym (next_placed hdu.header.cards n) ∙ was_there (card_placed hdu.header.cards (n + 1)) card e

-- an HDU has no more
none_in : (found : Option HduParts) (n : ℕ) (why : Refusal) → in_hdu (λ hdu. ok_or (card_placed hdu.header.cards (n + 1)) NoCard) found ≡ Err why → slice_get (cards_or_none found) n ≡ None
none_in None n why e = refl
none_in (Some hdu) n why e = sym (next_placed hdu.header.cards n) ∙ was_none (card_placed hdu.header.cards (n + 1)) why e

-- one more card is taken
pub card_taken : (file : FileParts) (h n : ℕ) (cards new : List (List ℕ)) (card : List ℕ) → n ≡ length cards → card_in file h (n + 1) ≡ Ok card → cards ≡ take (length cards) (cards_at file h) → new ≡ cards ++ card ∷ [] → new ≡ take (length new) (cards_at file h)
card_taken file h n cards new card size read so_far pushed =
    let xs : List (List ℕ) = cards_at file h in
    let here : slice_get xs n ≡ Some card = next_in (hdu_of file h) n card read in
    let within : n < length xs = slice_get_within xs n card here in
    let is : get_or xs n card ≡ card = get_or_from_slice_get xs n card card here in
    let count : length new ≡ n + 1 = ap length pushed ∙ length-append cards (card ∷ []) ∙ omega (arith, size) in
    let front : cards ≡ take n xs = so_far ∙ ap (λ k. take k xs) (sym size) in
    pushed ∙ ap (λ t. t ++ card ∷ []) front ∙ ap (λ c. take n xs ++ c ∷ []) (sym is) ∙ sym (take_more xs n card within) ∙ ap (λ k. take k xs) (sym count)

-- none is
past_all : (xs : List (List ℕ)) (n : ℕ) → slice_get xs n ≡ None → length xs ≤ n
past_all xs n none = elim ((slice_get_cases xs n).1) [
  | inl here ↦ absurd (let z : ◌≡◌ {A = Option (List ℕ)} None (Some here.0) = sym none ∙ here.2 in cc)
  | inr past ↦ past.0
]

-- all are taken
pub cards_taken : (file : FileParts) (h n : ℕ) (cards : List (List ℕ)) (why : Refusal) → n ≡ length cards → card_in file h (n + 1) ≡ Err why → cards ≡ take (length cards) (cards_at file h) → cards ≡ cards_at file h
cards_taken file h n cards why size read so_far =
    let xs : List (List ℕ) = cards_at file h in
    let past : length xs ≤ n = past_all xs n (none_in (hdu_of file h) n why read) in
    so_far ∙ take_all (length cards) xs (omega (arith, past, size))

-- the cards of an HDU of a file stand before its END
inner_at : (file : FileParts) (k : ℕ) (found : Option HduParts) → IsFile file → slice_get file.hdus k ≡ found → All IsInnerCard (cards_or_none found)
inner_at file k None whole there = All-nil IsInnerCard
inner_at file k (Some hdu) whole there = (hdu_is _ file.hdus file.tail k hdu whole.front there).header.cards

-- so are those of HDU h
pub cards_inner : (file : FileParts) (h : ℕ) → IsFile file → All IsInnerCard (cards_at file h)
cards_inner file zero whole = All-nil IsInnerCard
cards_inner file (suc k) whole = inner_at file k (slice_get file.hdus k) whole refl

-- the file is the one that was marked
pub same_file : (s t : SessionState) → marked_of s ≡ marked_of t → file_of s ≡ file_of t
same_file s t same = ap (λ (it : Marked). it.file) same

-- the cards at an index
at_index : (hdus : List HduParts) (k : ℕ) → get_or (cards_of hdus) k [] ≡ cards_or_none (slice_get hdus k)
at_index [] k = refl
at_index (u ∷ us) zero = refl
at_index (u ∷ us) (suc k) = at_index us k

-- by the number of the HDU
pub cards_get : (file : FileParts) (k : ℕ) → get_or (cards_of file.hdus) k [] ≡ cards_at file (k + 1)
cards_get file k = let next : suc k ≡ k + 1 = omega arith in at_index file.hdus k ∙ ap (cards_at file) next

-- of headers that were read
pub read_get : (headers : List CardStore) (k : ℕ) (one : CardStore) → k < length headers → one ≡ get_or headers k one → get_or (read_cards headers) k [] ≡ one.header.cards
read_get headers k one within is = get_or-map (λ (list : CardStore). list.header.cards) headers k one [] within ∙ ap (λ (list : CardStore). list.header.cards) (sym is)

-- one HDU more has its lines
patches_push : (h k : ℕ) (headers others : List (List (List ℕ))) (xs ys : List (List ℕ)) (text one new : List ℕ) → PatchesHdus h headers others text → k ≡ h + length headers → PatchesCards k xs ys one → new ≡ text ++ one → PatchesHdus h (headers ++ xs ∷ []) (others ++ ys ∷ []) new
patches_push h k [] [] xs ys text one new p at q is =
    let place : k ≡ h = omega (arith, at) in
    (one, [], is ∙ ap (λ t. t ++ one) p ∙ sym (append-nil one), subst (λ n. PatchesCards n xs ys one) place q, refl)
patches_push h k [] (v ∷ vs) xs ys text one new p at q is = absurd p
patches_push h k (u ∷ us) [] xs ys text one new p at q is = absurd p
patches_push h k (u ∷ us) (v ∷ vs) xs ys text one new p at q is = (
  p.0,
  p.1 ++ one,
  is ∙ ap (λ t. t ++ one) p.2 ∙ append_assoc p.0 p.1 one,
  p.3,
  patches_push (h + 1) k us vs xs ys p.1 one (p.1 ++ one) p.4 (omega (arith, at)) q refl,
)

-- one more of the first has
pub patches_more : (file : FileParts) (others : List (List (List ℕ))) (k : ℕ) (ys : List (List ℕ)) (text one new : List ℕ) → length others ≡ length file.hdus → k < length others → get_or others k [] ≡ ys
    → PatchesHdus 1 (take k (cards_of file.hdus)) (take k others) text → PatchesCards (k + 1) (cards_at file (k + 1)) ys one → new ≡ text ++ one → PatchesHdus 1 (take (k + 1) (cards_of file.hdus)) (take (k + 1) others) new
patches_more file others k ys text one new count within here so_far drawn is =
    let xss : List (List (List ℕ)) = cards_of file.hdus in
    let all : length xss ≡ length file.hdus = length-map file.hdus _ in
    let l : k < length xss = omega (arith, within, count, all) in
    let size : length (take k xss) ≡ k = length-take-le k xss (omega (arith, l)) in
    let more : take (k + 1) xss ≡ take k xss ++ cards_at file (k + 1) ∷ [] = take_more xss k [] l ∙ ap (λ c. take k xss ++ c ∷ []) (cards_get file k) in
    let more_other : take (k + 1) others ≡ take k others ++ ys ∷ [] = take_more others k [] within ∙ ap (λ c. take k others ++ c ∷ []) here in
    let p : PatchesHdus 1 (take k xss ++ cards_at file (k + 1) ∷ []) (take k others ++ ys ∷ []) new = patches_push 1 (k + 1) (take k xss) (take k others) (cards_at file (k + 1)) ys text one new so_far (omega (arith, size)) drawn is in
    subst (λ (t : List (List (List ℕ))). PatchesHdus 1 t (take (k + 1) others) new) (sym more) (subst (λ (t : List (List (List ℕ))). PatchesHdus 1 (take k xss ++ cards_at file (k + 1) ∷ []) t new) (sym more_other) p)

-- a header that stays leaves the cards of all
pub cards_kept : (headers : List CardStore) (k : ℕ) (one new : CardStore) → one ≡ get_or headers k one → new.header ≡ one.header → read_cards (slice_set headers k new) ≡ read_cards headers
cards_kept headers k one new is same = map-set_same (λ (list : CardStore). list.header.cards) headers k new one (ap (λ (h : Header). h.cards) same ∙ ap (λ (list : CardStore). list.header.cards) is)

-- the cards of one more are the same
pub one_alike : (xs ys : List (List ℕ)) (k : ℕ) (x y : List ℕ) (b : Bool) → k < length xs → length xs ≡ length ys → x ≡ get_or xs k [] → y ≡ get_or ys k [] → b ≡ bytes_eq x y → IsTrue b → take k xs ≡ take k ys → take (k + 1) xs ≡ take (k + 1) ys
one_alike xs ys k x y b within size e f is so so_far =
    take_more_same xs ys k [] within (omega (arith, within, size)) so_far (sym e ∙ (bytes_eq-Decides x y).0 (sym is ∙ so) ∙ f)

-- the cards of an HDU are others, so those of all are
pub hdus_differ : (file : FileParts) (others : List (List (List ℕ))) (k : ℕ) (cards ys : List (List ℕ)) (b : Bool) → b ≡ false → (cards ≡ ys → IsTrue b) → cards ≡ cards_at file (k + 1) → get_or others k [] ≡ ys → cards_of file.hdus ≡ others → IsTrue false
hdus_differ file others k cards ys b fails test is here same = sym fails ∙ test (is ∙ sym (cards_get file k) ∙ ap (λ (t : List (List (List ℕ))). get_or t k []) same ∙ here)

-- those of one more are the same
pub hdus_alike : (file : FileParts) (others : List (List (List ℕ))) (k : ℕ) (cards ys : List (List ℕ)) → length others ≡ length file.hdus → k < length others → cards ≡ ys → cards ≡ cards_at file (k + 1) → get_or others k [] ≡ ys
    → take k (cards_of file.hdus) ≡ take k others → take (k + 1) (cards_of file.hdus) ≡ take (k + 1) others
hdus_alike file others k cards ys count within same is here so_far =
    let all : length (cards_of file.hdus) ≡ length file.hdus = length-map file.hdus _ in
    take_more_same (cards_of file.hdus) others k [] (omega (arith, within, count, all)) within so_far (cards_get file k ∙ sym is ∙ same ∙ sym here)
