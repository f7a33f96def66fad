-- The HDU that is asked for.
use Rattle.std.proofs.Common.{◌≡◌, ℕ, ◌+◌, ◌-◌, ◌<◌, ◌≤◌, true, false, List, [], ◌∷◌, ◌++◌, length, drop, get_or, refl, ap, sym, ◌∙◌, ⊎_elim, arith}
use Rattle.std.specs.Prelude.{◌==◌}
use Rattle.std.specs.List.{list_any, position_or_len}
use Rattle.std.proofs.lemmas.Bool.{or_parts, lt-ltb, le-ltb, cases_lt}
use Rattle.std.proofs.lemmas.Grind.{get_or_after_one}
use Rattle.std.proofs.lemmas.List.{get_or_default, length-drop, length-map}
use Rattle.std.proofs.lemmas.List.Sums.{position_or_len_is}
use Rattle.fits_card.specs.CardList.{CardStore}
use Rattle.fits_passing.specs.Headers.{read_cards}
use Rattle.fits_rules.proofs.LeadCardLemmas.{lead_from, lead_to}
use Rattle.fits_script.specs.Cut.{HasNo}
use Rattle.fits_tell.specs.Asked.{after_comma, before_comma, extension_number, is_asked_extension}
use Rattle.fits_tell.specs.declared.asked_extension.AskedExtension.{AskedExtension}
use Rattle.fits_tell.proofs.CardLemmas.{cards_here, cards_within}

-- all of a text without a comma stands before one
pub before_comma-none : (text : List ℕ) → HasNo 44 text → before_comma text ≡ text
unfolding before_comma
before_comma-none [] none = refl
before_comma-none (b ∷ bs) none =
    let parts = or_parts (b == 44) (list_any (λ x. x == 44) bs) none in
    rw parts.0 (ap (λ t. b ∷ t) (before_comma-none bs parts.1))

-- and nothing after it
pub after_comma-none : (text : List ℕ) → HasNo 44 text → after_comma text ≡ []
unfolding after_comma
after_comma-none [] none = refl
after_comma-none (b ∷ bs) none =
    let parts = or_parts (b == 44) (list_any (λ x. x == 44) bs) none in
    rw parts.0 (after_comma-none bs parts.1)

-- what stands before the first comma
before_comma-first : (part rest : List ℕ) → HasNo 44 part → before_comma (part ++ 44 ∷ rest) ≡ part
unfolding before_comma
before_comma-first [] rest none = refl
before_comma-first (b ∷ bs) rest none =
    let parts = or_parts (b == 44) (list_any (λ x. x == 44) bs) none in
    rw parts.0 (ap (λ t. b ∷ t) (before_comma-first bs rest parts.1))

-- and after it
after_comma-first : (part rest : List ℕ) → HasNo 44 part → after_comma (part ++ 44 ∷ rest) ≡ rest
unfolding after_comma
after_comma-first [] rest none = refl
after_comma-first (b ∷ bs) rest none =
    let parts = or_parts (b == 44) (list_any (λ x. x == 44) bs) none in
    rw parts.0 (after_comma-first bs rest parts.1)

-- a text with a comma in it
pub before_comma-cut : (text part rest : List ℕ) → HasNo 44 part → text ≡ part ++ 44 ∷ rest → before_comma text ≡ part
before_comma-cut text part rest none e = rw e (before_comma-first part rest none)

-- what follows the first comma
pub after_comma-cut : (text part rest : List ℕ) → HasNo 44 part → text ≡ part ++ 44 ∷ rest → after_comma text ≡ rest
after_comma-cut text part rest none e = rw e (after_comma-first part rest none)

pub ruleset comma_steps = (before_comma-none, after_comma-none, before_comma-cut, after_comma-cut)

pub ruleset said_steps = (lead_from, lead_to)

-- none of so many extensions is the one that is asked for
pub record NoneAsked (headers : List (List (List ℕ))) (asked : AskedExtension) (count : ℕ) : Type 0 where
  pub none : (k : ℕ) → k < count → is_asked_extension asked (get_or (drop 1 headers) k []) ≡ false

-- there is none before the first
pub none_asked_first : (headers : List (List (List ℕ))) (asked : AskedExtension) → NoneAsked headers asked 0
none_asked_first headers asked = record { none = λ k h. absurd (omega arith) }

pub ruleset seeking_steps = (none_asked_first)

-- the cards of the extension after so many
cards_next : (lists : List CardStore) (headers : List (List (List ℕ))) (i : ℕ) (it : CardStore) → read_cards lists ≡ headers → i + 1 < length lists → it ≡ get_or lists (i + 1) it → get_or (drop 1 headers) i [] ≡ it.header.cards
cards_next lists headers i it same l e =
    let one : 1 + i ≡ i + 1 = omega arith in
    get_or_after_one headers i [] ∙ ap (λ k. get_or headers k []) one
    ∙ get_or_default headers (i + 1) [] it.header.cards (cards_within lists headers (i + 1) same l)
    ∙ cards_here lists headers (i + 1) it same l e

-- how many extensions there are
count_of_extensions : (lists : List CardStore) (headers : List (List (List ℕ))) → read_cards lists ≡ headers → length (drop 1 headers) ≡ length lists - 1
count_of_extensions lists headers same =
    omega (arith, length-drop 1 headers, ap length same, length-map lists (λ (list : CardStore). list.header.cards))

-- it isn't the one that is asked for
pub none_asked_more : (lists : List CardStore) (headers : List (List (List ℕ))) (asked : AskedExtension) (i : ℕ) (it : CardStore) → read_cards lists ≡ headers → i + 1 < length lists → it ≡ get_or lists (i + 1) it → NoneAsked headers asked i
    → false ≡ is_asked_extension asked it.header.cards → NoneAsked headers asked (i + 1)
none_asked_more lists headers asked i it same l e before here = record { none = λ k h. ⊎_elim (λ lt. before.none k lt) (λ ge. rw (equal k h ge) next) (cases_lt k i) }
  where
    equal : (k : ℕ) → k < i + 1 → i ≤ k → k ≡ i
    equal k h ge = omega arith

    next : is_asked_extension asked (get_or (drop 1 headers) i []) ≡ false
    next = ap (is_asked_extension asked) (cards_next lists headers i it same l e) ∙ sym here

-- it is
pub extension_found : (lists : List CardStore) (headers : List (List (List ℕ))) (asked : AskedExtension) (i : ℕ) (it : CardStore) → read_cards lists ≡ headers → i + 1 < length lists → it ≡ get_or lists (i + 1) it → NoneAsked headers asked i
    → true ≡ is_asked_extension asked it.header.cards → i + 2 ≡ extension_number headers asked
unfolding extension_number
extension_found lists headers asked i it same l e before here =
    let few : i < length (drop 1 headers) = omega (arith, l, count_of_extensions lists headers same) in
    let next : is_asked_extension asked (get_or (drop 1 headers) i []) ≡ true = ap (is_asked_extension asked) (cards_next lists headers i it same l e) ∙ sym here in
    let at : position_or_len (is_asked_extension asked) (drop 1 headers) ≡ i = position_or_len_is (is_asked_extension asked) (drop 1 headers) i [] (omega (arith, few)) before.none (λ _. next) in
    rw (at, lt-ltb i (length (drop 1 headers)) few) refl

-- none of them is
pub extension_nowhere : (lists : List CardStore) (headers : List (List (List ℕ))) (asked : AskedExtension) (i : ℕ) → read_cards lists ≡ headers → i ≡ length lists - 1 → NoneAsked headers asked i → 0 ≡ extension_number headers asked
unfolding extension_number
extension_nowhere lists headers asked i same end before =
    let all : i ≡ length (drop 1 headers) = omega (arith, end, count_of_extensions lists headers same) in
    let at : position_or_len (is_asked_extension asked) (drop 1 headers) ≡ length (drop 1 headers) =
    position_or_len_is (is_asked_extension asked) (drop 1 headers) (length (drop 1 headers)) [] (omega arith) (λ k h. before.none k (omega (arith, h, all))) (λ h. absurd (omega (arith, h))) in
    rw (at, le-ltb (length (drop 1 headers)) (length (drop 1 headers)) (omega arith)) refl
