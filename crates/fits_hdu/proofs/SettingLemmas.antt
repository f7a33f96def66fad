-- A keyword that is set to one card.
use Rattle.std.proofs.Common.{◌≡◌, ◌⊎◌, inl, inr, ℕ, zero, suc, ◌+◌, ◌-◌, ◌≤◌, Bool, true, false, List, [], ◌∷◌, ◌++◌, length, get_or, take, drop, codes, refl, ap, sym, ◌∙◌, subst, arith, All, Option, None, Some}
use Rattle.std.specs.Prelude.{◌≢◌, if◌then◌else◌}
use Rattle.std.specs.Option.{option_map, option_map_or}
use Rattle.std.specs.Str.{bytes_eq}
use Rattle.std.proofs.lemmas.Bool.{cases_Bool, and_from, and_parts, cond-true, cond-false, false_from_ne_true}
use Rattle.std.proofs.lemmas.List.{append-nil, drop_all, drop-drop, length-take-le, take-append-drop}
use Rattle.std.proofs.Math.Seq.{take-length}
use Rattle.std.proofs.lemmas.List.Elements.{All-cons, All-head, All-nil, All-tail}
use Rattle.std.proofs.lemmas.Slice.Eq.{bytes_eq-Decides}
use Rattle.fits_card.specs.Card.{has_value, indicator, keyword_name}
use Rattle.fits_card.specs.Change.{cards_after, spliced}
use Rattle.fits_value.specs.Says.{card_says, card_string, ends_in_ampersand, first_chain_length, is_continue, link_before, link_count, chain_length, link_says, links_after, links_of, said_string, string_cards}
use Rattle.fits_rules.specs.Lead.{is_value_of, lead_place}
use Rattle.fits_image.proofs.LeadFromLemmas.{From, from_lead, before_more, or_later, from_lead-append, leads, place_there, place_nowhere}
use Rattle.fits_hdu.specs.Keyword.{keyword_cards, own_count, replacing}
use Rattle.fits_hdu.specs.Work.{keyword_reads}
use Rattle.fits_hdu.specs.declared.keyword_cards.KeywordCards.{KeywordCards}
use Rattle.fits_hdu.proofs.KeywordLemmas.{keyword_at, keyword_nowhere, keyword_within, lead_reads}

-- the keyword's cards are its lead and the links of that
abbrev pub gone_of : Option From → List (List ℕ)
gone_of None = []
gone_of (Some from) = from.0 ∷ take (first_chain_length (from.0 ∷ from.1) - 1) from.1

-- the card is the keyword's, or a link
abbrev pub IsOwn : List ℕ → List ℕ → Type 0
IsOwn name card = (keyword_name card ≡ name) ⊎ (keyword_name card ≡ codes "CONTINUE")

-- cards among which one stands instead of a keyword's, at the place of these
pub record IsSet (name : List ℕ) (cards after : List (List ℕ)) (card : List ℕ) : Type 0 where
  pub front : List (List ℕ)
  pub gone : List (List ℕ)
  pub behind : List (List ℕ)
  pub was : cards ≡ front ++ (gone ++ behind)
  pub is : after ≡ front ++ (card ∷ behind)
  pub none : from_lead name front ≡ None
  pub gone_is : gone ≡ gone_of (from_lead name cards)
  pub own : All (IsOwn name) gone
  pub edge : links_of (gone ++ behind) ≡ []
  pub place : ℕ
  pub at : place ≡ length front + 1
  pub removed : ℕ
  pub spliced : after ≡ spliced cards place removed (card ∷ [])
  pub taken : take removed (drop (place - 1) cards) ≡ gone
  pub within : place + removed ≤ length cards + 1
  pub last : gone ≡ [] → place ≡ length cards + 1

-- a lead is no link
valued_no_link : (card : List ℕ) → has_value card ≡ true → link_says card ≡ None
unfolding has_value is_continue link_says
valued_no_link card e =
    let marked = (bytes_eq-Decides (indicator card) (codes "= ")).0 (and_parts _ _ e).0 in
    cond-false (is_continue card) (said_string (card_says card)) None (false_from_ne_true (is_continue card) (λ f. no_mark (indicator card) marked ((bytes_eq-Decides (indicator card) (codes "  ")).0 (and_parts (bytes_eq (keyword_name card) (codes "CONTINUE")) (bytes_eq (indicator card) (codes "  ")) f).1)))
  where
    no_mark : (mark : List ℕ) → mark ≡ codes "= " → mark ≡ codes "  " → ⊥
    no_mark mark e f = let bytes : 61 ≡ 32 = ap (λ (x : List ℕ). get_or x 0 0) (sym e ∙ f) in omega (arith, bytes)

-- a link is named CONTINUE
link_named : (card : List ℕ) (link : List ℕ × Option (List ℕ)) → link_says card ≡ Some link → keyword_name card ≡ codes "CONTINUE"
unfolding is_continue link_says
link_named card link e = elim (cases_Bool (is_continue card)) [
  | inl f ↦ (bytes_eq-Decides (keyword_name card) (codes "CONTINUE")).0 (and_parts _ _ f).0
  | inr f ↦ absurd (let z = sym (cond-false (is_continue card) _ None f) ∙ e in cc)
]

-- a lead has its name and a value
pub lead_parts : (name card : List ℕ) → is_value_of name card ≡ true → (keyword_name card ≡ name) × (has_value card ≡ true)
unfolding is_value_of
lead_parts name card e = let both = and_parts _ _ e in ((bytes_eq-Decides (keyword_name card) name).0 both.0, both.1)

-- cards of which so many are links
first_own : (name card : List ℕ) (cards : List (List ℕ)) (n : ℕ) (o : Option (List ℕ × Option (List ℕ))) → link_says card ≡ o → suc n ≤ length (links_of (card ∷ cards)) → (n ≤ length (links_of cards) → All (IsOwn name) (take n cards)) → All (IsOwn name) (take (suc n) (card ∷ cards))
first_own name card cards n None e l more =
    let none : links_of (card ∷ cards) ≡ [] = ap (λ link. link_before link (links_of cards)) e in
    absurd (omega (arith, l, ap length none))
first_own name card cards n (Some link) e l more =
    let some : links_of (card ∷ cards) ≡ link ∷ links_of cards = ap (λ link. link_before link (links_of cards)) e in
    All-cons (IsOwn name) card (take n cards) (inr (link_named card link e)) (more (omega (arith, l, ap length some)))

-- the first of them are the keyword's
links_own : (name : List ℕ) (cards : List (List ℕ)) (n : ℕ) → n ≤ length (links_of cards) → All (IsOwn name) (take n cards)
links_own name [] zero l = All-nil (IsOwn name)
links_own name [] (suc n) l = All-nil (IsOwn name)
links_own name (card ∷ cards) zero l = All-nil (IsOwn name)
links_own name (card ∷ cards) (suc n) l = first_own name card cards n (link_says card) refl l (links_own name cards n)

-- those that continue a text are among the links
after_most : (text : List ℕ) (links : List (List ℕ × Option (List ℕ))) → links_after text links ≤ length links
after_most text [] = omega arith
after_most text (link ∷ links) = elim (cases_Bool (ends_in_ampersand text)) [
  | inl e ↦ let is = cond-true (ends_in_ampersand text) (1 + links_after link.0 links) 0 e in omega (arith, is, after_most link.0 links)
  | inr e ↦ let is = cond-false (ends_in_ampersand text) (1 + links_after link.0 links) 0 e in omega (arith, is)
]

-- so a chain has no more of them
string_most : (text : Option (List ℕ)) (cards : List (List ℕ)) → string_cards text cards - 1 ≤ length (links_of cards)
string_most None cards = omega arith
string_most (Some text) cards = omega (arith, after_most text (links_of cards))

-- the chain of a card with a value
chain_valued : (card : List ℕ) (cards : List (List ℕ)) → has_value card ≡ true → first_chain_length (card ∷ cards) ≡ string_cards (card_string card) cards
chain_valued card cards e = cond-true (has_value card) _ 0 e

-- the chain that begins at a place
chain_there : (cards : List (List ℕ)) (at : ℕ) (tail : List (List ℕ)) → drop at cards ≡ tail → chain_length cards (at + 1) ≡ first_chain_length tail
unfolding chain_length
chain_there cards at tail e = let back : at + 1 - 1 ≡ at = omega arith in ap (λ n. first_chain_length (drop n cards)) back ∙ ap first_chain_length e

-- its links
chained : (cards : List (List ℕ)) (at : ℕ) (tail : List (List ℕ)) → drop at cards ≡ tail → link_count cards (at + 1) ≡ first_chain_length tail - 1
chained cards at tail e = ap (λ n. n - 1) (chain_there cards at tail e)

-- one more than a number
one_more : (n : ℕ) → 1 + n ≡ suc n
one_more n = omega arith

-- one card instead of a keyword's
pub set_is : (name : List ℕ) (cards : List (List ℕ)) (card : List ℕ) → IsSet name cards (cards_after cards (replacing (length cards) (keyword_cards cards name) (card ∷ []))) card
unfolding cards_after
set_is name cards card = elim (leads name cards) [
  | inl w ↦
      let none = keyword_nowhere cards name (sym (place_nowhere name cards w)) in
      let count : length cards + 1 - 1 ≡ length cards = omega arith in
      let kept : take (length cards + 1 - 1) cards ≡ cards = ap (λ n. take n cards) count ∙ take-length cards in
      let end : drop (length cards + 1 - 1 + 0) cards ≡ [] = drop_all (length cards + 1 - 1 + 0) cards (omega arith) in
      rw none (record {
        front = cards;
        gone = [];
        behind = [];
        was = sym (append-nil cards);
        is = rw (kept, end) refl;
        none = w.none;
        gone_is = sym (ap gone_of w.none);
        own = All-nil (IsOwn name);
        edge = refl;
        place = length cards + 1;
        at = refl;
        removed = 0;
        spliced = refl;
        taken = refl;
        within = omega arith;
        last = λ _. refl;
      })
  | inr s ↦
      let at = s.0 in
      let w = s.1 in
      let lead : Some (at + 1) ≡ lead_place cards name = sym (place_there name cards at w) in
      let found = keyword_at cards name (at + 1) lead in
      let count = 1 + link_count cards (at + 1) in
      let tail = drop at cards in
      let back : at + 1 - 1 ≡ at = omega arith in
      let parts = lead_parts name w.card w.has in
      let links = first_chain_length (w.card ∷ w.others) - 1 in
      let chain : link_count cards (at + 1) ≡ links = chained cards at (w.card ∷ w.others) w.parts in
      let gone_is : take count tail ≡ w.card ∷ take links w.others = ap (λ n. take (1 + n) tail) chain ∙ (ap (take (1 + links)) w.parts ∙ ap (λ n. take n (w.card ∷ w.others)) (one_more links)) in
      let most : links ≤ length (links_of w.others) = omega (arith, ap (λ n. n - 1) (chain_valued w.card w.others parts.1), string_most (card_string w.card) w.others) in
      rw found (record {
        front = take at cards;
        gone = take count tail;
        behind = drop count tail;
        was = sym (ap (λ xs. take at cards ++ xs) (take-append-drop count tail) ∙ take-append-drop at cards);
        is = rw back (ap (λ xs. take at cards ++ (card ∷ xs)) (sym (drop-drop count at cards)));
        none = w.none;
        gone_is = gone_is ∙ sym (ap gone_of w.found);
        own = subst (All (IsOwn name)) (sym gone_is) (All-cons (IsOwn name) w.card (take links w.others) (inl parts.0) (links_own name w.others links most));
        edge = ap links_of (take-append-drop count tail ∙ w.parts) ∙ ap (λ link. link_before link (links_of w.others)) (valued_no_link w.card parts.1);
        place = at + 1;
        at = ap (λ n. n + 1) (sym (length-take-le at cards (omega (arith, w.within))));
        removed = count;
        spliced = refl;
        taken = ap (λ n. take count (drop n cards)) back;
        within = (keyword_within cards name (record { place = at + 1; count = count }) found).1;
        last = λ e. absurd (let no : w.card ∷ take links w.others ≡ [] = sym gone_is ∙ e in let size = ap length no in omega (arith, size));
      })
]

-- the chain of a keyword, if it has a lead
abbrev pub chain_from : Option From → Option ℕ
chain_from from = option_map (λ (f : From). first_chain_length (f.0 ∷ f.1)) from

-- links that end before other cards
links_of-append : (xs ys : List (List ℕ)) → links_of ys ≡ [] → links_of (xs ++ ys) ≡ links_of xs
links_of-append [] ys e = e
links_of-append (x ∷ xs) ys e = ap (link_before (link_says x)) (links_of-append xs ys e)

-- the chain of a card stays where no link follows the cards after it
chain-before : (card : List ℕ) (cards xs ys : List (List ℕ)) → links_of xs ≡ [] → links_of ys ≡ [] → first_chain_length (card ∷ (cards ++ xs)) ≡ first_chain_length (card ∷ (cards ++ ys))
chain-before card cards xs ys p q =
    let same : links_of (cards ++ xs) ≡ links_of (cards ++ ys) = links_of-append cards xs p ∙ sym (links_of-append cards ys q) in
    by_string (has_value card) (card_string card) same
  where
    by_string : (b : Bool) (text : Option (List ℕ)) → links_of (cards ++ xs) ≡ links_of (cards ++ ys) → (if b then string_cards text (cards ++ xs) else 0) ≡ (if b then string_cards text (cards ++ ys) else 0)
    by_string b None same = refl
    by_string b (Some text) same = ap (λ links. if b then 1 + links_after text links else 0) same

-- so does that of a lead in the first part, and no other lead comes
chain_or_later : (first later later' : Option From) (xs ys : List (List ℕ)) → links_of xs ≡ [] → links_of ys ≡ [] → later ≡ later' → chain_from (or_later (option_map (before_more xs) first) later) ≡ chain_from (or_later (option_map (before_more ys) first) later')
chain_or_later None later later' xs ys p q e = ap chain_from e
chain_or_later (Some from) later later' xs ys p q e = ap Some (chain-before from.0 from.1 xs ys p q)

-- and so does that lead
pub card_or_later : (first later later' : Option From) (xs ys : List (List ℕ)) → later ≡ later' → option_map (λ (f : From). f.0) (or_later (option_map (before_more xs) first) later) ≡ option_map (λ (f : From). f.0) (or_later (option_map (before_more ys) first) later')
card_or_later None later later' xs ys e = ap (option_map (λ (f : From). f.0)) e
card_or_later (Some from) later later' xs ys e = refl

-- a card of another name is no lead of this one
other_card : (name other card : List ℕ) → name ≢ other → codes "CONTINUE" ≢ other → IsOwn name card → is_value_of other card ≡ false
other_card name other card p q own = false_from_ne_true (is_value_of other card) (λ e. let parts = lead_parts other card e in elim own [
  | inl same ↦ p (sym same ∙ parts.0)
  | inr same ↦ q (sym same ∙ parts.0)
])

-- cards that are a keyword's have no lead of another
past_own : (name other : List ℕ) (xs ys : List (List ℕ)) → name ≢ other → codes "CONTINUE" ≢ other → All (IsOwn name) xs → from_lead other (xs ++ ys) ≡ from_lead other ys
past_own name other [] ys p q own = refl
past_own name other (x ∷ xs) ys p q own = cond-false (is_value_of other x) _ _ (other_card name other x p q (All-head (IsOwn name) x xs own)) ∙ past_own name other xs ys p q (All-tail (IsOwn name) x xs own)

-- another keyword's chain is as long where one is set, and its lead is the same card
pub record IsKept (other : List ℕ) (cards after : List (List ℕ)) : Type 0 where
  pub chain : chain_from (from_lead other after) ≡ chain_from (from_lead other cards)
  pub lead : option_map (λ (f : From). f.0) (from_lead other after) ≡ option_map (λ (f : From). f.0) (from_lead other cards)

-- where the new card is the keyword's, and no link
pub set_keeps : (name other : List ℕ) (cards after : List (List ℕ)) (card : List ℕ) → IsSet name cards after card → name ≢ other → codes "CONTINUE" ≢ other → keyword_name card ≡ name → has_value card ≡ true → IsKept other cards after
set_keeps name other cards after card w p q named valued =
    let first = from_lead other w.front in
    let before = ap (from_lead other) w.was ∙ from_lead-append other w.front (w.gone ++ w.behind) in
    let now = ap (from_lead other) w.is ∙ from_lead-append other w.front (card ∷ w.behind) in
    let later : from_lead other (card ∷ w.behind) ≡ from_lead other (w.gone ++ w.behind) =
    cond-false (is_value_of other card) _ _ (other_card name other card p q (inl named)) ∙ sym (past_own name other w.gone w.behind p q w.own) in
    let edge : links_of (card ∷ w.behind) ≡ [] = ap (λ link. link_before link (links_of w.behind)) (valued_no_link card valued) in
    record {
      chain = ap chain_from now ∙ (chain_or_later first _ _ (card ∷ w.behind) (w.gone ++ w.behind) edge w.edge later ∙ sym (ap chain_from before));
      lead = ap (option_map (λ (f : From). f.0)) now ∙ (card_or_later first _ _ (card ∷ w.behind) (w.gone ++ w.behind) later ∙ sym (ap (option_map (λ (f : From). f.0)) before));
    }

-- a card that has a name and a value is its lead where it comes first
lead_from_parts : (name card : List ℕ) → keyword_name card ≡ name → has_value card ≡ true → is_value_of name card ≡ true
unfolding is_value_of
lead_from_parts name card named valued = and_from _ _ ((bytes_eq-Decides (keyword_name card) name).1 named) valued

-- the keyword's own lead is the new card
pub set_leads : (name : List ℕ) (cards after : List (List ℕ)) (card : List ℕ) → (w : IsSet name cards after card) → keyword_name card ≡ name → has_value card ≡ true → from_lead name after ≡ Some (card, w.behind)
set_leads name cards after card w named valued =
    ap (from_lead name) w.is ∙ (from_lead-append name w.front (card ∷ w.behind)
    ∙ (ap (λ from. or_later (option_map (before_more (card ∷ w.behind)) from) (from_lead name (card ∷ w.behind))) w.none
    ∙ cond-true (is_value_of name card) _ _ (lead_from_parts name card named valued)))

-- a string that ends in no ampersand is a chain of its own
pub chain_alone : (card text : List ℕ) (cards : List (List ℕ)) → has_value card ≡ true → card_string card ≡ Some text → ends_in_ampersand text ≡ false → first_chain_length (card ∷ cards) ≡ 1
chain_alone card text cards valued says closed = chain_valued card cards valued ∙ (ap (λ o. string_cards o cards) says ∙ ap (λ n. 1 + n) (none_after (links_of cards)))
  where
    none_after : (links : List (List ℕ × Option (List ℕ))) → links_after text links ≡ 0
    none_after [] = refl
    none_after (link ∷ links) = cond-false (ends_in_ampersand text) _ 0 closed

-- without a lead none are read
nowhere_reads : (cards : List (List ℕ)) (name : List ℕ) → lead_place cards name ≡ None → keyword_reads cards name ≡ 0
unfolding keyword_reads
nowhere_reads cards name e = ap (λ place. option_map_or (λ (place : ℕ). chain_length cards place + 1) place 0) e

-- how many cards are read for a keyword, by its chain
pub reads_by_chain : (cards : List (List ℕ)) (name : List ℕ) → keyword_reads cards name ≡ option_map_or (λ n. n + 1) (chain_from (from_lead name cards)) 0
reads_by_chain cards name = elim (leads name cards) [
  | inl w ↦ nowhere_reads cards name (place_nowhere name cards w) ∙ sym (ap (λ from. option_map_or (λ n. n + 1) (chain_from from) 0) w.none)
  | inr s ↦
      let w = s.1 in
      lead_reads cards name (s.0 + 1) (sym (place_there name cards s.0 w)) ∙ (ap (λ n. n + 1) (chain_there cards s.0 (w.card ∷ w.others) w.parts) ∙ sym (ap (λ from. option_map_or (λ n. n + 1) (chain_from from) 0) w.found))
]

-- how many cards a keyword has, by its chain
pub count_by_chain : (cards : List (List ℕ)) (name : List ℕ) → own_count cards name ≡ option_map_or (λ n. 1 + (n - 1)) (chain_from (from_lead name cards)) 0
count_by_chain cards name = elim (leads name cards) [
  | inl w ↦ ap (λ at. option_map_or (λ (at : KeywordCards). at.count) at 0) (keyword_nowhere cards name (sym (place_nowhere name cards w))) ∙ sym (ap (λ from. option_map_or (λ n. 1 + (n - 1)) (chain_from from) 0) w.none)
  | inr s ↦
      let w = s.1 in
      ap (λ at. option_map_or (λ (at : KeywordCards). at.count) at 0) (keyword_at cards name (s.0 + 1) (sym (place_there name cards s.0 w)))
      ∙ (ap (λ n. 1 + n) (chained cards s.0 (w.card ∷ w.others) w.parts) ∙ sym (ap (λ from. option_map_or (λ n. 1 + (n - 1)) (chain_from from) 0) w.found))
]
