-- What places say, as a function and as a relation: each string has its chain.
use Rattle.std.proofs.Common.{◌≡◌, ℕ, ◌+◌, ◌<◌, ◌≤◌, cond, List, [], ◌∷◌, ◌++◌, length, take, arith, codes, bytes_eq, All, Option, None, Some, refl, sym, ◌∙◌, ap, subst, inl, inr, ◌&&◌, append_assoc}
use Rattle.std.specs.List.{flat_map}
use Rattle.std.specs.Option.{option_map}
use Rattle.std.proofs.lemmas.Bool.{cases_Bool, both_ways, and_parts, and_from, cond-true, cond-false}
use Rattle.std.proofs.lemmas.List.Elements.{All-cons, All-nil}
use Rattle.std.proofs.lemmas.Slice.Eq.{bytes_eq-Decides}
use Rattle.std.proofs.lemmas.Option.{some_pair_parts}
use Rattle.fits_card.specs.Card.{keyword_name, indicator, has_value, HasValue}
use Rattle.fits_value.proofs.AmpersandLemmas.{ampersand_told, ampersand_said}
use Rattle.fits_value.proofs.ChainingLemmas.{Link, card_string-said, link_string-said}
use Rattle.fits_value.proofs.PlaceLemmas.{chain_length-string}
use Rattle.fits_value.proofs.FrontLemmas.{chosen, option_map_some}
use Rattle.fits_laws.proofs.LongStringLemmas.{cons_parts, chain_begins, one_chain}
use Rattle.fits_laws.proofs.LongValueLemmas.{long_only, long_alone, valueless, stringless}
use Rattle.fits_value.proofs.ReadLemmas.{Said}
use Rattle.fits_laws.proofs.OneValueLemmas.{same_said}
use Rattle.fits_value.proofs.SaysLemmas.{card_said, card_told}
use Rattle.fits_value.specs.Text.{normal_form}
use Rattle.fits_value.specs.Value.{CardSays}
use Rattle.fits_value.specs.LongString.{EndsInAmpersand, cards_from, without_last}
use Rattle.fits_laws.specs.LongStrings.{Piece, SaysPiece, IsContinueCard, BeginsWithContinue, BeginsChain, IsChain, IsRun, LongSays}
use Rattle.fits_value.specs.Says.{card_says, string_with, said_string, card_string, is_continue, link_string, link_says, link_before, links_of, ends_in_ampersand, joined, links_after, string_cards, continued, first_says, first_chain_length, long_says, chain_length, IsLink}
use Rattle.fits_value.specs.declared.value.Value.{Value}
use Rattle.fits_value.specs.declared.value.Value.TheVariants.{Str}

-- a value that is a string
string_value : (v : Value) (c : Option (List ℕ)) (link : Link) → string_with v c ≡ Some link → (v ≡ Str link.0) × (c ≡ link.1)
string_value (Str text) c link e = let p = some_pair_parts text link.0 c link.1 e in (ap Str p.0, p.1)
string_value v c link e = absurd (cc)

-- what is said and is a string
string_told : (o : Option Said) (link : Link) → said_string o ≡ Some link → o ≡ Some (Str link.0, link.1)
string_told None link e = absurd (cc)
string_told (Some x) link e = let p = string_value x.0 x.1 link e in same_said x (Str link.0, link.1) p.0 p.1

-- a link is a proper CONTINUE card, which says its string
link_told : (card : List ℕ) (link : Link) → link_says card ≡ Some link → IsContinueCard card × CardSays card (Str link.0) link.1
unfolding link_says is_continue
link_told card link e = elim (chosen (bytes_eq (keyword_name card) (codes "CONTINUE") && bytes_eq (indicator card) (codes "  ")) (said_string (card_says card)) None (Some link) e) [
  | inl w ↦
      let both = and_parts (bytes_eq (keyword_name card) (codes "CONTINUE")) (bytes_eq (indicator card) (codes "  ")) w.0 in
      let says = card_told card (Str link.0) link.1 (string_told (card_says card) link w.1) in (
        record {
          named = (bytes_eq-Decides (keyword_name card) (codes "CONTINUE")).0 both.0;
          not_indicated = (bytes_eq-Decides (indicator card) (codes "  ")).0 both.1;
          text = link.0;
          comment = link.1;
          says = says;
        },
        says,
      )
  | inr w ↦ absurd (let z = w.1 in (cc))
]

-- a proper CONTINUE card is a link
link_said : (card : List ℕ) → (h : IsContinueCard card) → link_says card ≡ Some (h.text, h.comment)
unfolding link_says is_continue
link_said card h =
    let named = (bytes_eq-Decides (keyword_name card) (codes "CONTINUE")).1 h.named in
    let spaced = (bytes_eq-Decides (indicator card) (codes "  ")).1 h.not_indicated in
    cond-true (bytes_eq (keyword_name card) (codes "CONTINUE") && bytes_eq (indicator card) (codes "  ")) (said_string (card_says card)) None (and_from _ _ named spaced) ∙ ap said_string (card_said card (Str h.text) h.comment h.says)

-- a card that is no link does not continue a chain
link_missed : (card : List ℕ) (cards : List (List ℕ)) → link_says card ≡ None → BeginsWithContinue (card ∷ cards) → ⊥
link_missed card cards e h =
    let is : card ≡ h.0 = (cons_parts card h.0 cards h.1 h.2).0 in
    let found = link_said h.0 h.3 in
    let none : link_says h.0 ≡ None = ap link_says (sym is) ∙ e in
    (cc)

-- no card continues a chain after the last one
none_behind : BeginsWithContinue [] → ⊥
none_behind h = let e = h.2 in (cc)

-- the chain that begins with a piece, what it joins to and how many links it has
record Chains (piece : Piece) (cards : List (List ℕ)) (whole : Link) (links : ℕ) : Type 0 where
  front : List Piece
  last : Piece
  rest : List (List ℕ)
  run : IsRun (piece.card ∷ cards) front last rest
  longest : EndsInAmpersand last.text → BeginsWithContinue rest → ⊥
  joined_is : whole.0 ≡ flat_map (λ p. without_last p.text) front ++ last.text
  comment_is : whole.1 ≡ last.comment
  size : length front ≡ links

-- a piece that nothing continues
chain_ends : (piece : Piece) (cards : List (List ℕ)) → SaysPiece piece → (EndsInAmpersand piece.text → BeginsWithContinue cards → ⊥) → Chains piece cards (piece.text, piece.comment) 0
chain_ends piece cards says longest = record {
  front = [];
  last = piece;
  rest = cards;
  run = record {
    parts = refl;
    say = All-cons SaysPiece piece [] says (All-nil SaysPiece);
    are_open = All-nil (λ (x : Piece). EndsInAmpersand x.text);
    continued = All-nil (λ (x : Piece). IsContinueCard x.card);
  };
  longest = longest;
  joined_is = refl;
  comment_is = refl;
  size = refl;
}

-- all pieces of a run stand on proper CONTINUE cards where the first does
all_continue : (card : List ℕ) (cards : List (List ℕ)) (front : List Piece) (last : Piece) (rest : List (List ℕ)) → IsContinueCard card → IsRun (card ∷ cards) front last rest → All (λ (x : Piece). IsContinueCard x.card) (front ++ last ∷ [])
all_continue card cards [] last rest is h =
    let same = (cons_parts card last.card cards rest h.parts).0 in
    All-cons (λ (x : Piece). IsContinueCard x.card) last [] (subst (λ (x : List ℕ). IsContinueCard x) same is) (All-nil (λ (x : Piece). IsContinueCard x.card))
all_continue card cards (p ∷ front) last rest is h =
    let same = (cons_parts card p.card cards _ h.parts).0 in
    All-cons (λ (x : Piece). IsContinueCard x.card) p (front ++ last ∷ []) (subst (λ (x : List ℕ). IsContinueCard x) same is) h.continued

-- a piece that a chain continues
chain_grows : (piece : Piece) (card : List ℕ) (cards : List (List ℕ)) (next : Piece) (whole : Link) (links : ℕ) → SaysPiece piece → EndsInAmpersand piece.text → next.card ≡ card → IsContinueCard card → Chains next cards whole links
    → Chains piece (card ∷ cards) (without_last piece.text ++ whole.0, whole.1) (1 + links)
chain_grows piece card cards next whole links says is_open at is h =
    let run = subst (λ (x : List ℕ). IsRun (x ∷ cards) h.front h.last h.rest) at h.run in
    record {
      front = piece ∷ h.front;
      last = h.last;
      rest = h.rest;
      run = record {
        parts = ap (λ (x : List (List ℕ)). piece.card ∷ x) run.parts;
        say = All-cons SaysPiece piece (h.front ++ h.last ∷ []) says run.say;
        are_open = All-cons (λ (x : Piece). EndsInAmpersand x.text) piece h.front is_open run.are_open;
        continued = all_continue card cards h.front h.last h.rest is run;
      };
      longest = h.longest;
      joined_is = ap (λ (x : List ℕ). without_last piece.text ++ x) h.joined_is ∙ sym (append_assoc (without_last piece.text) _ h.last.text);
      comment_is = h.comment_is;
      size = omega (arith, h.size);
    }

-- what a piece is joined to, by what the card after it says
chain_behind : (piece : Piece) (card : List ℕ) (cards : List (List ℕ)) (o : Option Link) → SaysPiece piece → link_says card ≡ o
    → ((next : Piece) → SaysPiece next → Chains next cards (joined next.text next.comment (links_of cards)) (links_after next.text (links_of cards)))
    → Chains piece (card ∷ cards) (joined piece.text piece.comment (link_before o (links_of cards))) (links_after piece.text (link_before o (links_of cards)))
chain_behind piece card cards None says e more = chain_ends piece (card ∷ cards) says (λ _ begins. link_missed card cards e begins)
chain_behind piece card cards (Some link) says e more =
    let next : Piece = record { card = card; text = link.0; comment = link.1 } in
    let told = link_told card link e in
    let whole = joined link.0 link.1 (links_of cards) in
    let on : Link = (without_last piece.text ++ whole.0, whole.1) in
    let off : Link = (piece.text, piece.comment) in
    let more_links = links_after link.0 (links_of cards) in
    let count = cond (ends_in_ampersand piece.text) (1 + more_links) 0 in
    elim (cases_Bool (ends_in_ampersand piece.text)) [
      | inl is_open ↦
          subst (λ (x : Link). Chains piece (card ∷ cards) x count) (sym (cond-true (ends_in_ampersand piece.text) on off is_open))
          (subst (λ (n : ℕ). Chains piece (card ∷ cards) on n) (sym (cond-true (ends_in_ampersand piece.text) (1 + more_links) 0 is_open))
          (chain_grows piece card cards next whole more_links says (ampersand_told piece.text is_open) refl told.0 (more next told.1)))
      | inr closed ↦
          subst (λ (x : Link). Chains piece (card ∷ cards) x count) (sym (cond-false (ends_in_ampersand piece.text) on off closed))
          (subst (λ (n : ℕ). Chains piece (card ∷ cards) off n) (sym (cond-false (ends_in_ampersand piece.text) (1 + more_links) 0 closed))
          (chain_ends piece (card ∷ cards) says (λ is_open _. both_ways (ends_in_ampersand piece.text) closed (ampersand_said piece.text is_open))))
    ]

-- each piece begins a chain, which joins to what its links do
chain_made : (cards : List (List ℕ)) (piece : Piece) → SaysPiece piece → Chains piece cards (joined piece.text piece.comment (links_of cards)) (links_after piece.text (links_of cards))
chain_made [] piece says = chain_ends piece [] says (λ _ begins. none_behind begins)
chain_made (card ∷ cards) piece says = chain_behind piece card cards (link_says card) says refl (chain_made cards)

-- the chain of a card whose value is a string
record IsChainOf (cards : List (List ℕ)) (place : ℕ) (whole : Link) (links : ℕ) : Type 0 where
  front : List Piece
  last : Piece
  is_chain : IsChain cards place front last
  joined_is : whole.0 ≡ flat_map (λ p. without_last p.text) front ++ last.text
  comment_is : whole.1 ≡ last.comment
  size : length front ≡ links

-- each has one
chain_of : (cards : List (List ℕ)) (place : ℕ) (card : List ℕ) (rest : List (List ℕ)) (text : List ℕ) (c : Option (List ℕ)) → cards_from cards place ≡ card ∷ rest → HasValue card → CardSays card (Str text) c
    → IsChainOf cards place (joined text c (links_of rest)) (links_after text (links_of rest))
chain_of cards place card rest text c at value says =
    let h = chain_made rest (record { card = card; text = text; comment = c }) says in
    record {
      front = h.front;
      last = h.last;
      is_chain = record {
        rest = h.rest;
        run = subst (λ (x : List (List ℕ)). IsRun x h.front h.last h.rest) (sym at) h.run;
        first = subst (λ (x : List (List ℕ)). All HasValue (take 1 x)) (sym at) (All-cons HasValue card [] value (All-nil HasValue));
        longest = h.longest;
      };
      joined_is = h.joined_is;
      comment_is = h.comment_is;
      size = h.size;
    }

-- a card's value with what continues it, where it has a value field
continued_told : (cards : List (List ℕ)) (place : ℕ) (card : List ℕ) (rest : List (List ℕ)) (v : Value) (c : Option (List ℕ)) → cards_from cards place ≡ card ∷ rest → HasValue card → CardSays card v c
    → LongSays cards place (continued v c rest).0 (continued v c rest).1
continued_told cards place card rest (Str text) c at value says =
    let h = chain_of cards place card rest text c at value says in
    inl (record {
      front = h.front;
      last = h.last;
      is_chain = h.is_chain;
      value_is = ap (λ (x : List ℕ). Str (normal_form x)) h.joined_is;
      comment_is = h.comment_is;
    })
continued_told cards place card rest v c at value says = long_alone cards place card rest v c at says (stringless cards place card rest v c at says (λ text e. (cc)))

-- what the first card says with those after it
first_told : (cards : List (List ℕ)) (place : ℕ) (s : List (List ℕ)) (v : Value) (c : Option (List ℕ)) → cards_from cards place ≡ s → first_says s ≡ Some (v, c) → LongSays cards place v c
first_told cards place [] v c at e = absurd (cc)
first_told cards place (card ∷ rest) v c at e = elim (chosen (has_value card) (option_map (λ (x : Said). continued x.0 x.1 rest) (card_says card)) (card_says card) (Some (v, c)) e) [
  | inl w ↦
      let x = option_map_some (λ (x : Said). continued x.0 x.1 rest) (card_says card) (v, c) w.1 in
      subst (λ (y : Said). LongSays cards place y.0 y.1) x.2 (continued_told cards place card rest x.0.0 x.0.1 at w.0 (card_told card x.0.0 x.0.1 x.1))
  | inr w ↦ long_alone cards place card rest v c at (card_told card v c w.1) (valueless cards place card rest at (both_ways (has_value card) w.0))
]

-- what is found, a place says
pub place_told : (cards : List (List ℕ)) (place : ℕ) (v : Value) (c : Option (List ℕ)) → long_says cards place ≡ Some (v, c) → LongSays cards place v c
unfolding long_says
place_told cards place v c e = first_told cards place (cards_from cards place) v c refl e

-- a card that says something, and those after it
record SaysFirst (cards : List (List ℕ)) : Type 0 where
  card : List ℕ
  at : take 1 cards ≡ card ∷ []
  said : Said
  is_said : card_says card ≡ Some said

-- one stands where a place says something
says_first : (cards : List (List ℕ)) (place : ℕ) (v : Value) (c : Option (List ℕ)) → LongSays cards place v c → SaysFirst (cards_from cards place)
says_first cards place v c (inl h) =
    let b = chain_begins cards place h.front h.last h.is_chain in
    record { card = b.piece.card; at = b.at; said = (Str b.piece.text, b.piece.comment); is_said = card_said b.piece.card (Str b.piece.text) b.piece.comment b.says }
says_first cards place v c (inr h) = record { card = h.card; at = h.at; said = (v, c); is_said = card_said h.card v c h.says }

-- then something is found
first_found : (s : List (List ℕ)) → SaysFirst s → (x : Said) × (first_says s ≡ Some x)
first_found [] h = absurd (let e = h.at in (cc))
first_found (card ∷ rest) h =
    let same : card ≡ h.card = (cons_parts card h.card [] [] h.at).0 in
    let said : card_says card ≡ Some h.said = ap card_says same ∙ h.is_said in
    elim (cases_Bool (has_value card)) [
      | inl e ↦ (continued h.said.0 h.said.1 rest, cond-true (has_value card) _ _ e ∙ ap (option_map (λ (x : Said). continued x.0 x.1 rest)) said)
      | inr e ↦ (h.said, cond-false (has_value card) _ _ e ∙ said)
    ]

-- what a place says is found
pub place_said : (cards : List (List ℕ)) (place : ℕ) (v : Value) (c : Option (List ℕ)) → LongSays cards place v c → long_says cards place ≡ Some (v, c)
unfolding long_says
place_said cards place v c h =
    let found = first_found (cards_from cards place) (says_first cards place v c h) in
    let told = first_told cards place (cards_from cards place) found.0.0 found.0.1 refl found.1 in
    found.1 ∙ long_only cards place found.0 (v, c) told h

-- a card that begins a chain
record BeginsWith (cards : List (List ℕ)) : Type 0 where
  card : List ℕ
  rest : List (List ℕ)
  text : List ℕ
  comment : Option (List ℕ)
  at : cards ≡ card ∷ rest
  value : HasValue card
  says : CardSays card (Str text) comment

-- the first card of a chain is one
begins_with : (cards : List (List ℕ)) (piece : Piece) → All HasValue (take 1 cards) → SaysPiece piece → take 1 cards ≡ piece.card ∷ [] → BeginsWith cards
begins_with [] piece first says at = absurd (cc)
begins_with (card ∷ rest) piece first says at =
    let same : card ≡ piece.card = (cons_parts card piece.card [] [] at).0 in
    record {
      card = card;
      rest = rest;
      text = piece.text;
      comment = piece.comment;
      at = refl;
      value = first 0 card (omega arith);
      says = subst (λ (x : List ℕ). CardSays x (Str piece.text) piece.comment) (sym same) says;
    }

-- how many cards a chain has
pub chain_length-chain : (cards : List (List ℕ)) (place : ℕ) (front : List Piece) (last : Piece) → IsChain cards place front last → chain_length cards place ≡ length front + 1
chain_length-chain cards place front last h =
    let b = chain_begins cards place front last h in
    let w = begins_with (cards_from cards place) b.piece b.first b.says b.at in
    let own = chain_of cards place w.card w.rest w.text w.comment w.at w.value w.says in
    let same = one_chain cards place front own.front last own.last h own.is_chain in
    let count = chain_length-string cards place w.card w.rest w.at w.text w.value (card_string-said w.card w.text w.comment (card_said w.card (Str w.text) w.comment w.says)) in
    omega (arith, count, own.size, ap (λ (x : List Piece). length x) same.0)

-- a card with a value that is a string begins a chain
begins : (cards : List (List ℕ)) (place : ℕ) (card text : List ℕ) (rest : List (List ℕ)) (c : Option (List ℕ)) → cards_from cards place ≡ card ∷ rest → HasValue card → CardSays card (Str text) c → BeginsChain cards place
begins cards place card text rest c at value says = record {
  first = subst (λ (x : List (List ℕ)). All HasValue (take 1 x)) (sym at) (All-cons HasValue card [] value (All-nil HasValue));
  piece = record { card = card; text = text; comment = c };
  says = says;
  at = ap (λ (x : List (List ℕ)). take 1 x) at;
}

-- where none begins there are none
pub chain_length-none : (cards : List (List ℕ)) (place : ℕ) → (BeginsChain cards place → ⊥) → chain_length cards place ≡ 0
unfolding chain_length card_string
chain_length-none cards place none = first_none (cards_from cards place) refl
  where
    said_none : (card : List ℕ) (rest : List (List ℕ)) (o : Option Link) → cards_from cards place ≡ card ∷ rest → HasValue card → said_string (card_says card) ≡ o → string_cards (option_map (λ (x : Link). x.0) o) rest ≡ 0
    said_none card rest None at value e = refl
    said_none card rest (Some link) at value e = absurd (none (begins cards place card link.0 rest link.1 at value (card_told card (Str link.0) link.1 (string_told (card_says card) link e))))

    first_none : (s : List (List ℕ)) → cards_from cards place ≡ s → first_chain_length s ≡ 0
    first_none [] at = refl
    first_none (card ∷ rest) at = elim (cases_Bool (has_value card)) [
      | inl valued ↦ cond-true (has_value card) _ _ valued ∙ said_none card rest (said_string (card_says card)) at valued refl
      | inr bare ↦ cond-false (has_value card) _ _ bare
    ]

-- where it isn't 0 a chain begins
chain_length-some : (cards : List (List ℕ)) (place : ℕ) → 0 < chain_length cards place → (front : List Piece) × (last : Piece) × IsChain cards place front last
unfolding chain_length card_string
chain_length-some cards place some = first_some (cards_from cards place) refl some
  where
    said_some : (card : List ℕ) (rest : List (List ℕ)) (o : Option Link) → cards_from cards place ≡ card ∷ rest → HasValue card → said_string (card_says card) ≡ o → 0 < string_cards (option_map (λ (x : Link). x.0) o) rest
        → (front : List Piece) × (last : Piece) × IsChain cards place front last
    said_some card rest None at value e some = absurd (omega (arith, some))
    said_some card rest (Some link) at value e some =
        let h = chain_of cards place card rest link.0 link.1 at value (card_told card (Str link.0) link.1 (string_told (card_says card) link e)) in
        (h.front, h.last, h.is_chain)

    first_some : (s : List (List ℕ)) → cards_from cards place ≡ s → 0 < first_chain_length s → (front : List Piece) × (last : Piece) × IsChain cards place front last
    first_some [] at some = absurd (omega (arith, some))
    first_some (card ∷ rest) at some = elim (cases_Bool (has_value card)) [
      | inl valued ↦ said_some card rest (said_string (card_says card)) at valued refl (subst (λ (n : ℕ). 0 < n) (cond-true (has_value card) _ _ valued) some)
      | inr bare ↦ absurd (omega (arith, some, cond-false (has_value card) (string_cards (option_map (λ (x : Link). x.0) (said_string (card_says card))) rest) 0 bare))
    ]

-- a card of a chain after its first is a link
pub link_in_chain : (cards : List (List ℕ)) (first place : ℕ) (front : List Piece) (last : Piece) → IsChain cards first front last → 1 ≤ first → first < place → place ≤ first + length front → IsLink cards place
link_in_chain cards first place front last h from before to = record {
  first = first;
  from = from;
  before = before;
  within = omega (arith, chain_length-chain cards first front last h);
}

-- and each link stands in one so
pub chain_of_link : (cards : List (List ℕ)) (place : ℕ) → (h : IsLink cards place) → (front : List Piece) × (last : Piece) × IsChain cards h.first front last × (place ≤ h.first + length front)
chain_of_link cards place h =
    let begun = chain_length-some cards h.first (omega (arith, h.before, h.within)) in
    (begun.0, begun.1, begun.2, omega (arith, h.within, chain_length-chain cards h.first begun.0 begun.1 begun.2))

-- the string of a card
pub string_found : (card text : List ℕ) (comment : Option (List ℕ)) → CardSays card (Str text) comment → card_string card ≡ Some text
string_found card text comment h = card_string-said card text comment (card_said card (Str text) comment h)

-- is what the card says
pub string_told_of : (card text : List ℕ) → card_string card ≡ Some text → (comment : Option (List ℕ)) × CardSays card (Str text) comment
unfolding card_string
string_told_of card text e =
    let link = option_map_some (λ (x : Link). x.0) (said_string (card_says card)) text e in
    let says = card_told card (Str link.0.0) link.0.1 (string_told (card_says card) link.0 link.1) in
    (link.0.1, subst (λ (x : List ℕ). CardSays card (Str x) link.0.1) link.2 says)

-- the string of a proper CONTINUE card
pub link_found : (card : List ℕ) → (h : IsContinueCard card) → link_string card ≡ Some h.text
link_found card h = link_string-said card ∙ ap (λ (o : Option Link). option_map (λ (x : Link). x.0) o) (link_said card h)

-- stands on one
pub link_told_of : (card text : List ℕ) → link_string card ≡ Some text → IsContinueCard card × ((comment : Option (List ℕ)) × CardSays card (Str text) comment)
link_told_of card text e =
    let link = option_map_some (λ (x : Link). x.0) (link_says card) text (sym (link_string-said card) ∙ e) in
    let told = link_told card link.0 link.1 in
    (told.0, (link.0.1, subst (λ (x : List ℕ). CardSays card (Str x) link.0.1) link.2 told.1))
