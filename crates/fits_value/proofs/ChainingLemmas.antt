-- The steps along a chain: what the links after a text come to, by the first of them.
use Rattle.std.proofs.Common.{◌≡◌, ℕ, ◌≤◌, ◌<◌, ◌+◌, Bool, true, false, List, [], ◌∷◌, ◌++◌, length, drop, get_or, Option, None, Some, refl, sym, ◌∙◌, ap, inl, inr, append_assoc}
use Rattle.std.specs.Option.{option_map}
use Rattle.std.proofs.lemmas.Bool.{cases_Bool, cases_lt, cond-true, cond-false}
use Rattle.std.proofs.lemmas.List.{drop_all, drop_more}
use Rattle.fits_value.proofs.FrontLemmas.{chosen}
use Rattle.fits_value.proofs.ReadLemmas.{Said}
use Rattle.fits_value.specs.LongString.{without_last}
use Rattle.fits_value.specs.Says.{card_says, said_string, card_string, is_continue, string_with, link_string, link_says, link_before, links_of, ends_in_ampersand, joined, links_after}
use Rattle.fits_value.specs.declared.value.Value.{Value}
use Rattle.fits_value.specs.declared.value.Value.TheVariants.{Str}
use Rattle.fits_value.specs.Chaining.{next_link, JoinsTo}

-- a string with its comment
abbrev pub Link : Type 0
Link = List ℕ × Option (List ℕ)

-- what is known of the cards that a text is before, where no link continues it
pub record Ends (text : List ℕ) (comment : Option (List ℕ)) (cards : List (List ℕ)) : Type 0 where
  pub whole : joined text comment (links_of cards) ≡ (text, comment)
  pub links : links_after text (links_of cards) ≡ 0

-- what is known of the cards that a text is before, where a link continues it
record GoesOn (text : List ℕ) (comment : Option (List ℕ)) (link : Link) (cards rest : List (List ℕ)) : Type 0 where
  is_open : ends_in_ampersand text ≡ true
  whole : joined text comment (links_of cards) ≡ (without_last text ++ (joined link.0 link.1 (links_of rest)).0, (joined link.0 link.1 (links_of rest)).1)
  links : links_after text (links_of cards) ≡ 1 + links_after link.0 (links_of rest)

-- a text goes on in the link that continues it
next_some : (text : List ℕ) (comment : Option (List ℕ)) (link : Link) (card : List ℕ) (rest : List (List ℕ)) → next_link text (card ∷ rest) ≡ Some link → GoesOn text comment link (card ∷ rest) rest
next_some text comment link card rest e = elim (chosen (ends_in_ampersand text) (link_says card) None (Some link) e) [
  | inl w ↦ record {
    is_open = w.0;
    whole = ap (λ (o : Option Link). joined text comment (link_before o (links_of rest))) w.1 ∙ cond-true (ends_in_ampersand text) _ _ w.0;
    links = ap (λ (o : Option Link). links_after text (link_before o (links_of rest))) w.1 ∙ cond-true (ends_in_ampersand text) _ _ w.0;
  }
  | inr w ↦ absurd (let z = w.1 in (cc))
]

-- nothing continues a text after the last card
pub next_link-end : (text : List ℕ) (place : ℕ) (cards : List (List ℕ)) → length cards ≤ place → next_link text (drop place cards) ≡ None
next_link-end text place cards within = ap (λ (x : List (List ℕ)). next_link text x) (drop_all place cards within)

-- nor one that ends in no ampersand
pub next_link-closed : (text : List ℕ) (cards : List (List ℕ)) (b : Bool) → b ≡ ends_in_ampersand text → b ≡ false → next_link text cards ≡ None
next_link-closed text [] b h e = refl
next_link-closed text (card ∷ cards) b h e = cond-false (ends_in_ampersand text) _ _ (sym h ∙ e)

-- the link of the next card
pub next_link-open : (text : List ℕ) (cards : List (List ℕ)) (card : List ℕ) (rest : List (List ℕ)) (b : Bool) → b ≡ ends_in_ampersand text → b ≡ true → cards ≡ card ∷ rest → next_link text cards ≡ link_says card
next_link-open text cards card rest b h e at = ap (λ (x : List (List ℕ)). next_link text x) at ∙ cond-true (ends_in_ampersand text) _ _ (sym h ∙ e)

-- the string of a link
pub link_string-said : (card : List ℕ) → link_string card ≡ option_map (λ (x : Link). x.0) (link_says card)
unfolding link_string link_says card_string
link_string-said card = elim (cases_Bool (is_continue card)) [
  | inl e ↦ cond-true (is_continue card) _ _ e ∙ sym (ap (λ (o : Option Link). option_map (λ (x : Link). x.0) o) (cond-true (is_continue card) (said_string (card_says card)) None e))
  | inr e ↦ cond-false (is_continue card) _ _ e ∙ sym (ap (λ (o : Option Link). option_map (λ (x : Link). x.0) o) (cond-false (is_continue card) (said_string (card_says card)) None e))
]

-- a card that is no link
pub link_says-none : (card : List ℕ) → link_string card ≡ None → link_says card ≡ None
link_says-none card e = none_mapped (link_says card) (sym (link_string-said card) ∙ e)
  where
    none_mapped : (o : Option Link) → option_map (λ (x : Link). x.0) o ≡ None → o ≡ None
    none_mapped None f = refl
    none_mapped (Some x) f = absurd (cc)

-- a link says what its card says
pub link_says-continue : (card text : List ℕ) → link_string card ≡ Some text → link_says card ≡ said_string (card_says card)
unfolding link_string link_says
link_says-continue card text e = elim (chosen (is_continue card) (card_string card) None (Some text) e) [
  | inl w ↦ cond-true (is_continue card) _ _ w.0
  | inr w ↦ absurd (let z = w.1 in (cc))
]

-- a card with a string is a link or none
pub link_speaks : (card text : List ℕ) → link_string card ≡ Some text → link_says card ≡ None → ⊥
link_speaks card text e none =
    let f = link_string-said card ∙ ap (λ (o : Option Link). option_map (λ (x : Link). x.0) o) none in
    let g : None ≡ Some text = sym f ∙ e in
    (cc)

-- a value that is no string
pub string_with-other : (v : Value) (c : Option (List ℕ)) → ((text : List ℕ) → v ≡ Str text → ⊥) → string_with v c ≡ None
string_with-other (Str text) c other = absurd (other text refl)
string_with-other v c other = refl

-- the string of a card that says one
pub card_string-said : (card text : List ℕ) (c : Option (List ℕ)) → card_says card ≡ Some (Str text, c) → card_string card ≡ Some text
unfolding card_string
card_string-said card text c e = ap (λ (o : Option Said). option_map (λ (x : Link). x.0) (said_string o)) e

-- the step of a loop over links, which counts them
pub links_step : (text : List ℕ) (link : Link) (cards : List (List ℕ)) (place : ℕ) → place < length cards → next_link text (drop place cards) ≡ Some link
    → links_after text (links_of (drop place cards)) ≡ 1 + links_after link.0 (links_of (drop (place + 1) cards))
links_step text link cards place within e =
    let at = drop_more cards place [] within in
    let on = next_some text None link (get_or cards place []) (drop (place + 1) cards) (ap (λ (x : List (List ℕ)). next_link text x) (sym at) ∙ e) in
    ap (λ (x : List (List ℕ)). links_after text (links_of x)) at ∙ on.links

-- which joins them
pub joins_step : (whole link : Link) (so_far piece : List ℕ) (comment : Option (List ℕ)) (cards : List (List ℕ)) (place : ℕ) → place < length cards → JoinsTo whole so_far piece comment (drop place cards)
    → next_link piece (drop place cards) ≡ Some link → JoinsTo whole (so_far ++ without_last piece) link.0 link.1 (drop (place + 1) cards)
joins_step whole link so_far piece comment cards place within h e =
    let at = drop_more cards place [] within in
    let on = next_some piece comment link (get_or cards place []) (drop (place + 1) cards) (ap (λ (x : List (List ℕ)). next_link piece x) (sym at) ∙ e) in
    let is = ap (λ (x : List (List ℕ)). joined piece comment (links_of x)) at ∙ on.whole in
    record {
      text = h.text ∙ (ap (λ (x : Link). so_far ++ x.0) is ∙ sym (append_assoc so_far (without_last piece) _));
      comment_is = h.comment_is ∙ ap (λ (x : Link). x.1) is;
    }

-- the next card is there where a link continues a text
pub next_within : (text : List ℕ) (link : Link) (cards : List (List ℕ)) (place : ℕ) → next_link text (drop place cards) ≡ Some link → place < length cards
next_within text link cards place e = elim (cases_lt place (length cards)) [
  | inl less ↦ less
  | inr more ↦ absurd (let z : None ≡ Some link = sym (next_link-end text place cards more) ∙ e in (cc))
]
