-- A header's cards, looked at by their places.
use Rattle.std.proofs.Common.{◌≡◌, ℕ, ◌-◌, ◌<◌, ◌≤◌, Bool, true, false, List, length, get_or, is_some, Option, None, Some, option_and_then, refl, sym, ◌∙◌, ap, arith}
use Rattle.std.specs.Str.{bytes_eq}
use Rattle.std.proofs.lemmas.Bool.{cond-true, cond-false}
use Rattle.std.proofs.lemmas.Option.{slice_get_past, slice_get-get_or}
use Rattle.fits_card.specs.Card.{keyword_name}
use Rattle.fits_card.specs.Header.{card_at}
use Rattle.fits_rules.specs.Shape.{card_named, if_named}

-- a card that is there, by its place
there : (cards : List (List ℕ)) (place : ℕ) (card : List ℕ) → 1 ≤ place → place ≤ length cards → card ≡ get_or cards (place - 1) card → card_at cards place ≡ Some card
there cards place card from to is = slice_get-get_or cards (place - 1) card (omega arith) ∙ ap Some (sym is)

-- whether it has a name
named_test : (card name : List ℕ) (b : Bool) → bytes_eq (keyword_name card) name ≡ b → b ≡ is_some (if_named name card)
named_test card name true e = sym (ap (λ (o : Option (List ℕ)). is_some o) (cond-true (bytes_eq (keyword_name card) name) (Some card) None e))
named_test card name false e = sym (ap (λ (o : Option (List ℕ)). is_some o) (cond-false (bytes_eq (keyword_name card) name) (Some card) None e))

-- the card at a place has a name
pub named-there : (cards : List (List ℕ)) (place : ℕ) (name card : List ℕ) → 1 ≤ place → place ≤ length cards → card ≡ get_or cards (place - 1) card → bytes_eq (keyword_name card) name ≡ is_some (card_named cards place name)
unfolding card_named
named-there cards place name card from to is =
    named_test card name (bytes_eq (keyword_name card) name) refl ∙ sym (ap (λ (o : Option (List ℕ)). is_some (option_and_then (if_named name) o)) (there cards place card from to is))

-- no card has it
pub named-past : (cards : List (List ℕ)) (place : ℕ) (name : List ℕ) → 1 ≤ place → length cards < place → false ≡ is_some (card_named cards place name)
unfolding card_named
named-past cards place name from past = sym (ap (λ (o : Option (List ℕ)). is_some (option_and_then (if_named name) o)) (slice_get_past cards (place - 1) (omega arith)))
