-- Cards that begin strings.
use Rattle.std.proofs.Common.{◌≡◌, ℕ, true, false, is_some, List, Option, None, sym, ap}
use Rattle.std.proofs.lemmas.Bool.{cond-true, cond-false}
use Rattle.fits_card.specs.Card.{has_value}
use Rattle.fits_value.specs.Says.{card_string}
use Rattle.fits_rules.specs.Reads.{string_said}

-- a card with a value field begins a string where it says one
pub begins-field : (card : List ℕ) → has_value card ≡ true → is_some (card_string card) ≡ is_some (string_said card)
unfolding string_said
begins-field card holds = sym (ap (λ (o : Option (List ℕ)). is_some o) (cond-true (has_value card) (card_string card) None holds))

-- another begins none
pub begins-no_field : (card : List ℕ) → has_value card ≡ false → false ≡ is_some (string_said card)
unfolding string_said
begins-no_field card fails = sym (ap (λ (o : Option (List ℕ)). is_some o) (cond-false (has_value card) (card_string card) None fails))
