-- What a place says and how long its chain is, by what its card says.
use Rattle.std.proofs.Common.{◌≡◌, ℕ, ◌+◌, true, false, List, ◌∷◌, Option, None, Some, refl, sym, ◌∙◌, ap, inl, inr}
use Rattle.std.specs.Option.{option_map}
use Rattle.std.proofs.lemmas.Bool.{cases_Bool, cond-true, cond-false}
use Rattle.fits_card.specs.Card.{has_value}
use Rattle.fits_value.proofs.ReadLemmas.{Said}
use Rattle.fits_value.specs.LongString.{cards_from}
use Rattle.fits_value.specs.Says.{card_says, card_string, links_of, links_after, string_cards, whole_string, continued, first_says, first_chain_length, long_says, chain_length}
use Rattle.fits_value.specs.declared.value.Value.{Value}
use Rattle.fits_value.specs.declared.value.Value.TheVariants.{Str}

-- a place says what its first card does, with those after it
module _ (cards : List (List ℕ)) (place : ℕ) (card : List ℕ) (rest : List (List ℕ)) (at : cards_from cards place ≡ card ∷ rest) where
  -- what it says where its card has a value field
  place_valued : has_value card ≡ true → long_says cards place ≡ option_map (λ (x : Said). continued x.0 x.1 rest) (card_says card)
  unfolding long_says
  place_valued e = ap first_says at ∙ cond-true (has_value card) _ _ e

  -- what it says where its card has none
  pub place_valueless : has_value card ≡ false → long_says cards place ≡ card_says card
  unfolding long_says
  place_valueless e = ap first_says at ∙ cond-false (has_value card) _ _ e

  -- a card that says nothing
  pub place_silent : card_says card ≡ None → long_says cards place ≡ None
  place_silent e = elim (cases_Bool (has_value card)) [
    | inl valued ↦ place_valued valued ∙ ap (λ (o : Option Said). option_map (λ (x : Said). continued x.0 x.1 rest) o) e
    | inr bare ↦ place_valueless bare ∙ e
  ]

  -- a card that says something
  pub place_speaks : (x : Said) → card_says card ≡ Some x → long_says cards place ≡ None → ⊥
  place_speaks x e none = elim (cases_Bool (has_value card)) [
    | inl valued ↦
        let z : None ≡ Some (continued x.0 x.1 rest) = sym none ∙ (place_valued valued ∙ ap (λ (o : Option Said). option_map (λ (y : Said). continued y.0 y.1 rest) o) e) in
        (cc)
    | inr bare ↦ let z : None ≡ Some x = sym none ∙ (place_valueless bare ∙ e) in (cc)
  ]

  -- nothing is said where the card says nothing
  pub place_none : long_says cards place ≡ None → card_says card ≡ None
  place_none none = silent (card_says card) refl
    where
      silent : (o : Option Said) → card_says card ≡ o → card_says card ≡ None
      silent None e = e
      silent (Some x) e = absurd (place_speaks x e none)

  -- a string goes on in its links
  pub place_string : (text : List ℕ) (c : Option (List ℕ)) → has_value card ≡ true → card_says card ≡ Some (Str text, c)
      → long_says cards place ≡ Some (Str (whole_string text c rest).0, (whole_string text c rest).1)
  place_string text c valued e = place_valued valued ∙ ap (λ (o : Option Said). option_map (λ (x : Said). continued x.0 x.1 rest) o) e

  -- another value stands alone
  pub place_other : (v : Value) (c : Option (List ℕ)) → has_value card ≡ true → card_says card ≡ Some (v, c) → ((text : List ℕ) → v ≡ Str text → ⊥) → long_says cards place ≡ Some (v, c)
  place_other v c valued e other = place_valued valued ∙ (ap (λ (o : Option Said). option_map (λ (x : Said). continued x.0 x.1 rest) o) e ∙ ap Some (alone v c rest other))
    where
      alone : (v : Value) (c : Option (List ℕ)) (rest : List (List ℕ)) → ((text : List ℕ) → v ≡ Str text → ⊥) → continued v c rest ≡ (v, c)
      alone (Str text) c rest other = absurd (other text refl)
      alone v c rest other = refl

  -- a chain begins at a value that is a string
  pub chain_length-string : (text : List ℕ) → has_value card ≡ true → card_string card ≡ Some text → chain_length cards place ≡ 1 + links_after text (links_of rest)
  unfolding chain_length
  chain_length-string text valued e = ap first_chain_length at ∙ (cond-true (has_value card) _ _ valued ∙ ap (λ (o : Option (List ℕ)). string_cards o rest) e)

  -- at no other value
  pub chain_length-other : card_string card ≡ None → chain_length cards place ≡ 0
  unfolding chain_length
  chain_length-other e = elim (cases_Bool (has_value card)) [
    | inl valued ↦ ap first_chain_length at ∙ (cond-true (has_value card) _ _ valued ∙ ap (λ (o : Option (List ℕ)). string_cards o rest) e)
    | inr bare ↦ ap first_chain_length at ∙ cond-false (has_value card) _ _ bare
  ]

  -- and at no card without a value
  pub chain_length-valueless : has_value card ≡ false → chain_length cards place ≡ 0
  unfolding chain_length
  chain_length-valueless bare = ap first_chain_length at ∙ cond-false (has_value card) _ _ bare
