-- What stands round the cards of a header.
use Rattle.std.proofs.Common.{◌≡◌, ℕ, ◌-◌, ◌≤◌, Bool, List, [], length, take, get_or, sym, ◌∙◌, refl, arith}
use Rattle.std.specs.List.{All, list_any}
use Rattle.std.proofs.lemmas.List.Elements.{All-take}
use Rattle.fits_card.specs.Card.{keyword_name}
use Rattle.fits_rules.specs.Lead.{is_value_of}
use Rattle.fits_codes.specs.declared.surrounding.Surrounding.{Surrounding}
use Rattle.fits_header.specs.declared.entry.Entry.{Entry}
use Rattle.fits_header.specs.Findings.{card_of}
use Rattle.fits_header.specs.Index.{IsIndexOf}
use Rattle.fits_header.specs.Names.{AreNamed, IsName, name_number}
use Rattle.fits_header.specs.Places.{has_name}
use Rattle.fits_header.specs.Surroundings.{surrounding_at, AreRepeatsMarked}
use Rattle.fits_header.proofs.AnswerLemmas.{value_test}
use Rattle.fits_header.proofs.NumberLemmas.{same-number}
use Rattle.fits_header.proofs.RepeatLemmas.{AreMarked, has_number, has_number_value, list_any_same, marked_at, marked-all}

-- tests that agree on cards agree on the first ones
any_of_first : (p q : List ℕ → Bool) (cards : List (List ℕ)) (n : ℕ) → All (λ card. p card ≡ q card) cards → list_any p (take n cards) ≡ list_any q (take n cards)
any_of_first p q cards n same = list_any_same p q (take n cards) (All-take (λ card. p card ≡ q card) n cards same)

-- what numbers mark at a place is what stands round the card
marked_of_cards : (cards : List (List ℕ)) (place : ℕ) (s : Surrounding) → AreNamed cards → IsName (keyword_name (card_of cards place)) → marked_at cards place s ≡ record (surrounding_at cards place) { is_link = s.is_link }
marked_of_cards cards place s named own =
    let name = keyword_name (card_of cards place) in
    rw (
      any_of_first (has_number (name_number name)) (has_name name) cards (place - 1) (λ k d l. sym (same-number (keyword_name (get_or cards k d)) name (named k d l) own)),
      any_of_first (has_number_value (name_number name)) (is_value_of name) cards (place - 1) (λ k d l. value_test (get_or cards k d) name (named k d l) own),
    ) refl

-- a pass over all entries has marked the repeated names
pub repeats-marked : (es : List Entry) (old new : List Surrounding) (i : ℕ) (cards : List (List ℕ)) → AreMarked es old new i → length es ≤ i → IsIndexOf es cards → AreRepeatsMarked cards old new
repeats-marked es old new i cards marked done index place d one within =
    marked-all es old new i cards place d marked done index one within
    ∙ marked_of_cards cards place (get_or old (place - 1) d) index.named (index.named (place - 1) [] (omega arith))
