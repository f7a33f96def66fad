-- What the lead of a name says.
use Rattle.std.proofs.Common.{◌≡◌, ℕ, ◌+◌, ◌-◌, ◌≤◌, Bool, true, false, List, [], ◌∷◌, length, Option, None, Some, refl, sym, subst, arith}
use Rattle.std.specs.Prelude.{Ok, Err, IsOk, if◌then◌else◌}
use Rattle.std.proofs.lemmas.List.{length-drop}
use Rattle.fits_card.specs.Card.{has_value}
use Rattle.fits_value.specs.Says.{card_string, link_says, link_before, links_of, ends_in_ampersand, links_after, string_cards, first_chain_length, chain_length, link_count, long_says}
use Rattle.fits_value.specs.LongString.{cards_from}
use Rattle.fits_value.specs.declared.value.Value.{Value}
use Rattle.fits_rules.specs.Lead.{lead_place}
use Rattle.fits_rules.proofs.LeadCardLemmas.{lead_from, lead_to}
use Rattle.fits_hdu.specs.declared.keyword.KeywordFault.TheVariants.{NoKey, BadValue}
use Rattle.fits_hdu.specs.Keyword.{keyword_cards, keyword_value, with_links}
use Rattle.fits_hdu.specs.Work.{keyword_reads}
use Rattle.fits_hdu.specs.declared.keyword_cards.KeywordCards.{KeywordCards}

-- the lead says this
pub lead_says : (cards : List (List ℕ)) (name : List ℕ) (place : ℕ) (said : Value × Option (List ℕ)) → Some place ≡ lead_place cards name → Some said ≡ long_says cards place → keyword_value cards name ≡ Ok said
unfolding keyword_value
lead_says cards name place said lead says = rw (← lead, ← says) refl

-- it says nothing
pub lead_silent : (cards : List (List ℕ)) (name : List ℕ) (place : ℕ) → Some place ≡ lead_place cards name → None ≡ long_says cards place → keyword_value cards name ≡ Err BadValue
unfolding keyword_value
lead_silent cards name place lead says = rw (← lead, ← says) refl

-- there is none
pub no_lead : (cards : List (List ℕ)) (name : List ℕ) → None ≡ lead_place cards name → keyword_value cards name ≡ Err NoKey
unfolding keyword_value
no_lead cards name lead = rw (← lead) refl

-- a lead that says something has a value
by_what_is_said : (cards : List (List ℕ)) (name : List ℕ) (place : ℕ) (said : Option (Value × Option (List ℕ))) → Some place ≡ lead_place cards name → said ≡ long_says cards place → (long_says cards place ≡ None → ⊥) → IsOk (keyword_value cards name)
by_what_is_said cards name place None lead says not = absurd (not (sym says))
by_what_is_said cards name place (Some said) lead says not = rw (lead_says cards name place said lead says) refl

-- the keyword then has a value
pub lead_not_silent : (cards : List (List ℕ)) (name : List ℕ) (place : ℕ) → Some place ≡ lead_place cards name → (long_says cards place ≡ None → ⊥) → IsOk (keyword_value cards name)
lead_not_silent cards name place lead not = by_what_is_said cards name place (long_says cards place) lead refl not

-- a list of links is no longer than the cards
links_bound : (link : Option (List ℕ × Option (List ℕ))) (links : List (List ℕ × Option (List ℕ))) (n : ℕ) → length links ≤ n → length (link_before link links) ≤ n + 1
links_bound None links n l = omega arith
links_bound (Some link) links n l = omega arith

-- so no chain of links is
links_within : (cards : List (List ℕ)) → length (links_of cards) ≤ length cards
links_within [] = omega arith
links_within (card ∷ cards) = omega (arith, links_bound (link_says card) (links_of cards) (length cards) (links_within cards))

-- no more of them belong to a string
one_more : (b : Bool) (m n : ℕ) → m ≤ n → (if b then 1 + m else 0) ≤ n + 1
one_more true m n l = omega arith
one_more false m n l = omega arith

-- those that continue a text are among them
after_within : (text : List ℕ) (links : List (List ℕ × Option (List ℕ))) → links_after text links ≤ length links
after_within text [] = omega arith
after_within text (link ∷ links) = omega (arith, one_more (ends_in_ampersand text) (links_after link.0 links) (length links) (after_within link.0 links))

-- with the card of the text itself
string_within : (text : Option (List ℕ)) (cards : List (List ℕ)) → string_cards text cards ≤ length cards + 1
string_within None cards = omega arith
string_within (Some text) cards = omega (arith, after_within text (links_of cards), links_within cards)

-- no value has no cards
valued_within : (b : Bool) (m n : ℕ) → m ≤ n → (if b then m else 0) ≤ n
valued_within true m n l = l
valued_within false m n l = omega arith

-- the cards of a value are among those from its own on
first_within : (cards : List (List ℕ)) → first_chain_length cards ≤ length cards
first_within [] = omega arith
first_within (card ∷ cards) = omega (arith, valued_within (has_value card) (string_cards (card_string card) cards) (length cards + 1) (string_within (card_string card) cards))

-- so a chain has no more cards than stand from its place on
chain_within : (cards : List (List ℕ)) (place : ℕ) → chain_length cards place ≤ length cards - (place - 1)
unfolding chain_length
chain_within cards place = omega (arith, first_within (cards_from cards place), length-drop (place - 1) cards)

-- so many cards of a keyword that has a lead are read
pub lead_reads : (cards : List (List ℕ)) (name : List ℕ) (place : ℕ) → Some place ≡ lead_place cards name → keyword_reads cards name ≡ chain_length cards place + 1
unfolding keyword_reads
lead_reads cards name place lead = rw (← lead) refl

-- the lead's place and its links are the keyword's cards
pub keyword_at : (cards : List (List ℕ)) (name : List ℕ) (place : ℕ) → Some place ≡ lead_place cards name → keyword_cards cards name ≡ Some (with_links cards place)
unfolding keyword_cards
keyword_at cards name place lead = rw (← lead) refl

-- without a lead it has none
pub keyword_nowhere : (cards : List (List ℕ)) (name : List ℕ) → None ≡ lead_place cards name → keyword_cards cards name ≡ None
unfolding keyword_cards
keyword_nowhere cards name lead = rw (← lead) refl

-- they are cards of the header
by_lead : (cards : List (List ℕ)) (name : List ℕ) (lead : Option ℕ) (at : KeywordCards) → lead ≡ lead_place cards name → keyword_cards cards name ≡ Some at → (1 ≤ at.place) × (at.place + at.count ≤ length cards + 1)
by_lead cards name None at lead e = let none = keyword_nowhere cards name lead in cc
by_lead cards name (Some place) at lead e =
    let same : with_links cards place ≡ at = let some = keyword_at cards name place lead in cc in
    let bound : place + (1 + link_count cards place) ≤ length cards + 1 = omega (arith, chain_within cards place, lead_from cards name place lead, lead_to cards name place lead) in
    subst (λ (found : KeywordCards). (1 ≤ found.place) × (found.place + found.count ≤ length cards + 1)) same (lead_from cards name place lead, bound)

-- the cards of a keyword lie among the cards
pub keyword_within : (cards : List (List ℕ)) (name : List ℕ) (at : KeywordCards) → keyword_cards cards name ≡ Some at → (1 ≤ at.place) × (at.place + at.count ≤ length cards + 1)
keyword_within cards name at e = by_lead cards name (lead_place cards name) at refl e

pub ruleset keyword_steps = (lead_from, lead_to, lead_says, lead_silent, no_lead, lead_not_silent, lead_reads, keyword_at, keyword_nowhere)
