-- The rules of the mandatory keywords.
use Rattle.std.proofs.Common.{◌≡◌, ℕ, ◌+◌, ◌-◌, ◌/◌, ◌%◌, ◌<◌, ◌≤◌, List, [], ◌∷◌, ◌++◌, length, codes, replicate, Bool, true, false, cond, Option, None, Some, option_and_then, ap, sym, subst, ◌∙◌, arith}
use Rattle.std.specs.Prelude.{ℤ}
use Rattle.std.specs.Borrow.{Bor}
use Rattle.std.specs.Str.{bytes_eq}
use Rattle.std.proofs.lemmas.Bool.{cond-true, cond-false}
use Rattle.fits_card.specs.Card.{keyword_name}
use Rattle.fits_card.specs.CardList.{CardStore, ReadsUpTo}
use Rattle.fits_card.specs.Header.{Header}
use Rattle.fits_card.specs.declared.change.Change.{Change}
use Rattle.fits_rules.specs.Reads.{integer_said}
use Rattle.std.specs.Fmt.{decimal}
use Rattle.std.proofs.lemmas.Fmt.{decimal_digit, decimal_step}
use Rattle.fits_rules.specs.Shape.{up_to, bitpix_in, axis_name, card_named, if_named, first_card, bitpix_of, naxis_of, axis_of}
use Rattle.fits_rules.specs.ShapeSteps.{cards_left, CanLeave}
use Rattle.fits_rules.specs.declared.axis_buffer.TheConstants.{MOST_AXES}
use Rattle.fits_rules.specs.declared.rules.TheConstants.{LARGEST}
use Rattle.fits_card.specs.Header.{card_at}

-- NAXIS and its number
named_digits : (digits : List ℕ) (n : ℕ) → decimal n ≡ digits → axis_name n ≡ (codes "NAXIS" ++ digits) ++ replicate (8 - length (codes "NAXIS" ++ digits)) 32
unfolding axis_name
named_digits digits n e = ap (λ (d : List ℕ). (codes "NAXIS" ++ d) ++ replicate (8 - length (codes "NAXIS" ++ d)) 32) e

-- a number of one digit
pub name_one : (n ones : ℕ) → n < 10 → ones ≡ 48 + n % 10 → 78 ∷ 65 ∷ 88 ∷ 73 ∷ 83 ∷ ones ∷ 32 ∷ 32 ∷ [] ≡ axis_name n
name_one n ones small is = sym (named_digits (ones ∷ []) n (decimal_digit n small ∙ ap (λ (d : ℕ). d ∷ []) (omega arith)))

-- the two digits of a number
two_digits : (n : ℕ) → 10 ≤ n → n < 100 → decimal n ≡ (48 + n / 10 % 10) ∷ (48 + n % 10) ∷ []
two_digits n low high = decimal_step n low (omega arith) ∙ (ap (λ (d : List ℕ). d ++ (48 + n % 10) ∷ []) (decimal_digit (n / 10) (omega arith)) ∙ ap (λ (d : ℕ). d ∷ (48 + n % 10) ∷ []) (omega arith))

-- a number of two digits
pub name_two : (n ones tens : ℕ) → 10 ≤ n → n < 100 → ones ≡ 48 + n % 10 → tens ≡ 48 + n / 10 % 10 → 78 ∷ 65 ∷ 88 ∷ 73 ∷ 83 ∷ tens ∷ ones ∷ 32 ∷ [] ≡ axis_name n
name_two n ones tens low high one ten = sym (named_digits (tens ∷ ones ∷ []) n (two_digits n low high ∙ (ap (λ (d : ℕ). d ∷ (48 + n % 10) ∷ []) (sym ten) ∙ ap (λ (d : ℕ). tens ∷ d ∷ []) (sym one))))

-- the three digits of a number
three_digits : (n : ℕ) → 100 ≤ n → n < 1000 → decimal n ≡ (48 + n / 100) ∷ (48 + n / 10 % 10) ∷ (48 + n % 10) ∷ []
three_digits n low high =
    decimal_step n (omega arith) (omega arith)
    ∙ (ap (λ (d : List ℕ). d ++ (48 + n % 10) ∷ []) (two_digits (n / 10) (omega arith) (omega arith))
    ∙ ap (λ (d : ℕ). d ∷ (48 + n / 10 % 10) ∷ (48 + n % 10) ∷ []) (omega arith))

-- a number of three digits
pub name_three : (n ones tens hundreds : ℕ) → 100 ≤ n → n < 1000 → ones ≡ 48 + n % 10 → tens ≡ 48 + n / 10 % 10 → hundreds ≡ 48 + n / 100 → 78 ∷ 65 ∷ 88 ∷ 73 ∷ 83 ∷ hundreds ∷ tens ∷ ones ∷ [] ≡ axis_name n
name_three n ones tens hundreds low high one ten hundred =
    sym (named_digits (hundreds ∷ tens ∷ ones ∷ []) n (three_digits n low high
    ∙ (ap (λ (d : ℕ). d ∷ (48 + n / 10 % 10) ∷ (48 + n % 10) ∷ []) (sym hundred)
    ∙ (ap (λ (d : ℕ). hundreds ∷ d ∷ (48 + n % 10) ∷ []) (sym ten)
    ∙ ap (λ (d : ℕ). hundreds ∷ tens ∷ d ∷ []) (sym one)))))

pub ruleset name_steps = (name_one, name_two, name_three)

-- the card at a place with its name
pub named_same : (cards : List (List ℕ)) (place : ℕ) (name card : List ℕ) → Some card ≡ card_at cards place → bytes_eq (keyword_name card) name ≡ true → Some card ≡ card_named cards place name
unfolding card_named
named_same cards place name card at same = sym (ap (option_and_then (if_named name)) (sym at) ∙ cond-true (bytes_eq (keyword_name card) name) (Some card) None same)

-- a card with another name
pub named_other : (cards : List (List ℕ)) (place : ℕ) (name card : List ℕ) → Some card ≡ card_at cards place → bytes_eq (keyword_name card) name ≡ false → None ≡ card_named cards place name
unfolding card_named
named_other cards place name card at other = sym (ap (option_and_then (if_named name)) (sym at) ∙ cond-false (bytes_eq (keyword_name card) name) (Some card) None other)

-- no card
pub named_missing : (cards : List (List ℕ)) (place : ℕ) (name : List ℕ) → None ≡ card_at cards place → None ≡ card_named cards place name
unfolding card_named
named_missing cards place name at = ap (option_and_then (if_named name)) at

pub ruleset named_steps = (named_same, named_other, named_missing)

-- what follows from a card that is there
pub bitpix_there : (cards : List (List ℕ)) (card : List ℕ) (o : Option ℤ) → Some card ≡ card_named cards 2 (codes "BITPIX  ") → o ≡ option_and_then bitpix_in (integer_said card) → o ≡ bitpix_of cards
unfolding bitpix_of
bitpix_there cards card o at is = is ∙ ap (λ c. option_and_then bitpix_in (option_and_then integer_said c)) at

-- no card of BITPIX
pub bitpix_missing : (cards : List (List ℕ)) → None ≡ card_named cards 2 (codes "BITPIX  ") → None ≡ bitpix_of cards
unfolding bitpix_of
bitpix_missing cards at = ap (λ c. option_and_then bitpix_in (option_and_then integer_said c)) at

pub ruleset bitpix_steps = (bitpix_there, bitpix_missing)

-- the card of NAXIS
pub naxis_there : (cards : List (List ℕ)) (card : List ℕ) (o : Option ℕ) → Some card ≡ card_named cards 3 (codes "NAXIS   ") → o ≡ option_and_then (up_to MOST_AXES) (integer_said card) → o ≡ naxis_of cards
unfolding naxis_of
naxis_there cards card o at is = is ∙ ap (λ c. option_and_then (up_to MOST_AXES) (option_and_then integer_said c)) at

-- no card of NAXIS
pub naxis_missing : (cards : List (List ℕ)) → None ≡ card_named cards 3 (codes "NAXIS   ") → None ≡ naxis_of cards
unfolding naxis_of
naxis_missing cards at = ap (λ c. option_and_then (up_to MOST_AXES) (option_and_then integer_said c)) at

pub ruleset naxis_steps = (naxis_there, naxis_missing)

-- the card of an axis
pub axis_there : (cards : List (List ℕ)) (n : ℕ) (card : List ℕ) (o : Option ℕ) → Some card ≡ card_named cards (3 + n) (axis_name n) → o ≡ option_and_then (up_to LARGEST) (integer_said card) → o ≡ axis_of cards n
unfolding axis_of
axis_there cards n card o at is = is ∙ ap (λ c. option_and_then (up_to LARGEST) (option_and_then integer_said c)) at

-- no card of an axis
pub axis_missing : (cards : List (List ℕ)) (n : ℕ) → None ≡ card_named cards (3 + n) (axis_name n) → None ≡ axis_of cards n
unfolding axis_of
axis_missing cards n at = ap (λ c. option_and_then (up_to LARGEST) (option_and_then integer_said c)) at

pub ruleset axis_steps = (axis_there, axis_missing)

-- reading leaves the header
pub reads_header : (old new : CardStore) (count : ℕ) (change : Option (Bor Change)) → ReadsUpTo old new count → cards_left new.header.cards change ≡ cards_left old.header.cards change
reads_header old new count change reads = ap (λ (h : Header). cards_left h.cards change) reads.header

-- and a change in range
pub still_in_range : (old new : CardStore) (count : ℕ) (change : Option (Bor Change)) → ReadsUpTo old new count → CanLeave old.header.cards change → CanLeave new.header.cards change
still_in_range old new count change reads range = subst (λ (h : Header). CanLeave h.cards change) (sym reads.header) range

-- two readings are one
pub reads_both : (old middle new : CardStore) (first second both : ℕ) → ReadsUpTo old middle first → ReadsUpTo middle new second → first + second ≤ both → ReadsUpTo old new both
reads_both old middle new first second both one two most = record {
  header = two.header ∙ one.header;
  room = two.room ∙ one.room;
  least = omega (arith, one.least, two.least);
  most = omega (arith, one.most, two.most);
}

-- the first card, by its name
pub first_named : (cards : List (List ℕ)) (primary : Bool) (name : List ℕ) (o : Option (List ℕ)) → name ≡ cond primary (codes "SIMPLE  ") (codes "XTENSION") → o ≡ card_named cards 1 name → o ≡ first_card primary cards
unfolding first_card
first_named cards primary name o named is = is ∙ ap (card_named cards 1) named
