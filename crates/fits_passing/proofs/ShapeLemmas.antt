-- How the cards of a shape begin.
use Rattle.std.proofs.Common.{◌≡◌, ℕ, ◌+◌, Bool, true, false, List, [], ◌∷◌, rules, refl, ap, sym, ◌∙◌, Option, None, Some, option_and_then, ℤ}
use Rattle.std.specs.Prelude.{codes, IfSome, Ok, ok_or, if◌then◌else◌}
use Rattle.std.specs.Str.{bytes_eq}
use Rattle.fits_card.specs.Card.{keyword_name}
use Rattle.fits_card.specs.Header.{card_at}
use Rattle.fits_rules.specs.Reads.{integer_said}
use Rattle.fits_rules.specs.Shape.{axis_name, axis_of, bitpix_in, bitpix_of, naxis_of, shape_of, first_card, card_named, if_named}
use Rattle.fits_rules.specs.declared.array_shape.Shape.{Shape}
use Rattle.fits_rules.proofs.AxesLemmas.{bind_ok}
use Rattle.fits_rules.proofs.DescribesLemmas.{ok_or_ok}

-- the name of the first card (4.4.1.1, 4.4.1.2)
abbrev pub first_name : Bool → List ℕ
first_name primary = if primary then codes "SIMPLE  " else codes "XTENSION"

-- a test that let a card through was true
test_true : (b : Bool) (card other : List ℕ) → (if b then Some card else None) ≡ Some other → b ≡ true
test_true true card other e = refl
test_true false card other e = cc

-- texts that compare as one are one
bytes_are : (a b : List ℕ) → bytes_eq a b ≡ true → a ≡ b
bytes_are a b e = search rules

-- a card that is found by its name has it
pub named : (name card other : List ℕ) → if_named name card ≡ Some other → keyword_name card ≡ name
named name card other e = bytes_are (keyword_name card) name (test_true (bytes_eq (keyword_name card) name) card other e)

-- the first card has its name
first_is_named : (primary : Bool) (card : List ℕ) (cards : List (List ℕ)) (o : Option (List ℕ)) → first_card primary (card ∷ cards) ≡ o → IfSome o (λ _. keyword_name card ≡ first_name primary)
unfolding first_card card_named
first_is_named primary card cards None e = tt
first_is_named primary card cards (Some first) e = named (first_name primary) card first e

-- no cards have no first one
no_first : (primary : Bool) → first_card primary [] ≡ None
unfolding first_card card_named
no_first primary = refl

-- the first card is there, and has the name that an HDU begins with
abbrev BeginsNamed : Bool → List (List ℕ) → Type 0
BeginsNamed primary cards = (card : List ℕ) × (rest : List (List ℕ)) × (cards ≡ card ∷ rest) × (keyword_name card ≡ first_name primary)

-- cards that describe a shape begin so
pub shape_begins : (primary : Bool) (cards : List (List ℕ)) (shape : Shape) → shape_of primary cards ≡ Ok shape → BeginsNamed primary cards
unfolding shape_of
shape_begins primary [] shape e = let no = rw (no_first primary) at e in cc
shape_begins primary (card ∷ cards) shape e =
    let first = bind_ok (ok_or (first_card primary (card ∷ cards)) 1) _ shape e in
    (card, cards, refl, first_is_named primary card cards (Some first.0) (ok_or_ok (first_card primary (card ∷ cards)) 1 first.0 first.1))

-- the two names differ
one_name : (p q : Bool) → first_name p ≡ first_name q → p ≡ q
one_name true true e = refl
one_name true false e = ap (λ name. bytes_eq name (codes "SIMPLE  ")) e
one_name false true e = ap (λ name. bytes_eq name (codes "SIMPLE  ")) e
one_name false false e = refl

-- so cards that describe a shape are those of the primary HDU or of an extension, and never of both
pub one_primary : (p q : Bool) (cards : List (List ℕ)) (s t : Shape) → shape_of p cards ≡ Ok s → shape_of q cards ≡ Ok t → p ≡ q
one_primary p q cards s t d e =
    let a = shape_begins p cards s d in
    let b = shape_begins q cards t e in
    let same : a.0 ∷ a.1 ≡ b.0 ∷ b.1 = sym a.2 ∙ b.2 in
    let first : a.0 ≡ b.0 = cc in
    one_name p q (sym a.3 ∙ ap keyword_name first ∙ b.3)

-- what an option holds, where something follows from it
pub held : {X Y : Type 0} (f : X → Option Y) (o : Option X) (y : Y) → option_and_then f o ≡ Some y → (x : X) × (o ≡ Some x) × (f x ≡ Some y)
held f None y e = absurd (cc)
held f (Some x) y e = (x, refl, e)

-- the card at a place has the name that is asked for there
pub named_at : (cards : List (List ℕ)) (place : ℕ) (name card other : List ℕ) → card_at cards place ≡ Some card → card_named cards place name ≡ Some other → keyword_name card ≡ name
unfolding card_named
named_at cards place name card other at e = named name card other (sym (ap (option_and_then (if_named name)) at) ∙ e)

-- that at 2 has the name BITPIX
pub bitpix_named : (cards : List (List ℕ)) (card : List ℕ) (bitpix : ℤ) → card_at cards 2 ≡ Some card → bitpix_of cards ≡ Some bitpix → keyword_name card ≡ codes "BITPIX  "
unfolding bitpix_of
bitpix_named cards card bitpix at e =
    let number = held bitpix_in _ bitpix e in
    let found = held integer_said _ number.0 number.1 in
    named_at cards 2 (codes "BITPIX  ") card found.0 at found.1

-- that at 3 NAXIS
pub naxis_named : (cards : List (List ℕ)) (card : List ℕ) (naxis : ℕ) → card_at cards 3 ≡ Some card → naxis_of cards ≡ Some naxis → keyword_name card ≡ codes "NAXIS   "
unfolding naxis_of
naxis_named cards card naxis at e =
    let number = held _ _ naxis e in
    let found = held integer_said _ number.0 number.1 in
    named_at cards 3 (codes "NAXIS   ") card found.0 at found.1

-- and those of axes theirs
pub axis_named : (cards : List (List ℕ)) (card : List ℕ) (n axis : ℕ) → card_at cards (3 + n) ≡ Some card → axis_of cards n ≡ Some axis → keyword_name card ≡ axis_name n
unfolding axis_of
axis_named cards card n axis at e =
    let number = held _ _ axis e in
    let found = held integer_said _ number.0 number.1 in
    named_at cards (3 + n) (axis_name n) card found.0 at found.1
