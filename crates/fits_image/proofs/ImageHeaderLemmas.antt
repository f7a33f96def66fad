-- The header of a new image, as it is made.
use Rattle.std.proofs.Common.{◌≡◌, ℕ, ◌+◌, ◌*◌, ◌/◌, ◌%◌, ◌<◌, ◌≤◌, inl, inr, true, false, List, [], ◌∷◌, ◌++◌, length, get_or, drop, codes, refl, ap, sym, ◌∙◌, subst, arith, append_assoc, append-nil, All}
use Rattle.std.specs.Prelude.{IsTrue, Ok, pos}
use Rattle.fits_card.specs.Header.{Header, IsInnerCard, new_header}
use Rattle.fits_card.specs.Name.{is_name_byte, is_settable, is_spelled, is_valueless}
use Rattle.fits_rules.specs.Class.{is_primary}
use Rattle.fits_rules.specs.Shape.{axis_name, shape_of}
use Rattle.fits_rules.specs.declared.array_shape.Shape.{Shape}
use Rattle.fits_image.specs.ImageCards.{shape_cards, are_axes, axis_cards, offset_cards, written, written_number, image_cards, image_shape}
use Rattle.fits_image.specs.declared.kind.Kind.{Kind}
use Rattle.fits_image.specs.declared.kind.Kind.TheVariants.{U8, I8, I16, U16, I32, U32, I64, U64}
use Rattle.fits_image.specs.Kind.{width_of}
use Rattle.fits_value.specs.declared.value.Value.TheVariants.{Str}
use Rattle.fits_rules.proofs.ShapeLemmas.{name_one, name_two, name_three}
use Rattle.std.proofs.lemmas.Bool.{cases_lt}
use Rattle.std.proofs.lemmas.List.{drop_all, drop_more}
use Rattle.fits_image.proofs.ImageCardLemmas.{inner_cards, offset_count, count_of_cards, described, axes_from}

-- an offset has two cards at most
pub offset_few : (kind : Kind) → offset_count kind ≤ 2
offset_few U8 = omega arith
offset_few I8 = omega arith
offset_few I16 = omega arith
offset_few U16 = omega arith
offset_few I32 = omega arith
offset_few U32 = omega arith
offset_few I64 = omega arith
offset_few U64 = omega arith

-- so there are few cards
pub few_cards : (kind : Kind) (axes : List ℕ) → are_axes axes ≡ true → length (image_cards kind axes) ≤ 2000
few_cards kind axes may = let are = axes_from axes may in omega (arith, count_of_cards kind axes may, offset_few kind, are.few)

-- its cards don't end a header
pub image_inner : (kind : Kind) (axes : List ℕ) (cards : List (List ℕ)) → are_axes axes ≡ true → cards ≡ image_cards kind axes → All IsInnerCard cards
image_inner kind axes cards may is = rw is (inner_cards kind axes may)

-- a digit may stand in a name
digit_named : (d : ℕ) → d < 10 → is_name_byte (48 + d) ≡ true
digit_named d small = grind arith

-- a name of one digit may have a value
settable_one : (ones n : ℕ) → ones ≡ 48 + n → n < 10 → IsTrue (is_settable (78 ∷ 65 ∷ 88 ∷ 73 ∷ 83 ∷ ones ∷ 32 ∷ 32 ∷ []))
unfolding is_settable is_spelled is_valueless
settable_one ones n e small = rw (e, digit_named n small) refl

-- of two
settable_two : (ones tens n m : ℕ) → ones ≡ 48 + n → n < 10 → tens ≡ 48 + m → m < 10 → IsTrue (is_settable (78 ∷ 65 ∷ 88 ∷ 73 ∷ 83 ∷ tens ∷ ones ∷ 32 ∷ []))
unfolding is_settable is_spelled is_valueless
settable_two ones tens n m e small f few = rw (e, f, digit_named n small, digit_named m few) refl

-- and of three
settable_three : (ones tens hundreds n m k : ℕ) → ones ≡ 48 + n → n < 10 → tens ≡ 48 + m → m < 10 → hundreds ≡ 48 + k → k < 10 → IsTrue (is_settable (78 ∷ 65 ∷ 88 ∷ 73 ∷ 83 ∷ hundreds ∷ tens ∷ ones ∷ []))
unfolding is_settable is_spelled is_valueless
settable_three ones tens hundreds n m k e small f few g less = rw (e, f, g, digit_named n small, digit_named m few, digit_named k less) refl

-- so NAXISn may have one
pub axis_settable : (n : ℕ) → n < 1000 → IsTrue (is_settable (axis_name n))
axis_settable n small = elim (cases_lt n 10) [
  | inl one ↦ subst (λ xs. IsTrue (is_settable xs)) (name_one n (48 + n % 10) one refl) (settable_one (48 + n % 10) (n % 10) refl (omega arith))
  | inr more ↦ elim (cases_lt n 100) [
    | inl two ↦ subst (λ xs. IsTrue (is_settable xs)) (name_two n (48 + n % 10) (48 + n / 10 % 10) more two refl refl) (settable_two (48 + n % 10) (48 + n / 10 % 10) (n % 10) (n / 10 % 10) refl (omega arith) refl (omega arith))
    | inr three ↦ subst (λ xs. IsTrue (is_settable xs)) (name_three n (48 + n % 10) (48 + n / 10 % 10) (48 + n / 100) three small refl refl refl)
        (settable_three (48 + n % 10) (48 + n / 10 % 10) (48 + n / 100) (n % 10) (n / 10 % 10) (n / 100) refl (omega arith) refl (omega arith) refl (omega (arith, small)))
  ]
]

-- XTENSION may have one
pub xtension_settable : IsTrue (is_settable (codes "XTENSION"))
unfolding is_settable is_spelled is_valueless
xtension_settable = refl

-- BITPIX may have one
pub bitpix_settable : IsTrue (is_settable (codes "BITPIX  "))
unfolding is_settable is_spelled is_valueless
bitpix_settable = refl

-- NAXIS may have one
pub naxis_settable : IsTrue (is_settable (codes "NAXIS   "))
unfolding is_settable is_spelled is_valueless
naxis_settable = refl

-- PCOUNT may have one
pub pcount_settable : IsTrue (is_settable (codes "PCOUNT  "))
unfolding is_settable is_spelled is_valueless
pcount_settable = refl

-- GCOUNT may have one
pub gcount_settable : IsTrue (is_settable (codes "GCOUNT  "))
unfolding is_settable is_spelled is_valueless
gcount_settable = refl

-- BSCALE may have one
pub bscale_settable : IsTrue (is_settable (codes "BSCALE  "))
unfolding is_settable is_spelled is_valueless
bscale_settable = refl

-- BZERO may have one
pub bzero_settable : IsTrue (is_settable (codes "BZERO   "))
unfolding is_settable is_spelled is_valueless
bzero_settable = refl

-- few axes
pub few_axes : (axes : List ℕ) → are_axes axes ≡ true → length axes < 1000
few_axes axes may = let are = axes_from axes may in omega (arith, are.few)

pub ruleset card_steps = (xtension_settable, bitpix_settable, naxis_settable, pcount_settable, gcount_settable, bscale_settable, bzero_settable, few_axes, axis_settable)

-- lists that are put on one after another
in_turn : {X : Type 0} (o a b c d e : List X) → ((((o ++ a) ++ b) ++ c) ++ d) ++ e ≡ o ++ (a ++ (b ++ (c ++ (d ++ e))))
in_turn o a b c d e =
    append_assoc (((o ++ a) ++ b) ++ c) d e
    ∙ (append_assoc ((o ++ a) ++ b) c (d ++ e)
    ∙ (append_assoc (o ++ a) b (c ++ (d ++ e)) ∙ append_assoc o a (b ++ (c ++ (d ++ e)))))

-- three of them
three_in_turn : {X : Type 0} (o a b c : List X) → ((o ++ a) ++ b) ++ c ≡ o ++ (a ++ (b ++ c))
three_in_turn o a b c = append_assoc (o ++ a) b c ∙ append_assoc o a (b ++ c)

-- the cards of a shape
pub shape_pushed : (kind : Kind) (axes : List ℕ) (old bitpix naxis all : List (List ℕ)) → bitpix ≡ old ++ written_number (codes "BITPIX  ") (pos (8 * width_of kind)) → naxis ≡ bitpix ++ written_number (codes "NAXIS   ") (pos (length axes)) → all ≡ naxis ++ axis_cards 1 axes
    → all ≡ old ++ shape_cards kind axes
shape_pushed kind axes old bitpix naxis all a b c = rw (c, b, a) (three_in_turn old _ _ _)

-- the cards of a new image are
pub image_pushed : (kind : Kind) (axes : List ℕ) (old type shape pcount gcount all : List (List ℕ)) → type ≡ old ++ written (codes "XTENSION") (Str (codes "IMAGE")) → shape ≡ type ++ shape_cards kind axes
    → pcount ≡ shape ++ written_number (codes "PCOUNT  ") (pos 0) → gcount ≡ pcount ++ written_number (codes "GCOUNT  ") (pos 1) → all ≡ gcount ++ offset_cards kind → all ≡ old ++ image_cards kind axes
unfolding image_cards
image_pushed kind axes old type shape pcount gcount all a b c d e = rw (e, d, c, b, a) (in_turn old _ _ _ _ _)

-- one axis more is written
pub axes_more : (old new start : List (List ℕ)) (axes : List ℕ) (k x : ℕ) → k < length axes → x ≡ get_or axes k x → new ≡ old ++ written_number (axis_name (k + 1)) (pos x) → old ++ axis_cards (k + 1) (drop k axes) ≡ start → new ++ axis_cards (k + 1 + 1) (drop (k + 1) axes) ≡ start
axes_more old new start axes k x h at is all =
    let first : drop k axes ≡ x ∷ drop (k + 1) axes = drop_more axes k x h ∙ ap (λ y. y ∷ drop (k + 1) axes) (sym at) in
    ap (λ cs. cs ++ axis_cards (k + 1 + 1) (drop (k + 1) axes)) is
    ∙ (append_assoc old (written_number (axis_name (k + 1)) (pos x)) (axis_cards (k + 1 + 1) (drop (k + 1) axes))
    ∙ (ap (λ xs. old ++ axis_cards (k + 1) xs) (sym first) ∙ all))

-- and none is left
pub axes_done : (old start : List (List ℕ)) (axes : List ℕ) (k : ℕ) → length axes ≤ k → old ++ axis_cards (k + 1) (drop k axes) ≡ start → old ≡ start
axes_done old start axes k h all = sym (append-nil old) ∙ (ap (λ xs. old ++ axis_cards (k + 1) xs) (sym (drop_all k axes h)) ∙ all)

pub ruleset axes_steps = (axes_more, axes_done, axis_settable)

-- few axes have few cards
pub ruleset count_steps = (count_of_cards, few_axes, few_cards)

-- the cards describe the shape
pub new_described : (kind : Kind) (shape : Shape) (header : Header) → shape ≡ image_shape kind shape.axes → are_axes shape.axes ≡ true → header ≡ new_header (image_cards kind shape.axes) → shape_of (is_primary shape.class) header.cards ≡ Ok shape
new_described kind shape header e may is =
    let extension : is_primary shape.class ≡ false = ap (λ (s : Shape). is_primary s.class) e in
    ap (λ b. shape_of b header.cards) extension ∙ (ap (λ (h : Header). shape_of false h.cards) is ∙ (described kind shape.axes may ∙ ap Ok (sym e)))
