-- Codes that are found by their facts.
use Rattle.std.proofs.Common.{◌≡◌, ℕ, ◌==◌, Bool, true, false, ◌&&◌, ◌||◌, cond, List, [], ◌∷◌, refl, sym, ◌∙◌, ap}
use Rattle.std.specs.Prelude.{IsTrue}
use Rattle.std.specs.List.{filter, list_any}
use Rattle.fits_codes.specs.Alone.{has_alone, alone_codes, codes_alone}
use Rattle.fits_codes.specs.Code.{number, is_among}
use Rattle.fits_codes.specs.HeaderCodes.{has_header_code, header_codes, header_judged}
use Rattle.fits_codes.specs.Judged.{has_code, card_codes, judged}
use Rattle.fits_codes.specs.Mark.{mark_of}
use Rattle.fits_codes.specs.declared.code.Code.{Code}
use Rattle.fits_codes.specs.declared.code.Code.TheVariants.{NotText, NotFixedFormat}
use Rattle.fits_codes.specs.declared.context.Context.{Context}
use Rattle.fits_codes.specs.declared.header_mark.HeaderMark.{HeaderMark}
use Rattle.fits_codes.specs.declared.mark.Mark.{Mark}
use Rattle.fits_rules.specs.declared.array_shape.Shape.{Shape}

-- nothing more after what holds or not
or_false : (b : Bool) → (b || false) ≡ b
or_false true = refl
or_false false = refl

-- what holds with what always does
and_true : (b : Bool) → (b && true) ≡ b
and_true true = refl
and_true false = refl

-- and with what never does
and_false : (b : Bool) → (b && false) ≡ false
and_false true = refl
and_false false = refl

-- one element, kept or not, before others
any_cons : {X : Type 0} (q : X → Bool) (b : Bool) (x : X) (xs : List X) (rest : Bool) → list_any q xs ≡ rest → list_any q (cond b (x ∷ xs) xs) ≡ ((q x && b) || rest)
any_cons q true x xs rest e = ap (λ (r : Bool). q x || r) e ∙ ap (λ (b : Bool). b || rest) (sym (and_true (q x)))
any_cons q false x xs rest e = e ∙ ap (λ (b : Bool). b || rest) (sym (and_false (q x)))

-- what is among those that are kept is kept and among all
pub any-filter : {X : Type 0} (q p : X → Bool) (xs : List X) → list_any q (filter p xs) ≡ list_any (λ x. q x && p x) xs
any-filter q p [] = refl
any-filter q p (x ∷ xs) = any_cons q (p x) x (filter p xs) _ (any-filter q p xs)

-- the codes that a card can have: with one told apart, the other line is looked at code by code, here and below
pub card-found : (mark : Mark) (context : Context) (code : Code) → is_among (judged mark context) code ≡ (is_among card_codes code && has_code mark context code)
unfolding judged is_among
card-found mark context NotText = any-filter (λ other. number other == number NotText) (has_code mark context) card_codes ∙ or_false (has_code mark context NotText)
card-found mark context code = any-filter (λ other. number other == number code) (has_code mark context) card_codes ∙ or_false (is_among card_codes code && has_code mark context code)

-- the codes that it has alone
pub alone-found : (card : List ℕ) (context : Context) (code : Code) → IsTrue (is_among alone_codes code) → has_code (mark_of card) context code ≡ has_alone card code
unfolding has_alone has_code mark_of codes_alone is_among
alone-found card context NotFixedFormat among = absurd (cc)
alone-found card context code among =
    let found = any-filter (λ other. number other == number code) (has_alone card) alone_codes in
    let same = or_false (has_alone card code) in
    (cc)

-- the codes that a header can have
pub header-found : (mark : HeaderMark) (shape : Shape) (code : Code) → is_among (header_judged mark shape) code ≡ (is_among header_codes code && has_header_code mark shape code)
unfolding header_judged is_among
header-found mark shape NotText = any-filter (λ other. number other == number NotText) (has_header_code mark shape) header_codes
header-found mark shape code = any-filter (λ other. number other == number code) (has_header_code mark shape) header_codes ∙ or_false (is_among header_codes code && has_header_code mark shape code)

pub ruleset laws = (card-found, alone-found, header-found)
