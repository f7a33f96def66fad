-- Cards that are written, and those that are too long.
use Rattle.std.proofs.Common.{◌≡◌, ℕ, ◌<◌, ◌≤◌, ◌+◌, ◌-◌, ◌&&◌, Bool, true, false, cond, eqb, ltb, List, [], ◌∷◌, ◌++◌, length, take, drop, replicate, get_or, Option, None, Some, Result, Ok, Err, sym, ◌∙◌, ap, subst, arith, inl, inr, length-append}
use Rattle.std.specs.Prelude.{IfOk, OnOk, IsTrue, is_ok}
use Rattle.std.proofs.Math.Seq.{get_or-append_seam}
use Rattle.std.proofs.lemmas.List.{append-nil}
use Rattle.std.proofs.lemmas.List.Folds.{list_all_at}
use Rattle.std.proofs.lemmas.Bool.{cond-true, cond-false, lt-ltb, cases_Bool, eq-eqb, eqb-true, false_from_ne_true}
use Rattle.fits_value.proofs.PieceLemmas.{string_end, string_more, doubled_least, card_size, open_size, piece_some, split_size}
use Rattle.fits_value.specs.Spelling.{doubled}
use Rattle.fits_value.specs.Written.{fitting, filled, quoted, card_of, continue_lead, cards_of_string, all_fit, cards_of, writable_parts, is_writable, write_says}
use Rattle.fits_value.specs.declared.value.Value.{Value}
use Rattle.fits_value.specs.declared.write.WriteFault.{WriteFault}
use Rattle.fits_value.specs.declared.write.WriteFault.TheVariants.{BadValue}

-- not as long as a card
not_80 : (n : ℕ) → 80 < n → eqb n 80 ≡ false
not_80 n h = false_from_ne_true (eqb n 80) (λ e. let f : n ≡ 80 = eqb-true n 80 e in absurd (omega (arith, f, h)))

-- a card that is too long is one too many
pub too_long : (cards others whole : List (List ℕ)) (card : List ℕ) → cards ++ card ∷ others ≡ whole → 80 < length card → all_fit whole ≡ false
too_long cards others whole card e long =
    let at : get_or (cards ++ card ∷ others) (length cards) [] ≡ card = get_or-append_seam cards card others [] in
    ap all_fit (sym e) ∙ list_all_at (λ (x : List ℕ). eqb (length x) 80) (cards ++ card ∷ others) (length cards) [] (omega (arith, length-append cards (card ∷ others)))
    (ap (λ (x : List ℕ). eqb (length x) 80) at ∙ not_80 (length card) long)

-- one card that fits
pub one_fits : (card : List ℕ) → length card ≡ 80 → all_fit (card ∷ []) ≡ true
one_fits card e = ap (λ (b : Bool). b && true) (eq-eqb (length card) 80 e)

-- a card that fits, and others
pub first_fits : (card : List ℕ) (others : List (List ℕ)) → length card ≡ 80 → all_fit (card ∷ others) ≡ all_fit others
first_fits card others e = ap (λ (b : Bool). b && all_fit others) (eq-eqb (length card) 80 e)

-- a piece and its ampersand fit a card
pub piece_size : (lead rest : List ℕ) → length lead ≡ 10 → length (card_of lead (quoted (take (fitting 67 rest) rest ++ 38 ∷ [])) None) ≡ 80
piece_size lead rest e =
    card_size (lead ++ quoted (take (fitting 67 rest) rest ++ 38 ∷ [])) (omega (arith, length-append lead (quoted (take (fitting 67 rest) rest ++ 38 ∷ [])), open_size rest, e))

-- how much a piece takes of what is left
pub taken : (rest front : List ℕ) (k left n : ℕ) → k ≡ fitting 67 rest → front ≡ take k rest → 68 < left → left ≡ length (doubled rest) → n ≡ length (doubled front) → (1 ≤ n) × (n + length (doubled (drop k rest)) ≡ left)
taken rest front k left n e f h g m =
    let size : n ≡ length (doubled (take k rest)) = m ∙ ap (λ (x : List ℕ). length (doubled x)) f in
    let some : 1 ≤ length (doubled (take k rest)) = rw e (piece_some rest (omega arith)) in
    (omega arith, let s = split_size k rest in omega arith)

-- one piece less is one card less
pub count_step : (lead rest back : List ℕ) (comment : Option (List ℕ)) (count k left total : ℕ) → k ≡ fitting 67 rest → back ≡ drop k rest → 68 < left → left ≡ length (doubled rest)
    → count + length (cards_of_string lead (length rest) rest comment) ≡ total → count + 1 + length (cards_of_string continue_lead (length back) back comment) ≡ total
count_step lead rest back comment count k left total e f h i inv =
    let cut = ap length (string_more lead rest comment (omega (arith, h, i))) in
    rw (f, e) (omega (arith, cut, inv))

-- and the others fit where all do
pub fit_step : (lead rest back : List ℕ) (comment : Option (List ℕ)) (k left : ℕ) (whole : Bool) → length lead ≡ 10 → k ≡ fitting 67 rest → back ≡ drop k rest → 68 < left → left ≡ length (doubled rest)
    → all_fit (cards_of_string lead (length rest) rest comment) ≡ whole → all_fit (cards_of_string continue_lead (length back) back comment) ≡ whole
fit_step lead rest back comment k left whole size e f h i inv =
    let cut = ap all_fit (string_more lead rest comment (omega (arith, h, i))) in
    let after : List ℕ = drop (fitting 67 rest) rest in
    let others : List (List ℕ) = cards_of_string continue_lead (length after) after comment in
    rw (f, e) (sym (first_fits (card_of lead (quoted (take (fitting 67 rest) rest ++ 38 ∷ [])) None) others (piece_size lead rest size)) ∙ (sym cut ∙ inv))

-- a piece is too long
pub piece_long : (lead rest front : List ℕ) (comment : Option (List ℕ)) (cards whole : List (List ℕ)) (k left : ℕ) → k ≡ fitting 67 rest → front ≡ take k rest → 68 < left → left ≡ length (doubled rest)
    → cards ++ cards_of_string lead (length rest) rest comment ≡ whole → 80 < length (card_of lead (quoted (front ++ 38 ∷ [])) None) → all_fit whole ≡ false
piece_long lead rest front comment cards whole k left e f h i inv long =
    let is : front ≡ take (fitting 67 rest) rest = f ∙ ap (λ (n : ℕ). take n rest) e in
    let cut = string_more lead rest comment (omega (arith, h, i)) in
    too_long cards _ whole (card_of lead (quoted (take (fitting 67 rest) rest ++ 38 ∷ [])) None) (ap (λ (x : List (List ℕ)). cards ++ x) (sym cut) ∙ inv)
    (subst (λ (x : List ℕ). 80 < length (card_of lead (quoted (x ++ 38 ∷ [])) None)) is long)

-- the last piece is too long with its comment
pub last_long : (lead rest : List ℕ) (comment : Option (List ℕ)) (cards whole : List (List ℕ)) (left : ℕ) → left ≤ 68 → left ≡ length (doubled rest)
    → cards ++ cards_of_string lead (length rest) rest comment ≡ whole → 80 < length (card_of lead (quoted (rest ++ [])) comment) → all_fit whole ≡ false
last_long lead rest comment cards whole left h i inv long =
    let cut = string_end lead rest comment (omega (arith, h, i)) in
    too_long cards [] whole (card_of lead (quoted rest) comment) (ap (λ (x : List (List ℕ)). cards ++ x) (sym cut) ∙ inv)
    (subst (λ (x : List ℕ). 80 < length (card_of lead (quoted x) comment)) (append-nil rest) long)

-- a string with what fills it
pub filled_is : (text fill : List ℕ) (len : ℕ) → len ≡ length (doubled text) → fill ≡ cond (ltb 0 len) (replicate (8 - len) 32) [] → text ++ fill ≡ filled text
filled_is [] fill len e f = f ∙ ap (λ (n : ℕ). cond (ltb 0 n) (replicate (8 - n) 32) []) e
filled_is (c ∷ s) fill len e f =
    let some : 0 < len = omega (arith, e, doubled_least (c ∷ s)) in
    let is : fill ≡ replicate (8 - length (doubled (c ∷ s))) 32 = f ∙ (cond-true (ltb 0 len) (replicate (8 - len) 32) [] (lt-ltb 0 len some) ∙ ap (λ (n : ℕ). replicate (8 - n) 32) e) in
    ap (λ (x : List ℕ). (c ∷ s) ++ x) is ∙ sym (cond-true (ltb 0 (length (c ∷ s))) ((c ∷ s) ++ replicate (8 - length (doubled (c ∷ s))) 32) [] (lt-ltb 0 (length (c ∷ s)) (omega arith)))

-- what can't be written has no cards
pub bad_says : (name : List ℕ) (value : Value) (comment : Option (List ℕ)) → is_ok (writable_parts value comment) ≡ false → write_says name value comment ≡ None
unfolding write_says is_writable
bad_says name value comment h = cond-false (is_ok (writable_parts value comment) && all_fit (cards_of name value comment)) _ None (ap (λ (b : Bool). b && all_fit (cards_of name value comment)) h)

-- what can be has, where they fit
pub says_fit : (name : List ℕ) (value : Value) (comment : Option (List ℕ)) → is_ok (writable_parts value comment) ≡ true
    → write_says name value comment ≡ cond (all_fit (cards_of name value comment)) (Some (cards_of name value comment)) None
unfolding write_says is_writable
says_fit name value comment h = ap (λ (b : Bool). cond (b && all_fit (cards_of name value comment)) (Some (cards_of name value comment)) None) h

-- so the cards that were written are those
pub ok_says : (r : Result (List (List ℕ)) WriteFault) (cards : List (List ℕ)) (fits : Bool) (says : Option (List (List ℕ))) → says ≡ cond fits (Some cards) None → IfOk r (λ (x : List (List ℕ)). x ≡ cards) → OnOk r (IsTrue fits) → IfOk r (λ (x : List (List ℕ)). says ≡ Some x)
ok_says (Ok x) cards fits says e same h = e ∙ (cond-true fits (Some cards) None h ∙ ap Some (sym same))
ok_says (Err f) cards fits says e same h = tt

-- and a value is bad where it has none
pub firm_says : (r : Result (List (List ℕ)) WriteFault) (cards : List (List ℕ)) (fits : Bool) (says : Option (List (List ℕ))) → says ≡ cond fits (Some cards) None → (fits ≡ false → r ≡ Err BadValue) → says ≡ None → r ≡ Err BadValue
firm_says r cards fits says e h none = elim (cases_Bool fits) [
  | inl f ↦ absurd (let z : Some cards ≡ None = sym (cond-true fits (Some cards) None f) ∙ (sym e ∙ none) in (cc))
  | inr f ↦ h f
]
