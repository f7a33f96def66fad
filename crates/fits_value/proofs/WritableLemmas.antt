-- Which values and comments can be written.
use Rattle.std.proofs.Common.{◌≡◌, ℕ, suc, ◌≤◌, ◌&&◌, ◌||◌, Bool, true, false, not, eqb, List, [], ◌∷◌, length, take, All, Option, Some, None, sym, refl, ◌∙◌, ap, subst, arith, inl, inr, bytes_eq}
use Rattle.std.specs.Prelude.{◌↔◌, IsTrue, IsOk, IfSome, Result, Ok, Err, is_ok}
use Rattle.std.specs.Cmp.{both_ways}
use Rattle.std.specs.List.{suffix_len}
use Rattle.std.specs.Result.{result_and}
use Rattle.std.proofs.Math.Seq.{take-length}
use Rattle.std.proofs.lemmas.List.{length-take-le}
use Rattle.std.proofs.lemmas.List.Elements.{All-cons, All-nil}
use Rattle.std.proofs.lemmas.Bool.{cases_Bool, and_parts, and_from, cond-true, cond-false, eq-eqb, eqb-true, not-true, not_from_false, false_from_ne_true}
use Rattle.std.proofs.lemmas.Option.{same_Some}
use Rattle.std.proofs.lemmas.Slice.Eq.{bytes_eq-Decides}
use Rattle.fits_card.specs.Card.{is_text}
use Rattle.fits_value.proofs.AmpersandLemmas.{ampersand_told, ampersand_said}
use Rattle.fits_value.proofs.FrontLemmas.{chosen}
use Rattle.fits_value.proofs.NumberScanLemmas.{number_found, whole_integer, whole_real}
use Rattle.fits_value.specs.Number.{IsInteger, IsReal, IsNumber}
use Rattle.fits_value.specs.Spelling.{is_space, Spells}
use Rattle.fits_value.specs.Scan.{number_of}
use Rattle.fits_value.specs.Text.{normal_form}
use Rattle.fits_value.specs.Says.{ends_in_ampersand}
use Rattle.fits_value.specs.Written.{cards_of, IsWritableValue, IsWritableComment, IsWritable, whole_kind, number_kind, is_integer_kind, is_real_kind, is_integer, is_real, is_number, unless, writable_string, writable_value, writable_comment, writable_parts, all_fit, is_writable, write_says}
use Rattle.fits_value.specs.declared.reading.ValueKind.{ValueKind}
use Rattle.fits_value.specs.declared.reading.ValueKind.TheVariants.{Undefined, Logical, Integer, Real, Complex, Str}
use Rattle.fits_value.specs.declared.unwritable.Unwritable.{Unwritable}
use Rattle.fits_value.specs.declared.unwritable.Unwritable.TheVariants.{NotNumber, StringBytes, StringSpaces, StringAmpersand, CommentBytes, CommentSpaces}
use Rattle.fits_value.specs.declared.value.Value.{Value}
use Rattle.fits_value.specs.declared.value.Value.TheVariants as value

-- a number that is found and goes to the end is the whole text
pub whole_number : (s : List ℕ) (k : ValueKind) (n : ℕ) → Some (k, n) ≡ number_of s → n ≡ length s → Spells k s
whole_number s k n e f = subst (λ (x : List ℕ). Spells k x) (ap (λ (i : ℕ). take i s) f ∙ take-length s) (number_found s k n (sym e))

-- the normal form is as long as the text where it is the text
pub normal_same : (n : ℕ) (text : List ℕ) → take n text ≡ normal_form text → n ≤ length text → eqb n (length text) ≡ bytes_eq (normal_form text) text
normal_same n text e h =
    both_ways (eqb n (length text)) (bytes_eq (normal_form text) text)
    (λ f. (bytes_eq-Decides (normal_form text) text).1 (sym e ∙ (ap (λ (k : ℕ). take k text) (eqb-true n (length text) f) ∙ take-length text)))
    (λ f. eq-eqb n (length text) (sym (length-take-le n text h) ∙ ap length (e ∙ (bytes_eq-Decides (normal_form text) text).0 f)))

pub ruleset normal_tests = (normal_same)

-- the kind of a number that is the whole text
number_kind-is : (s : List ℕ) (k : ValueKind) → number_of s ≡ Some (k, length s) → number_kind s ≡ Some k
unfolding number_kind
number_kind-is s k e = ap (whole_kind (length s)) e ∙ cond-true (eqb (length s) (length s)) (Some k) None (eq-eqb (length s) (length s) refl)

-- the number that is found, where it is whole
whole_found : (size : ℕ) (o : Option (ValueKind × ℕ)) (k : ValueKind) → whole_kind size o ≡ Some k → (n : ℕ) × (Some (k, n) ≡ o) × (n ≡ size)
whole_found size None k e = absurd (cc)
whole_found size (Some x) k e = elim (cases_Bool (eqb x.1 size)) [
  | inl f ↦
      let same : Some x.0 ≡ Some k = sym (cond-true (eqb x.1 size) (Some x.0) None f) ∙ e in
      (x.1, ap (λ (j : ValueKind). Some (j, x.1)) (sym (same_Some x.0 k same)), eqb-true x.1 size f)
  | inr f ↦ absurd (let z : None ≡ Some k = sym (cond-false (eqb x.1 size) (Some x.0) None f) ∙ e in (cc))
]

-- a text of a kind is spelled so
kind_spelled : (s : List ℕ) (k : ValueKind) → number_kind s ≡ Some k → Spells k s
unfolding number_kind
kind_spelled s k e = let w = whole_found (length s) (number_of s) k e in whole_number s k w.0 w.1 w.2

-- what is tested to be the kind of integers is it
integer_kind : (o : Option ValueKind) → is_integer_kind o ≡ true → o ≡ Some Integer
integer_kind None e = absurd (cc)
integer_kind (Some Undefined) e = absurd (cc)
integer_kind (Some Logical) e = absurd (cc)
integer_kind (Some Integer) e = refl
integer_kind (Some Real) e = absurd (cc)
integer_kind (Some Complex) e = absurd (cc)
integer_kind (Some Str) e = absurd (cc)

-- and so is that of reals
real_kind : (o : Option ValueKind) → is_real_kind o ≡ true → o ≡ Some Real
real_kind None e = absurd (cc)
real_kind (Some Undefined) e = absurd (cc)
real_kind (Some Logical) e = absurd (cc)
real_kind (Some Integer) e = absurd (cc)
real_kind (Some Real) e = refl
real_kind (Some Complex) e = absurd (cc)
real_kind (Some Str) e = absurd (cc)

-- a text is an integer exactly where it is found to be one
integer_tested : (s : List ℕ) → IsTrue (is_integer s) ↔ IsInteger s
integer_tested s = (λ h. kind_spelled s Integer (integer_kind (number_kind s) h), λ h. ap is_integer_kind (number_kind-is s Integer (whole_integer s h)))

-- and a real
real_tested : (s : List ℕ) → IsTrue (is_real s) ↔ IsReal s
real_tested s = (λ h. kind_spelled s Real (real_kind (number_kind s) h), λ h. ap is_real_kind (number_kind-is s Real (whole_real s h)))

-- and a number
number_tested : (s : List ℕ) → IsTrue (is_number s) ↔ IsNumber s
number_tested s = (
  λ h. elim (cases_Bool (is_integer s)) [
    | inl e ↦ inl ((integer_tested s).0 e)
    | inr e ↦ inr ((real_tested s).0 (sym (ap (λ (b : Bool). b || is_real s) e) ∙ h))
  ],
  λ n. elim (cases_Bool (is_integer s)) [
    | inl e ↦ ap (λ (b : Bool). b || is_real s) e
    | inr e ↦ ap (λ (b : Bool). b || is_real s) e ∙ elim n [
      | inl i ↦ absurd (let z = sym e ∙ (integer_tested s).1 i in (cc))
      | inr r ↦ (real_tested s).1 r
    ]
  ],
)

-- it is so where a test holds
pub unless_ok : (test : Bool) (why : Unwritable) → is_ok (unless test why) ≡ test
unless_ok true why = refl
unless_ok false why = refl

-- and where two do
pub and_ok : (a b : Result (Unit {0}) Unwritable) → is_ok (result_and a b) ≡ is_ok a && is_ok b
and_ok (Ok done) b = refl
and_ok (Err why) b = refl

-- two tests in turn
two_ok : (a b : Bool) (x y : Unwritable) → is_ok (result_and (unless a x) (unless b y)) ≡ a && b
two_ok a b x y = and_ok (unless a x) (unless b y) ∙ rw (unless_ok a x, unless_ok b y) refl

-- a string can be written exactly where it is found to
string_tested : (s : List ℕ) → IsOk (writable_string s) ↔ IsWritableValue (value.Str s)
unfolding writable_string
string_tested s =
    let a = is_text s in
    let b = bytes_eq (normal_form s) s in
    let c = not (ends_in_ampersand s) in
    let tests : is_ok (result_and (result_and (unless a StringBytes) (unless b StringSpaces)) (unless c StringAmpersand)) ≡ a && b && c =
    and_ok (result_and (unless a StringBytes) (unless b StringSpaces)) (unless c StringAmpersand) ∙ rw (two_ok a b StringBytes StringSpaces, unless_ok c StringAmpersand) refl in (
      λ h.
          let p = and_parts (a && b) c (sym tests ∙ h) in
          let q = and_parts a b p.0 in
          (q.0, (bytes_eq-Decides (normal_form s) s).0 q.1, λ e. (let z = sym (not-true (ends_in_ampersand s) p.1) ∙ ampersand_said s e in absurd (cc))),
      λ w. tests ∙ and_from _ _ (and_from _ _ w.0 ((bytes_eq-Decides (normal_form s) s).1 w.1)) (not_from_false (ends_in_ampersand s) (false_from_ne_true (ends_in_ampersand s) (λ e. w.2 (ampersand_told s e)))),
    )

-- and a value
value_tested : (value : Value) → IsOk (writable_value value) ↔ IsWritableValue value
unfolding writable_value
value_tested value.Undefined = (λ _. tt, λ _. refl)
value_tested (value.Logical flag) = (λ _. tt, λ _. refl)
value_tested (value.Integer text) =
    let test = unless_ok (is_integer text) NotNumber in
    (λ h. (integer_tested text).0 (sym test ∙ h), λ w. test ∙ (integer_tested text).1 w)
value_tested (value.Real text) =
    let test = unless_ok (is_real text) NotNumber in
    (λ h. (real_tested text).0 (sym test ∙ h), λ w. test ∙ (real_tested text).1 w)
value_tested (value.Complex real imaginary) =
    let test = unless_ok (is_number real && is_number imaginary) NotNumber in (
      λ h. let p = and_parts (is_number real) (is_number imaginary) (sym test ∙ h) in ((number_tested real).0 p.0, (number_tested imaginary).0 p.1),
      λ w. test ∙ and_from _ _ ((number_tested real).1 w.0) ((number_tested imaginary).1 w.1),
    )
value_tested (value.Str text) = string_tested text

-- and a comment
comment_tested : (comment : Option (List ℕ)) → IsOk (writable_comment comment) ↔ IfSome comment IsWritableComment
unfolding writable_comment
comment_tested None = (λ _. tt, λ _. refl)
comment_tested (Some text) =
    let tests = two_ok (is_text text) (eqb (suffix_len is_space text) 0) CommentBytes CommentSpaces in (
      λ h. let p = and_parts (is_text text) (eqb (suffix_len is_space text) 0) (sym tests ∙ h) in (p.0, eqb-true (suffix_len is_space text) 0 p.1),
      λ w. tests ∙ and_from _ _ w.0 (eq-eqb (suffix_len is_space text) 0 w.1),
    )

-- cards fit exactly where each has 80 bytes
fit_tested : (cards : List (List ℕ)) → IsTrue (all_fit cards) ↔ All (λ card. length card ≡ 80) cards
fit_tested [] = (λ _. All-nil (λ card. length card ≡ 80), λ _. refl)
fit_tested (card ∷ cards) =
    let more = fit_tested cards in (
      λ h. let p = and_parts (eqb (length card) 80) (all_fit cards) h in All-cons (λ card. length card ≡ 80) card cards (eqb-true (length card) 80 p.0) (more.0 p.1),
      λ all. and_from _ _ (eq-eqb (length card) 80 (all 0 [] (omega arith))) (more.1 (λ k d l. all (suc k) d (omega (arith, l)))),
    )

-- a value and a comment can be written exactly where they are found to
pub what_can_be_written : (name : List ℕ) (value : Value) (comment : Option (List ℕ)) → IsTrue (is_writable name value comment) ↔ IsWritable name value comment
unfolding is_writable
what_can_be_written name value comment =
    let parts = and_ok (writable_value value) (writable_comment comment) in
    let fits = all_fit (cards_of name value comment) in (
      λ h.
          let p = and_parts (is_ok (writable_parts value comment)) fits h in
          let q = and_parts (is_ok (writable_value value)) (is_ok (writable_comment comment)) (sym parts ∙ p.0) in
          record {
            is_value = (value_tested value).0 q.0;
            is_comment = (comment_tested comment).0 q.1;
            fits = (fit_tested (cards_of name value comment)).0 p.1;
          },
      λ w. and_from _ _ (parts ∙ and_from _ _ ((value_tested value).1 w.is_value) ((comment_tested comment).1 w.is_comment)) ((fit_tested (cards_of name value comment)).1 w.fits),
    )

-- what has cards can be written, and these are they
pub says_parts : (name : List ℕ) (value : Value) (comment : Option (List ℕ)) (written : List (List ℕ)) → write_says name value comment ≡ Some written → IsTrue (is_writable name value comment) × (cards_of name value comment ≡ written)
unfolding write_says
says_parts name value comment written e = elim (chosen (is_writable name value comment) (Some (cards_of name value comment)) None (Some written) e) [
  | inl w ↦ (w.0, same_Some (cards_of name value comment) written w.1)
  | inr w ↦ absurd (let z = w.1 in (cc))
]
