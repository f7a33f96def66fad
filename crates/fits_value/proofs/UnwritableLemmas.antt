-- Whether values and comments can be written and fit their cards.
use Rattle.std.proofs.Common.{◌≡◌, ℕ, ◌&&◌, Bool, leb, ltb, List, length, Option, None, Some, Result, Ok, Err, sym, ◌∙◌, ap, arith, inl, inr}
use Rattle.std.specs.Prelude.{IsTrue, OnErr, OnOk, is_ok}
use Rattle.std.proofs.lemmas.Bool.{cases_lt, cond-true, cond-false, le-leb, lt-ltb, le-ltb, lt-leb}
use Rattle.fits_value.proofs.RoomLemmas.{line_size, cards_fit, same_fit}
use Rattle.fits_value.proofs.WritableLemmas.{unless_ok, and_ok}
use Rattle.fits_value.specs.Unwritable.{value_end, comment_room, comment_has_room, has_room, writable}
use Rattle.fits_value.specs.Written.{writable_parts, is_writable, write_says}
use Rattle.fits_value.specs.declared.unwritable.Unwritable.{Unwritable}
use Rattle.fits_value.specs.declared.unwritable.Unwritable.TheVariants.{LongNumber, NoRoom, LongComment}
use Rattle.fits_value.specs.declared.value.Value.{Value}

-- a card has room exactly where its line fits
room_ok : (before : ℕ) (comment : Option (List ℕ)) → is_ok (has_room before comment) ≡ leb (line_size before comment) 80
unfolding has_room line_size
room_ok before None = elim (cases_lt 80 before) [
  | inl h ↦ ap is_ok (cond-true (ltb 80 before) (Err LongNumber) (Ok tt) (lt-ltb 80 before h)) ∙ sym (lt-leb before 80 h)
  | inr h ↦ ap is_ok (cond-false (ltb 80 before) (Err LongNumber) (Ok tt) (le-ltb 80 before h)) ∙ sym (le-leb before 80 h)
]
room_ok before (Some comment) = elim (cases_lt 80 before) [
  | inl h ↦ ap is_ok (cond-true (ltb 80 before) (Err LongNumber) (comment_has_room before (Some comment)) (lt-ltb 80 before h)) ∙ sym (lt-leb (line_size before (Some comment)) 80 (omega arith))
  | inr h ↦ ap is_ok (cond-false (ltb 80 before) (Err LongNumber) (comment_has_room before (Some comment)) (le-ltb 80 before h)) ∙ elim (cases_lt 78 before) [
    | inl g ↦ ap is_ok (cond-true (ltb 78 before) (Err NoRoom) _ (lt-ltb 78 before g)) ∙ sym (lt-leb (line_size before (Some comment)) 80 (omega arith))
    | inr g ↦
        ap is_ok (cond-false (ltb 78 before) (Err NoRoom) _ (le-ltb 78 before g))
        ∙ (unless_ok (leb (length comment) (comment_room before)) (LongComment (length comment) (comment_room before)) ∙ same_fit before (length comment) g)
  ]
]

-- a value and a comment can be written exactly where nothing is at fault
writable_ok : (name : List ℕ) (value : Value) (comment : Option (List ℕ)) → length name ≡ 8 → is_ok (writable value comment) ≡ is_writable name value comment
unfolding writable is_writable
writable_ok name value comment h =
    and_ok (writable_parts value comment) (has_room (value_end value) comment)
    ∙ ap (λ (b : Bool). is_ok (writable_parts value comment) && b) (room_ok (value_end value) comment ∙ sym (cards_fit name value comment h))

-- where it is so they can be
pub ok_told : (r : Result (Unit {0}) Unwritable) (value : Value) (comment : Option (List ℕ)) → r ≡ writable value comment
    → OnOk r ((name : List ℕ) → length name ≡ 8 → IsTrue (is_writable name value comment))
ok_told (Ok done) value comment e = λ name h. sym (writable_ok name value comment h) ∙ ap is_ok (sym e)
ok_told (Err why) value comment e = tt

-- and else they can't
pub err_told : (r : Result (Unit {0}) Unwritable) (value : Value) (comment : Option (List ℕ)) → r ≡ writable value comment
    → OnErr r ((name : List ℕ) → length name ≡ 8 → write_says name value comment ≡ None)
unfolding write_says
err_told (Ok done) value comment e = tt
err_told (Err why) value comment e = λ name h.
    cond-false (is_writable name value comment) _ _ (sym (writable_ok name value comment h) ∙ ap is_ok (sym e))

pub ruleset writable_steps = (ok_told, err_told)
