-- What crashes leave while one call follows another.
use Rattle.std.proofs.Common.{◌⊎◌, inl, inr, ⊎_elim, ℕ, ◌≤◌, Result, Ok, Err, OnOk, IfErr, arith}
use Rattle.fits_redo.specs.Pair.{Files, LeavesOnly}

module _ {D : Type 0} (moment : D → ℕ) (left_since : D → ℕ → Files → Type 0) where
  -- before the first call
  pub started : (old : D) (P : Files → Type 0) → ((c : Files) → left_since old (moment old) c → P c) → LeavesOnly moment left_since old old P
  started old P here = record { later = omega arith; each = here; before = λ t c le left. inl left }

  -- what has P has Q
  pub weaker : (old new : D) (P Q : Files → Type 0) → LeavesOnly moment left_since old new P → ((c : Files) → P c → Q c) → LeavesOnly moment left_since old new Q
  weaker old new P Q so_far to = record {
    later = so_far.later;
    each = λ c left. to c (so_far.each c left);
    before = λ t c le left. ⊎_elim (λ was. inl was) (λ now. inr (to c now)) (so_far.before t c le left);
  }

  -- one call after another
  pub followed : (old mid new : D) (P : Files → Type 0) → LeavesOnly moment left_since old mid P → LeavesOnly moment left_since mid new P → LeavesOnly moment left_since old new P
  followed old mid new P first second = record {
    later = omega (arith, first.later, second.later);
    each = λ c left. ⊎_elim (λ was. first.each c was) (λ now. now) (second.before (moment old) c first.later left);
    before = λ t c le left. ⊎_elim (λ was. first.before t c le was) (λ now. inr now) (second.before t c (omega (arith, le, first.later)) left);
  }

  -- a call before which a crash leaves what has P, and after which it does
  pub called : (old new : D) (before after P : Files → Type 0) → LeavesOnly moment left_since old new (λ c. before c ⊎ after c) → ((c : Files) → before c → P c) → ((c : Files) → after c → P c) → LeavesOnly moment left_since old new P
  called old new before after P time was is = weaker old new (λ c. before c ⊎ after c) P time (λ c either. ⊎_elim (was c) (is c) either)

  -- once calls have left what has P, a crash now leaves such
  pub left_now : (may_leave : D → Files → Type 0) → ((d : D) (t : ℕ) (c : Files) → t ≤ moment d → may_leave d c → left_since d t c) → (old new : D) (P : Files → Type 0) → LeavesOnly moment left_since old new P → (c : Files) → may_leave new c → P c
  left_now may_leave counts old new P so_far c now = so_far.each c (counts new (moment old) c so_far.later now)

-- what follows from a clause of a call that was done
pub on_ok : {T E : Type 0} {A B : Type 0} (r : Result T E) → OnOk r A → (A → B) → OnOk r B
on_ok (Ok x) a to = to a
on_ok (Err e) a to = a

-- what holds of each fault holds where there is one
pub on_err : {T E : Type 0} {P : E → Type 0} (r : Result T E) → ((e : E) → P e) → IfErr r P
on_err (Ok x) to = tt
on_err (Err e) to = to e
