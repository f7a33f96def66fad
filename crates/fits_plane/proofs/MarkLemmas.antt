-- Leaves that are marked.
use Rattle.std.proofs.Common.{◌≡◌, ◌≢◌, ◌≤◌, ◌<◌, ◌+◌, ◌*◌, ◌⊎◌, ℕ, Bool, true, false, cond, List, [], ◌∷◌, ◌++◌, length, get_or, take, arith, sym, ◌∙◌, ap, subst, inl, inr, add-one}
use Rattle.std.specs.Prelude.{count_by, if◌then◌else◌}
use Rattle.std.proofs.Math.Nat.{add-mul}
use Rattle.std.proofs.Math.Seq.{take-suc}
use Rattle.std.proofs.lemmas.Bool.{cases_eq, cases_lt, false≢true}
use Rattle.std.proofs.lemmas.List.{get_or-take, get_or_past, length-take}
use Rattle.std.proofs.lemmas.List.Sums.{sum_by_push}

-- ---- marks up to one

-- those before it
mark_before : (marks : List Bool) (k j : ℕ) → j < k → get_or (take k marks) j false ≡ get_or marks j false
mark_before marks k j b = get_or-take k marks j false b

-- none behind it
mark_behind : (marks : List Bool) (k j : ℕ) → k ≤ j → get_or (take k marks) j false ≡ false
mark_behind marks k j b = get_or_past (take k marks) j false (omega (arith, length-take k marks, b))

-- how many there are with one more
pub marks_more : (marks : List Bool) (k : ℕ) (b : Bool) → k < length marks → b ≡ get_or marks k false → count_by (λ b. b) (take (k + 1) marks) ≡ count_by (λ b. b) (take k marks) + (if b then 1 else 0)
marks_more marks k b inside e =
    let more : take (k + 1) marks ≡ take k marks ++ get_or marks k false ∷ [] = rw add-one (take-suc marks k false inside) in
    ap (count_by (λ b. b)) more ∙ sum_by_push (λ b. cond b 1 0) (take k marks) (get_or marks k false) ∙ ap (λ z. count_by (λ b. b) (take k marks) + cond z 1 0) (sym e)

-- joins of the marked ones before and of one more
pub marked_joins : (some all d a m n c : ℕ) (b : Bool) → all ≡ some + (if b then 1 else 0) → m ≤ a + some * d → n + c ≤ m + (if b then d else 0) → n + c ≤ a + all * d
marked_joins some all d a m n c true e p q = let sum : all * d ≡ some * d + 1 * d = ap (λ k. k * d) e ∙ add-mul some 1 d in omega (arith, sum, p, q)
marked_joins some all d a m n c false e p q = let sum : all * d ≡ some * d + 0 * d = ap (λ k. k * d) e ∙ add-mul some 0 d in omega (arith, sum, p, q)

-- a place after a leaf that may be marked
pub marked_place : (width last k result : ℕ) (b : Bool) → result ≡ (if b then width + k else last) → (last ≡ 1) ⊎ (width ≤ last) → last ≤ width + k → ((result ≡ 1) ⊎ (width ≤ result)) × (result ≤ width + (k + 1))
marked_place width last k result true e h o = (inr (omega (arith, e)), omega (arith, e))
marked_place width last k result false e h o = (subst (λ r. (r ≡ 1) ⊎ (width ≤ r)) (sym e) h, omega (arith, e, o))

-- ---- leaves that are made anew

module _ {S : Type 0} (P : ℕ → S → Type 0) (unit : S) (marks : List Bool) (k : ℕ) (b : Bool) (old cur new : List S) (is : b ≡ get_or marks k false)
    (here : b ≡ true → P k (get_or new k unit)) (other : (i : ℕ) → (b ≡ false) ⊎ (i ≢ k) → get_or new i unit ≡ get_or cur i unit) where
  -- the marked ones are, with one more
  pub made_more : ((j : ℕ) → get_or (take k marks) j false ≡ true → P j (get_or cur j unit)) → (j : ℕ) → get_or (take (k + 1) marks) j false ≡ true → P j (get_or new j unit)
  made_more before j e = elim (cases_lt j k) [
    | inl lt ↦
        let ne : j ≢ k = omega (arith, lt) in
        subst (P j) (sym (other j (inr ne))) (before j (mark_before marks k j lt ∙ sym (mark_before marks (k + 1) j (omega (arith, lt))) ∙ e))
    | inr ge ↦ elim (cases_eq j k) [
      | inl same ↦ subst (λ i. P i (get_or new i unit)) (sym same) (here (is ∙ ap (λ i. get_or marks i false) (sym same) ∙ sym (mark_before marks (k + 1) j (omega (arith, same))) ∙ e))
      | inr ne ↦ absurd (false≢true (sym (mark_behind marks (k + 1) j (omega (arith, ge, ne))) ∙ e))
    ]
  ]

  -- the others are kept
  pub kept_more : ((j : ℕ) → get_or (take k marks) j false ≡ false → get_or cur j unit ≡ get_or old j unit) → (j : ℕ) → get_or (take (k + 1) marks) j false ≡ false → get_or new j unit ≡ get_or old j unit
  kept_more before j e = elim (cases_lt j k) [
    | inl lt ↦
        let ne : j ≢ k = omega (arith, lt) in
        other j (inr ne) ∙ before j (mark_before marks k j lt ∙ sym (mark_before marks (k + 1) j (omega (arith, lt))) ∙ e)
    | inr ge ↦ elim (cases_eq j k) [
      | inl same ↦ other j (inl (is ∙ ap (λ i. get_or marks i false) (sym same) ∙ sym (mark_before marks (k + 1) j (omega (arith, same))) ∙ e)) ∙ before j (mark_behind marks k j (omega (arith, same)))
      | inr ne ↦ other j (inr ne) ∙ before j (mark_behind marks k j (omega (arith, ge)))
    ]
  ]
