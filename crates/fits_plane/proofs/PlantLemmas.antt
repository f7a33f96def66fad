-- A tree that is opened: the leaves stand in a list of units.
use Rattle.std.proofs.Common.{◌≡◌, ◌≤◌, ◌<◌, ◌+◌, ◌-◌, ◌*◌, ℕ, zero, suc, List, ◌++◌, length, get_or, take, drop, refl, arith, sym, ◌∙◌, ap, subst, inl, inr}
use Rattle.std.specs.Prelude.{replicate}
use Rattle.std.proofs.lemmas.Bool.{cases_lt}
use Rattle.std.proofs.lemmas.List.{get_or-drop, get_or-take, get_or_append_left, get_or-append_right, length-take, length-drop, length-append, length-replicate, take_at, drop_at}
use borrow.Rule.Slice.PartMut.{put_mid, post_of}

module _ {S : Type 0} (unit : S) (fits : S → Type 0) where
  -- each of some units is a unit
  const : (m j : ℕ) → get_or (replicate m unit) j unit ≡ unit
  const zero j = refl
  const (suc m) zero = refl
  const (suc m) (suc j) = const m j

  pub record Opened (n used : ℕ) (xs nodes : List S) : Type 0 where
    pub long : length nodes ≡ 2 * n
    pub fit : (k : ℕ) → fits (get_or nodes k unit)
    pub leaves : take used (drop n nodes) ≡ xs
    pub units : (k : ℕ) → used ≤ k → get_or nodes (n + k) unit ≡ unit

  pub opened : (n used k : ℕ) (xs : List S) → length xs ≡ used → k ≡ used → used ≤ n → ((i : ℕ) → i < length xs → fits (get_or xs i unit)) → fits unit → Opened n used xs (put_mid n k (replicate (n * 2) unit) xs)
  opened n used k xs e f h fit unit_fits =
      let r : List S = replicate (n * 2) unit in
      let all : length r ≡ n * 2 = length-replicate (n * 2) unit in
      let front : length (take n r) ≡ n = omega (arith, length-take n r, all) in
      let back = post_of n k r in
      let past : (j : ℕ) → length xs ≤ j → get_or (xs ++ back) j unit ≡ unit = λ j b. get_or-append_right xs back (length xs) j unit refl b ∙ get_or-drop k (drop n r) (j - length xs) unit ∙ get_or-drop n r (k + (j - length xs)) unit ∙ const (n * 2) (n + (k + (j - length xs))) in
      record {
        long = omega (arith, length-append (take n r) (xs ++ back), length-append xs back, front, length-drop k (drop n r), length-drop n r, all);
        fit = λ j. elim (cases_lt j n) [
          | inl lt ↦ subst fits (sym (get_or_append_left (take n r) (xs ++ back) unit j (omega (arith, front, lt)) ∙ get_or-take n r j unit lt ∙ const (n * 2) j)) unit_fits
          | inr ge ↦ subst fits (sym (get_or-append_right (take n r) (xs ++ back) n j unit front ge)) (elim (cases_lt (j - n) (length xs)) [
            | inl lt ↦ subst fits (sym (get_or_append_left xs back unit (j - n) lt)) (fit (j - n) lt)
            | inr far ↦ subst fits (sym (past (j - n) far)) unit_fits
          ])
        ];
        leaves = ap (take used) (drop_at (take n r) (xs ++ back) n front) ∙ take_at xs back used e;
        units = λ j b. get_or-append_right (take n r) (xs ++ back) n (n + j) unit front (omega arith) ∙ (let z : n + j - n ≡ j = omega arith in ap (λ m. get_or (xs ++ back) m unit) z) ∙ past j (omega (arith, e, b));
      }

-- a leaf of two lists with the same leaves
pub same_leaf : {S : Type 0} (n k : ℕ) (old new : List S) (d : S) → drop n new ≡ drop n old → get_or new (n + k) d ≡ get_or old (n + k) d
same_leaf n k old new d e = sym (get_or-drop n new k d) ∙ ap (λ xs. get_or xs k d) e ∙ get_or-drop n old k d
