-- What a change keeps of a table: column by column, and as a whole.
use Rattle.std.proofs.Common.{◌≡◌, ℕ, zero, suc, ◌+◌, ◌<◌, ◌&&◌, Bool, true, false, List, [], ◌∷◌, length, None, Some, Ok, refl, ap, sym, ◌∙◌, arith}
use Rattle.std.specs.List.{list_all, range_with_len}
use Rattle.std.proofs.lemmas.List.Folds.{list_all-append}
use Rattle.fits_rules.specs.Shape.{shape_of}
use Rattle.fits_rules.specs.declared.array_shape.Shape.{Shape}
use Rattle.fits_table.specs.Judged.{kind_of}
use Rattle.fits_table.specs.Kept.{keeps_by, keeps_column, keeps_columns, keeps_each, keeps_table}
use Rattle.fits_table.specs.declared.table_kind.TableKind.{TableKind}
use Rattle.fits_table.proofs.MarkingLemmas.{range_more}

-- what fails beside anything
and_false : (b : Bool) → (b && false) ≡ false
and_false true = refl
and_false false = refl

-- what holds of all holds with one more
all_more : (P : ℕ → Bool) (n : ℕ) → true ≡ list_all P (range_with_len 1 n) → true ≡ P (n + 1) → true ≡ list_all P (range_with_len 1 (n + 1))
all_more P n all one =
    let more : n + 1 ≡ suc n = omega arith in
    let last : 1 + n ≡ n + 1 = omega arith in
    sym (ap (λ k. list_all P (range_with_len 1 k)) more
    ∙ (ap (list_all P) (range_more 1 n)
    ∙ (list_all-append P (range_with_len 1 n) ((1 + n) ∷ [])
    ∙ (ap (λ b. b && (P (1 + n) && true)) (sym all)
    ∙ (ap (λ k. P k && true) last ∙ ap (λ b. b && true) (sym one))))))

-- what fails of one fails of all
pub broken_from : (P : ℕ → Bool) (a n k : ℕ) → k < n → P (a + k) ≡ false → list_all P (range_with_len a n) ≡ false
broken_from P a zero k l e = absurd (omega (arith, l))
broken_from P a (suc n) zero l e =
    let here : a + 0 ≡ a = omega arith in
    ap (λ b. b && list_all P (range_with_len (a + 1) n)) (ap P (sym here) ∙ e)
broken_from P a (suc n) (suc k) l e =
    let here : a + 1 + k ≡ a + suc k = omega arith in
    ap (λ b. P a && b) (broken_from P (a + 1) n k (omega (arith, l)) (ap P here ∙ e)) ∙ and_false (P a)

-- no column is lost among none
pub each_none : (kind : TableKind) (before after : List (List ℕ)) → true ≡ keeps_each kind before after 0
each_none kind before after = refl

-- one more stays
pub each_more : (kind : TableKind) (before after : List (List ℕ)) (n : ℕ) → true ≡ keeps_each kind before after n → true ≡ keeps_column kind before after (n + 1) → true ≡ keeps_each kind before after (n + 1)
each_more kind before after n all one = all_more (keeps_column kind before after) n all one

-- one doesn't
pub each_broken : (kind : TableKind) (before after : List (List ℕ)) (fields n : ℕ) → n < fields → false ≡ keeps_column kind before after (n + 1) → false ≡ keeps_each kind before after fields
each_broken kind before after fields n l e =
    let here : 1 + n ≡ n + 1 = omega arith in
    sym (broken_from (keeps_column kind before after) 1 fields n l (ap (keeps_column kind before after) here ∙ sym e))

pub ruleset each_steps = (each_none, each_more, each_broken)

-- what is no table keeps nothing of one
pub columns_none : (primary : Bool) (before after : List (List ℕ)) → None ≡ kind_of primary before → true ≡ keeps_columns primary before after
unfolding keeps_columns
columns_none primary before after is = ap (λ kind. keeps_by primary kind (shape_of primary before) before after) is

-- what is one stays it
pub columns_some : (primary : Bool) (kind : TableKind) (shape : Shape) (before after : List (List ℕ)) → Some kind ≡ kind_of primary before → shape_of primary before ≡ Ok shape → keeps_table primary kind (length shape.axes) before after ≡ keeps_columns primary before after
unfolding keeps_columns
columns_some primary kind shape before after is shaped =
    ap (λ s. keeps_by primary (Some kind) s before after) (sym shaped) ∙ ap (λ k. keeps_by primary k (shape_of primary before) before after) is

pub ruleset columns_steps = (columns_none, columns_some)
