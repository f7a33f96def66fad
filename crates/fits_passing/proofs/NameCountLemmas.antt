-- A table of names, and how many are called each.
use Rattle.std.proofs.Common.{◌≡◌, ℕ, ◌+◌, cond, List, [], ◌∷◌, ◌++◌, ap, ◌∙◌, arith, Option, ◌<◌, ◌^◌, not, refl, sym, subst, inl, inr, Some, zero, suc}
use Rattle.std.specs.List.{sum_by, position_or_len, slice_get, IsDistinct}
use Rattle.std.proofs.lemmas.List.Sums.{length-filter, sum_by_push, sum_by-cons}
use Rattle.fits_passing.specs.declared.called.ExtensionName.{ExtensionName}
use Rattle.fits_passing.specs.NameCounts.{said_of, IsTableOf, TellsOf, number_in, TellsOfFew}
use Rattle.fits_passing.specs.Report.{called_count, is_called}
use Rattle.std.specs.Map.{keys_of, lookup}
use Rattle.std.specs.Option.{unwrap_or}
use Rattle.indexmap.specs.IndexMap.{insert_entry}
use Rattle.fits_passing.specs.ExtensionName.{is_same_name}
use Rattle.fits_passing.proofs.NameLemmas.{count_called, count_other, count_within, name_itself, other_way, same_name, same_or}

-- one where an HDU is called so
pub one_if : ExtensionName → Option ExtensionName → ℕ
one_if name said = cond (is_called name said) 1 0

-- how many are called so, as a sum
pub count_sum : (name : ExtensionName) (names : List (Option ExtensionName)) → called_count name names ≡ sum_by (one_if name) names
unfolding one_if
count_sum name names = length-filter (is_called name) names

-- one name before others
pub count_cons : (name : ExtensionName) (first : Option ExtensionName) (names : List (Option ExtensionName)) → called_count name (first ∷ names) ≡ one_if name first + called_count name names
count_cons name first names = omega (arith, count_sum name (first ∷ names), count_sum name names, sum_by-cons (one_if name) first names)

-- a table tells of names by their counts alone
pub told_alike : (xs ys : List (Option ExtensionName)) (es : List (ExtensionName × ℕ)) → ((name : ExtensionName) → called_count name xs ≡ called_count name ys) → TellsOf xs es → TellsOf ys es
told_alike xs ys es same told name = told name ∙ ap said_of (same name)

-- so a table of some is one of others that have each name as often
pub table_alike : (xs ys : List (Option ExtensionName)) (es : List (ExtensionName × ℕ)) → ((name : ExtensionName) → called_count name xs ≡ called_count name ys) → IsTableOf xs es → IsTableOf ys es
table_alike xs ys es same p = record { told = told_alike xs ys es same p.told; once = p.once }

-- a name after others counts as one before them
pub count_push : (name : ExtensionName) (names : List (Option ExtensionName)) (last : Option ExtensionName) → called_count name (last ∷ names) ≡ called_count name (names ++ last ∷ [])
count_push name names last = omega (arith, count_cons name last names, count_sum name names, count_sum name (names ++ last ∷ []), sum_by_push (one_if name) names last)

-- the number that is said of a name
said_number : (n : ℕ) → unwrap_or (said_of n) 0 ≡ n
said_number zero = refl
said_number (suc n) = refl

-- a table's number of a name is how many have it
pub number_told : (names : List (Option ExtensionName)) (es : List (ExtensionName × ℕ)) (name : ExtensionName) → TellsOf names es → number_in es name ≡ called_count name names
number_told names es name told = ap (λ o. unwrap_or o 0) (told name) ∙ said_number (called_count name names)

-- a table that has one more of a name tells of it too
pub told_more : (names : List (Option ExtensionName)) (es fs : List (ExtensionName × ℕ)) (name : ExtensionName) (n : ℕ) → TellsOf names es → n ≡ number_in es name
    → ((q : ExtensionName) → lookup (is_same_name q) fs ≡ cond (is_same_name name q) (Some (n + 1)) (lookup (is_same_name q) es)) → TellsOf (Some name ∷ names) fs
told_more names es fs name n told is puts q =
    elim (same_or name q) [
      | inl same ↦
          let e : name ≡ q = same_name name q same in
          let count : called_count q (Some name ∷ names) ≡ suc (called_count q names) = count_called q (Some name) names (ap (λ (it : ExtensionName). is_same_name q it) e ∙ name_itself q) in
          let so_far : n + 1 ≡ suc (called_count q names) = omega (arith, is, number_told names es name told, ap (λ (it : ExtensionName). called_count it names) e) in
          puts q ∙ ap (λ b. cond b (Option.Some (n + 1)) (lookup (is_same_name q) es)) same ∙ ap (λ m. Option.Some m) so_far ∙ ap said_of (sym count)
      | inr not ↦
          puts q ∙ ap (λ b. cond b (Option.Some (n + 1)) (lookup (is_same_name q) es)) not ∙ told q ∙ ap said_of (sym (count_other q (Some name) names (other_way name q not)))
    ]

module _ (name : ExtensionName) (v : ℕ) where
  -- a name that stood at a place stands there once a name is put in
  pub kept_by_insert : (es : List (ExtensionName × ℕ)) (at : ℕ) (other : ExtensionName) → slice_get (keys_of es) at ≡ Some other → slice_get (keys_of (insert_entry is_same_name es name v)) at ≡ Some other
  kept_by_insert [] at other p = cc
  kept_by_insert (e ∷ es) zero other p =
      elim (same_or name e.0) [
        | inl same ↦ ap (λ b. slice_get (keys_of (cond b ((e.0, v) ∷ es) (e ∷ insert_entry is_same_name es name v))) 0) same ∙ p
        | inr not ↦ ap (λ b. slice_get (keys_of (cond b ((e.0, v) ∷ es) (e ∷ insert_entry is_same_name es name v))) 0) not ∙ p
      ]
  kept_by_insert (e ∷ es) (suc at) other p =
      elim (same_or name e.0) [
        | inl same ↦ ap (λ b. slice_get (keys_of (cond b ((e.0, v) ∷ es) (e ∷ insert_entry is_same_name es name v))) (suc at)) same ∙ p
        | inr not ↦ ap (λ b. slice_get (keys_of (cond b ((e.0, v) ∷ es) (e ∷ insert_entry is_same_name es name v))) (suc at)) not ∙ kept_by_insert es at other p
      ]

  -- and the name stands at its own place
  pub placed_by_insert : (es : List (ExtensionName × ℕ)) → slice_get (keys_of (insert_entry is_same_name es name v)) (position_or_len (is_same_name name) (keys_of es)) ≡ Some name
  placed_by_insert [] = refl
  placed_by_insert (e ∷ es) =
      let rest : ℕ = position_or_len (is_same_name name) (keys_of es) in
      elim (same_or name e.0) [
        | inl same ↦
            let here = ap (λ b. slice_get (keys_of (cond b ((e.0, v) ∷ es) (e ∷ insert_entry is_same_name es name v))) (cond (not b) (1 + rest) 0)) same in
            here ∙ ap (λ (it : ExtensionName). Option.Some it) (sym (same_name name e.0 same))
        | inr not' ↦
            let here = ap (λ b. slice_get (keys_of (cond b ((e.0, v) ∷ es) (e ∷ insert_entry is_same_name es name v))) (cond (not b) (1 + rest) 0)) not' in
            let number : 1 + rest ≡ suc rest = omega arith in
            here ∙ ap (λ n. slice_get (keys_of (e ∷ insert_entry is_same_name es name v)) n) number ∙ placed_by_insert es
      ]

-- so few have a name
pub few_have : (es : List (ExtensionName × ℕ)) (name : ExtensionName) (n : ℕ) → TellsOfFew es → n ≡ number_in es name → n < 2 ^ 63
few_have es name n few is = omega (arith, is, number_told few.names es name few.table.told, count_within name few.names, few.few)

-- a table of no names has none
pub table_empty : (es : List (ExtensionName × ℕ)) → es ≡ [] → IsTableOf [] es
unfolding IsDistinct
table_empty es none = record { told = λ name. ap (lookup (is_same_name name)) none; once = subst (λ (fs : List (ExtensionName × ℕ)). IsDistinct is_same_name (keys_of fs)) (sym none) tt }
