-- What HDUs are called, and how many are called the same.
use Rattle.std.proofs.Common.{◌≡◌, ◌⊎◌, ℕ, ◌+◌, ◌<◌, ◌≤◌, Bool, true, false, cond, true≢false, List, [], ◌∷◌, ◌++◌, length, take, get_or, refl, ap, sym, ◌∙◌, arith, inl, inr, Option, Some, suc}
use Rattle.std.specs.Prelude.{◌&&◌}
use Rattle.std.specs.List.{filter}
use Rattle.std.specs.Ordering.{int_eq}
use Rattle.std.specs.Str.{bytes_eq}
use Rattle.std.proofs.lemmas.Bool.Decides.{Decides-int_eq}
use Rattle.std.proofs.lemmas.Slice.Eq.{bytes_eq-Decides}
use Rattle.std.proofs.lemmas.List.{map-append, take_more}
use Rattle.fits_passing.specs.ExtensionName.{is_same_name}
use Rattle.fits_passing.specs.declared.called.ExtensionName.{ExtensionName}
use Rattle.fits_passing.specs.declared.findings.Findings.{Findings}
use Rattle.fits_passing.specs.Report.{called_count, found_names, is_called}

-- both of two tests pass
both_pass : (a b : Bool) → a && b ≡ true → (a ≡ true) × (b ≡ true)
both_pass true b p = (refl, p)
both_pass false b p = cc

-- names that are the same are equal
pub same_name : (name other : ExtensionName) → is_same_name name other ≡ true → name ≡ other
same_name name other p =
    let q = both_pass (int_eq name.extver other.extver) (bytes_eq name.xtension other.xtension && bytes_eq name.extname other.extname) p in
    let r = both_pass (bytes_eq name.xtension other.xtension) (bytes_eq name.extname other.extname) q.1 in
    let version = (Decides-int_eq name.extver other.extver).0 q.0 in
    let type = (bytes_eq-Decides name.xtension other.xtension).0 r.0 in
    let text = (bytes_eq-Decides name.extname other.extname).0 r.1 in
    λ i. record { xtension = type i; extname = text i; extver = version i }

-- and a name is the same as itself
pub name_itself : (name : ExtensionName) → is_same_name name name ≡ true
name_itself name =
    rw ((Decides-int_eq name.extver name.extver).1 refl, (bytes_eq-Decides name.xtension name.xtension).1 refl, (bytes_eq-Decides name.extname name.extname).1 refl) refl

-- one more, if the first is
pub count_called : (name : ExtensionName) (first : Option ExtensionName) (names : List (Option ExtensionName)) → is_called name first ≡ true → called_count name (first ∷ names) ≡ suc (called_count name names)
count_called name first names is = ap (λ b. length (cond b (first ∷ filter (is_called name) names) (filter (is_called name) names))) is

-- and no more, if it isn't
pub count_other : (name : ExtensionName) (first : Option ExtensionName) (names : List (Option ExtensionName)) → is_called name first ≡ false → called_count name (first ∷ names) ≡ called_count name names
count_other name first names is = ap (λ b. length (cond b (first ∷ filter (is_called name) names) (filter (is_called name) names))) is

-- the first is called so, or it isn't
pub first_or : (name : ExtensionName) (first : Option ExtensionName) → (is_called name first ≡ true) ⊎ (is_called name first ≡ false)
first_or name first = either (is_called name first) refl
  where
    either : (b : Bool) → is_called name first ≡ b → (is_called name first ≡ true) ⊎ (is_called name first ≡ false)
    either true p = inl p
    either false p = inr p

-- a name is another, or it isn't
pub same_or : (name other : ExtensionName) → (is_same_name name other ≡ true) ⊎ (is_same_name name other ≡ false)
same_or name other = first_or name (Some other)

-- where it isn't, the other isn't either
pub other_way : (name other : ExtensionName) → is_same_name name other ≡ false → is_same_name other name ≡ false
other_way name other p =
    elim (same_or other name) [
      | inl same ↦ absurd (true≢false (sym (rw (same_name other name same) (name_itself name)) ∙ p))
      | inr not ↦ not
    ]

-- what one more HDU is called
pub names_push : (found : List Findings) (i : ℕ) (it : Findings) → i < length found → it ≡ get_or found i it → found_names (take (i + 1) found) ≡ found_names (take i found) ++ it.name ∷ []
names_push found i it l e =
    ap found_names (take_more found i it l ∙ ap (λ (x : Findings). take i found ++ x ∷ []) (sym e)) ∙ map-append (λ (one : Findings). one.name) (take i found) (it ∷ [])

-- no more are called so than there are
pub count_within : (name : ExtensionName) (names : List (Option ExtensionName)) → called_count name names ≤ length names
count_within name [] = omega arith
count_within name (first ∷ names) =
    elim (first_or name first) [
      | inl is ↦ omega (arith, count_within name names, count_called name first names is)
      | inr not ↦ omega (arith, count_within name names, count_other name first names not)
    ]
