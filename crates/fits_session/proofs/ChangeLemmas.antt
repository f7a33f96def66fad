-- One HDU of a file changes.
use Rattle.std.proofs.Common.{◌≡◌, ℕ, ◌+◌, ◌≤◌, Bool, true, false, List, [], ◌∷◌, ◌++◌, length, refl, ap, sym, subst, arith, rules, All, Some, zero, suc}
use Rattle.std.specs.List.{slice_get}
use Rattle.std.proofs.lemmas.List.{length-append}
use Rattle.std.proofs.lemmas.Option.{slice_get_within, get_or_from_slice_get}
use Rattle.fits_passing.specs.Hdu.{HduParts, hdu_bytes, IsHdu}
use Rattle.fits_session.specs.Edit.{changed_at}
use Rattle.fits_passing.specs.File.{joined_hdus, goes_on, IsFrontOf, is_primary_hdu}

-- an extension is no primary HDU
other_at : (i : ℕ) → is_primary_hdu (suc (suc i)) ≡ false
other_at i = search rules

-- the HDU at an index is one: the first the primary one, another an extension
pub hdu_is : (f : List ℕ) (hdus : List HduParts) (rest : List ℕ) (i : ℕ) (hdu : HduParts) → IsFrontOf f hdus rest → slice_get hdus i ≡ Some hdu → IsHdu (is_primary_hdu (suc i)) hdu
hdu_is f [] rest i hdu p e = cc
hdu_is f (v ∷ vs) rest zero hdu p e = let same : v ≡ hdu = cc in subst (IsHdu true) same (p.first 0 v (omega arith))
hdu_is f (v ∷ vs) rest (suc i) hdu p e =
    let there : IsHdu false hdu = subst (IsHdu false) (get_or_from_slice_get vs i hdu hdu e) (p.others i hdu (slice_get_within vs i hdu e)) in
    subst (λ (b : Bool). IsHdu b hdu) (sym (other_at i)) there

-- how many bytes HDUs have after a change of one
pub joined-changed : (hdus : List HduParts) (i : ℕ) (hdu : HduParts) (change : HduParts → HduParts) → slice_get hdus i ≡ Some hdu → length (joined_hdus (changed_at i change hdus)) + length (hdu_bytes hdu) ≡ length (joined_hdus hdus) + length (hdu_bytes (change hdu))
joined-changed [] i hdu change e = cc
joined-changed (v ∷ vs) zero hdu change e =
    let same : v ≡ hdu = cc in
    omega (arith, length-append (hdu_bytes (change v)) (joined_hdus vs), length-append (hdu_bytes v) (joined_hdus vs), ap (λ u. length (hdu_bytes u)) same, ap (λ u. length (hdu_bytes (change u))) same)
joined-changed (v ∷ vs) (suc i) hdu change e =
    omega (arith, length-append (hdu_bytes v) (joined_hdus (changed_at i change vs)), length-append (hdu_bytes v) (joined_hdus vs), joined-changed vs i hdu change e)

-- an HDU is a part of its file
pub part_within : (hdus : List HduParts) (i : ℕ) (hdu : HduParts) → slice_get hdus i ≡ Some hdu → length (hdu_bytes hdu) ≤ length (joined_hdus hdus)
part_within [] i hdu e = cc
part_within (v ∷ vs) zero hdu e = let same : v ≡ hdu = cc in omega (arith, length-append (hdu_bytes v) (joined_hdus vs), ap (λ u. length (hdu_bytes u)) same)
part_within (v ∷ vs) (suc i) hdu e = omega (arith, length-append (hdu_bytes v) (joined_hdus vs), part_within vs i hdu e)

-- a change of one leaves their number
pub length-changed : {X : Type 0} (i : ℕ) (change : X → X) (xs : List X) → length (changed_at i change xs) ≡ length xs
length-changed i change [] = refl
length-changed zero change (x ∷ xs) = refl
length-changed (suc i) change (x ∷ xs) = ap suc (length-changed i change xs)

-- one change and then another are both
pub changed_at-both : {X : Type 0} (i : ℕ) (first second : X → X) (xs : List X) → changed_at i second (changed_at i first xs) ≡ changed_at i (λ x. second (first x)) xs
changed_at-both i first second [] = refl
changed_at-both zero first second (x ∷ xs) = refl
changed_at-both (suc i) first second (x ∷ xs) = ap (λ ys. x ∷ ys) (changed_at-both i first second xs)

-- what holds of a first element and of the others holds of all
all_cons : (P : HduParts → Type 0) (x : HduParts) (xs : List HduParts) → P x → All P xs → All P (x ∷ xs)
all_cons P x xs p q zero d l = p
all_cons P x xs p q (suc k) d l = q k d (omega arith)

-- what holds of all, and of the changed one, holds after the change
all_changed : (P : HduParts → Type 0) (hdus : List HduParts) (i : ℕ) (hdu : HduParts) (change : HduParts → HduParts) → slice_get hdus i ≡ Some hdu → P (change hdu) → All P hdus → All P (changed_at i change hdus)
all_changed P [] i hdu change e p q = q
all_changed P (v ∷ vs) zero hdu change e p q =
    let same : hdu ≡ v = cc in
    all_cons P (change v) vs (subst (λ (u : HduParts). P (change u)) same p) (λ k d l. q (suc k) d (omega arith))
all_changed P (v ∷ vs) (suc i) hdu change e p q = all_cons P v (changed_at i change vs) (q 0 v (omega arith)) (all_changed P vs i hdu change e p (λ k d l. q (suc k) d (omega arith)))

-- the HDUs end where they ended
pub goes_on-changed : (i : ℕ) (change : HduParts → HduParts) (hdus : List HduParts) (rest : List ℕ) → goes_on (changed_at i change hdus) rest ≡ goes_on hdus rest
goes_on-changed i change [] rest = refl
goes_on-changed zero change (v ∷ vs) rest = refl
goes_on-changed (suc i) change (v ∷ vs) rest = refl

-- the HDUs with one changed begin their bytes
pub front_changed : (f : List ℕ) (hdus : List HduParts) (rest : List ℕ) (i : ℕ) (hdu : HduParts) (change : HduParts → HduParts) → IsFrontOf f hdus rest → slice_get hdus i ≡ Some hdu → IsHdu (is_primary_hdu (suc i)) (change hdu)
    → IsFrontOf (joined_hdus (changed_at i change hdus) ++ rest) (changed_at i change hdus) rest
front_changed f [] rest i hdu change p e q = cc
front_changed f (v ∷ vs) rest zero hdu change p e q =
    let same : hdu ≡ v = cc in
    record {
      joined = refl;
      first = all_cons (IsHdu true) (change v) [] (subst (λ (u : HduParts). IsHdu true (change u)) same q) (λ k d l. absurd (omega arith));
      others = p.others;
    }
front_changed f (v ∷ vs) rest (suc i) hdu change p e q = record {
  joined = refl;
  first = p.first;
  others = all_changed (IsHdu false) vs i hdu change e (subst (λ (b : Bool). IsHdu b (change hdu)) (other_at i) q) p.others;
}
