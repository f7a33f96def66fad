-- A node of a tree is written, and those above it are joined anew.
use Rattle.std.proofs.Common.{◌≡◌, ◌≢◌, ◌≤◌, ◌<◌, ◌+◌, ◌*◌, ◌/◌, ◌^◌, ℕ, zero, suc, List, length, get_or, set, drop, arith, sym, ◌∙◌, ap, subst, inl, inr}
use Rattle.std.proofs.Math.Nat.{div-div-eq-div-mul, div-le_self}
use Rattle.std.proofs.lemmas.Bool.{cases_eq}
use Rattle.std.proofs.lemmas.List.{ext_get_or, length-drop, length-set, get_or-drop, get_or-set_same, get_or-set_other}
use Rattle.std.proofs.lemmas.Nat.{pow-add}
use Rattle.fits_pixels.specs.Summary.{SummaryLaws}
use Rattle.fits_plane.specs.Tree.{IsTree, IsTreeBut, IsAbove, IsJoined}

-- a place halved once, and then k times
halved : (p k : ℕ) → p / 2 / 2 ^ k ≡ p / 2 ^ (k + 1)
halved p k = let two : 2 * 2 ^ k ≡ 2 ^ (k + 1) = omega (arith, pow-add 2 k 1) in div-div-eq-div-mul p 2 (2 ^ k) ∙ ap (λ m. p / m) two

-- what stands above a place is the next one, or stands above that
above_next : (j p k : ℕ) → j ≢ p / 2 → j ≡ p / 2 ^ (k + 1) → IsAbove j (p / 2)
above_next j p zero ne e = absurd (ne e)
above_next j p (suc k) ne e = let n : suc k + 1 ≡ k + 1 + 1 = omega arith in (k, e ∙ ap (λ m. p / 2 ^ m) n ∙ sym (halved p (k + 1)))

-- nothing stands above the root
none_above : (j p : ℕ) → p ≤ 1 → 1 ≤ j → IsAbove j p → ⊥
none_above j p top low a = let none : p / 2 ≡ 0 = omega arith in let few = div-le_self (p / 2) (2 ^ a.0) in absurd (omega (arith, a.1, halved p a.0, none, few, low))

-- what stands above one of two paths that have met stands above the other's begin
above_both : (j place other to k : ℕ) → place / 2 ≡ other / 2 → other ≡ to / 2 ^ k → IsAbove j place → IsAbove j to
above_both j place other to k e o a =
    let m : ℕ = a.0 in
    let n : k + (m + 1) ≡ k + m + 1 = omega arith in (
      k + m,
      a.1 ∙ sym (halved place m) ∙ ap (λ x. x / 2 ^ m) e ∙ halved other m ∙ ap (λ x. x / 2 ^ (m + 1)) o
          ∙ div-div-eq-div-mul to (2 ^ k) (2 ^ (m + 1)) ∙ ap (λ x. to / x) (sym (pow-add 2 k (m + 1))) ∙ ap (λ x. to / 2 ^ x) n,
    )

-- one step of a path more
pub path_more : (other to k : ℕ) → other ≡ to / 2 ^ k → other / 2 ≡ to / 2 ^ (k + 1)
path_more other to k e = ap (λ x. x / 2) e ∙ div-div-eq-div-mul to (2 ^ k) 2 ∙ ap (λ x. to / x) (sym (pow-add 2 k 1))

module _ {S : Type 0} {unit : S} {join : S → S → S} {fits : S → Type 0} where
  -- a tree whose nodes are all joined
  pub tree_begun : (n : ℕ) (nodes : List S) → 1 ≤ n → IsTree unit join fits n nodes → IsTreeBut unit join fits n 1 nodes
  tree_begun n nodes some t = record { some = omega arith; within = omega (arith, some); long = t.long; fit = t.fit; joined = λ j a b. inr (t.joined j a b) }

  -- where only those above the root are yet to be joined, all are
  pub tree_done : (n : ℕ) (nodes : List S) → IsTreeBut unit join fits n 1 nodes → IsTree unit join fits n nodes
  tree_done n nodes t = record {
    long = t.long;
    fit = t.fit;
    joined = λ j a b. elim (t.joined j a b) [ inl h ↦ absurd (none_above j 1 (omega arith) a h) | inr h ↦ h ];
  }

  -- at the root nothing is left
  pub tree_top : (n place to : ℕ) (nodes : List S) → 1 ≤ to → to < 2 * n → place ≤ 1 → IsTreeBut unit join fits n place nodes → IsTreeBut unit join fits n to nodes
  tree_top n place to nodes some within top t = record {
    some = some;
    within = within;
    long = t.long;
    fit = t.fit;
    joined = λ j a b. elim (t.joined j a b) [ inl h ↦ absurd (none_above j place top a h) | inr h ↦ inr h ];
  }

  -- where two paths have met, what is left stands above both
  pub tree_met : (n place other to k : ℕ) (nodes : List S) → 1 ≤ to → to < 2 * n → place / 2 ≡ other / 2 → other ≡ to / 2 ^ k → IsTreeBut unit join fits n place nodes → IsTreeBut unit join fits n to nodes
  tree_met n place other to k nodes some within e o t = record {
    some = some;
    within = within;
    long = t.long;
    fit = t.fit;
    joined = λ j a b. elim (t.joined j a b) [ inl h ↦ inl (above_both j place other to k e o h) | inr h ↦ inr h ];
  }

  -- a node is written that is a leaf, or is joined so
  node_set : (n place p : ℕ) (nodes new : List S) (x : S) → 1 ≤ p → p < 2 * n → fits x → new ≡ set nodes p x
      → ((j : ℕ) → j ≢ p → IsAbove j place → IsAbove j p) → (p < n → IsJoined unit join new p) → IsTreeBut unit join fits n place nodes → IsTreeBut unit join fits n p new
  node_set n place p nodes new x some high fit e up here t =
      let other : (k : ℕ) → k ≢ p → get_or new k unit ≡ get_or nodes k unit = λ k ne. ap (λ xs. get_or xs k unit) e ∙ get_or-set_other nodes p k x unit ne in
      let same : get_or new p unit ≡ x = ap (λ xs. get_or xs p unit) e ∙ get_or-set_same nodes p x unit (omega (arith, high, t.long)) in
      record {
        some = some;
        within = high;
        long = ap length e ∙ length-set nodes p x ∙ t.long;
        fit = λ k b. elim (cases_eq k p) [
          | inl h ↦ subst fits (sym same ∙ ap (λ m. get_or new m unit) (sym h)) fit
          | inr ne ↦ subst fits (sym (other k ne)) (t.fit k b)
        ];
        joined = λ j a b. elim (cases_eq j p) [
          | inl h ↦ inr (subst (IsJoined unit join new) (sym h) (here (omega (arith, h, b))))
          | inr ne ↦ elim (t.joined j a b) [
            | inl above ↦ inl (up j ne above)
            | inr old ↦ elim (cases_eq (2 * j) p) [
              | inl h ↦ inl (0, let half : j ≡ p / 2 = omega (arith, h) in half)
              | inr left ↦ elim (cases_eq (2 * j + 1) p) [
                | inl h ↦ inl (0, let half : j ≡ p / 2 = omega (arith, h) in half)
                | inr right ↦ inr (other j ne ∙ old ∙ ap (λ y. join y (get_or nodes (2 * j + 1) unit)) (sym (other (2 * j) left)) ∙ ap (join (get_or new (2 * j) unit)) (sym (other (2 * j + 1) right)))
              ]
            ]
          ]
        ];
      }

  -- a leaf is written where only those above it are yet to be joined
  pub leaf_written : (n at : ℕ) (nodes new : List S) (x : S) → 1 ≤ n → n ≤ at → at < 2 * n → fits x → new ≡ set nodes at x → IsTreeBut unit join fits n at nodes → IsTreeBut unit join fits n at new
  leaf_written n at nodes new x some low high fit e t = node_set n at at nodes new x (omega arith) high fit e (λ j ne a. a) (λ b. absurd (omega (arith, b, low))) t

module _ {S : Type 0} {unit : S} {join : S → S → S} {fits : S → Type 0} (laws : SummaryLaws unit join fits) where
  -- one node was joined, and those above it are next
  pub record Stepped (n : ℕ) (old new : List S) (p : ℕ) : Type 0 where
    pub tree : IsTreeBut unit join fits n p new
    pub kept : (k : ℕ) → p < k → get_or new k unit ≡ get_or old k unit

  -- the join of a node's two children is written to it
  pub tree_step : (n place p : ℕ) (nodes new : List S) → p ≡ place / 2 → 1 ≤ p → p < n → IsTreeBut unit join fits n place nodes
      → new ≡ set nodes p (join (get_or nodes (2 * p) unit) (get_or nodes (2 * p + 1) unit)) → Stepped n nodes new p
  tree_step n place p nodes new half low high t e =
      let x = join (get_or nodes (2 * p) unit) (get_or nodes (2 * p + 1) unit) in
      let other : (k : ℕ) → k ≢ p → get_or new k unit ≡ get_or nodes k unit = λ k ne. ap (λ xs. get_or xs k unit) e ∙ get_or-set_other nodes p k x unit ne in
      let same : get_or new p unit ≡ x = ap (λ xs. get_or xs p unit) e ∙ get_or-set_same nodes p x unit (omega (arith, high, t.long)) in
      let left : 2 * p ≢ p = omega (arith, low) in
      let right : 2 * p + 1 ≢ p = omega (arith, low) in
      record {
        tree = node_set n place p nodes new x low (omega (arith, high)) (laws.join_fits _ _ (t.fit (2 * p) (omega (arith, high))) (t.fit (2 * p + 1) (omega (arith, high)))) e
            (λ j ne a. subst (IsAbove j) (sym half) (above_next j place a.0 (λ h. ne (h ∙ sym half)) a.1))
            (λ b. same ∙ ap (λ y. join y (get_or nodes (2 * p + 1) unit)) (sym (other (2 * p) left)) ∙ ap (join (get_or new (2 * p) unit)) (sym (other (2 * p + 1) right))) t;
        kept = λ k b. let ne : k ≢ p = omega (arith, b) in other k ne;
      }

-- nodes that are the same from the leaves on
pub leaves_kept : {S : Type 0} (unit : S) (n : ℕ) (old new : List S) → length new ≡ length old → ((k : ℕ) → n ≤ k → get_or new k unit ≡ get_or old k unit) → drop n new ≡ drop n old
leaves_kept unit n old new long same = ext_get_or unit (drop n new) (drop n old) (omega (arith, length-drop n new, length-drop n old, long))
    (λ k h. get_or-drop n new k unit ∙ same (n + k) (omega arith) ∙ sym (get_or-drop n old k unit))

-- a leaf that is not the one written stays a unit
pub unit_kept : {S : Type 0} (unit : S) (n used i k : ℕ) (old new : List S) (x : S) → drop n new ≡ set (drop n old) i x → i < used → used ≤ k → get_or old (n + k) unit ≡ unit → get_or new (n + k) unit ≡ unit
unit_kept unit n used i k old new x e low high h =
    let ne : k ≢ i = omega (arith, low, high) in
    sym (get_or-drop n new k unit) ∙ ap (λ xs. get_or xs k unit) e ∙ get_or-set_other (drop n old) i k x unit ne ∙ get_or-drop n old k unit ∙ h
