-- The root of a tree is the total of its leaves.
use Rattle.std.proofs.Common.{◌≡◌, ◌≤◌, ◌<◌, ◌+◌, ◌*◌, ◌-◌, ◌^◌, ℕ, zero, suc, List, [], ◌∷◌, ◌++◌, length, get_or, take, drop, refl, arith, sym, ◌∙◌, ap, subst}
use Rattle.std.proofs.lemmas.List.{drop-drop, drop_more, take_all, take-append-drop, length-drop, get_or-drop, ext_get_or, length-take, get_or-take, length-replicate, get_or-replicate}
use Rattle.std.proofs.Math.Seq.{take-add}
use Rattle.std.proofs.Math.Nat.{pow-suc, one-le-pow, mul-le-mul_left}
use Rattle.std.specs.Prelude.{replicate}
use Rattle.fits_pixels.specs.Summary.{SummaryLaws, all_joined}
use Rattle.fits_pixels.proofs.StatisticsLemmas.{next, all_joined-append}
use Rattle.fits_plane.specs.Tree.{IsTree}

-- as many leaves are in use as a tree is seen to have
pub leaves_used : {S : Type 0} (n used : ℕ) (nodes leaves : List S) → length nodes ≡ 2 * n → used ≤ n → take used (drop n nodes) ≡ leaves → used ≡ length leaves
leaves_used n used nodes leaves long room e = omega (arith, ap length e, length-take used (drop n nodes), length-drop n nodes, long, room)

-- products with twice a number
products : (i m w : ℕ) → w ≡ m * 2 → (i * w ≡ 2 * i * m) × ((i + 1) * w ≡ 2 * i * m + 2 * m) × ((2 * i + 1) * m ≡ 2 * i * m + m) × ((2 * i + 1 + 1) * m ≡ 2 * i * m + 2 * m)
products i m w e = rw e (omega arith, omega arith, omega arith, omega arith)

module _ {S : Type 0} {unit : S} {join : S → S → S} {fits : S → Type 0} (laws : SummaryLaws unit join fits) where
  -- a node is the total of the leaves below it
  pub node_total : (h i n : ℕ) (nodes : List S) → IsTree unit join fits n nodes → 1 ≤ i → n ≤ i * 2 ^ h → (i + 1) * 2 ^ h ≤ 2 * n → get_or nodes i unit ≡ all_joined unit join (take (2 ^ h) (drop (i * 2 ^ h) nodes))
  node_total zero i n nodes t p low high =
      let here : i * 2 ^ 0 ≡ i = omega arith in
      let in_range : i < length nodes = omega (arith, t.long) in
      let one : drop (i * 2 ^ 0) nodes ≡ get_or nodes i unit ∷ drop (i + 1) nodes = ap (λ k. drop k nodes) here ∙ drop_more nodes i unit in_range in
      rw one (sym (laws.right_unit _ (t.fit i (omega arith))))
  node_total (suc h) i n nodes t p low high =
      let m : ℕ = 2 ^ h in
      let w : ℕ = 2 ^ suc h in
      let two : w ≡ m * 2 = pow-suc 2 h in
      let some : 1 ≤ m = one-le-pow h 2 (omega arith) in
      let many = mul-le-mul_left (i + 1) some in
      let f = products i m w two in
      let below : i < n = omega (arith, f.1, many) in
      let left = node_total h (2 * i) n nodes t (omega arith) (omega (arith, f.0)) (omega (arith, f.1, f.2)) in
      let right = node_total h (2 * i + 1) n nodes t (omega arith) (omega (arith, f.0, f.2)) (omega (arith, f.1, f.3)) in
      let next : drop m (drop (2 * i * m) nodes) ≡ drop ((2 * i + 1) * m) nodes = drop-drop m (2 * i * m) nodes ∙ ap (λ k. drop k nodes) (sym f.2) in
      let whole : take w (drop (i * w) nodes) ≡ take m (drop (2 * i * m) nodes) ++ take m (drop ((2 * i + 1) * m) nodes)
      = ap (λ k. take w (drop k nodes)) f.0 ∙ ap (λ k. take k (drop (2 * i * m) nodes)) (let e : w ≡ m + m = omega arith in e)
      ∙ take-add m m (drop (2 * i * m) nodes) ∙ ap (λ ys. take m (drop (2 * i * m) nodes) ++ take m ys) next in
      let fit_right : fits (all_joined unit join (take m (drop ((2 * i + 1) * m) nodes))) = subst fits right (t.fit (2 * i + 1) (omega arith)) in
      t.joined i p below ∙ ap (λ x. join x (get_or nodes (2 * i + 1) unit)) left ∙ ap (join (all_joined unit join (take m (drop (2 * i * m) nodes)))) right
      ∙ sym (all_joined-append laws (take m (drop (2 * i * m) nodes)) (take m (drop ((2 * i + 1) * m) nodes)) fit_right) ∙ ap (all_joined unit join) (sym whole)

  pub root_total : (d n : ℕ) (nodes : List S) → IsTree unit join fits n nodes → n ≡ 2 ^ d → get_or nodes 1 unit ≡ all_joined unit join (drop n nodes)
  root_total d n nodes t e =
      let some = one-le-pow d 2 (omega arith) in
      let node = node_total d 1 n nodes t (omega arith) (omega arith) (omega arith) in
      let start : 1 * 2 ^ d ≡ n = omega arith in
      let short : length (drop n nodes) ≤ 2 ^ d = omega (arith, length-drop n nodes, t.long) in
      node ∙ ap (λ k. all_joined unit join (take (2 ^ d) (drop k nodes))) start ∙ ap (all_joined unit join) (take_all (2 ^ d) (drop n nodes) short)

  -- units at the end of a list add nothing
  pub all_joined-units : (k : ℕ) → all_joined unit join (replicate k unit) ≡ unit
  all_joined-units zero = refl
  all_joined-units (suc k) = ap (join unit) (all_joined-units k) ∙ laws.left_unit unit laws.unit_fits

  pub all_joined-padded : (xs : List S) (k : ℕ) → fits (all_joined unit join xs) → all_joined unit join (xs ++ replicate k unit) ≡ all_joined unit join xs
  all_joined-padded xs k f =
      all_joined-append laws xs (replicate k unit) (subst fits (sym (all_joined-units k)) laws.unit_fits)
      ∙ ap (join (all_joined unit join xs)) (all_joined-units k) ∙ laws.right_unit _ f

  -- each value fits
  abbrev pub AllFit : List S → Type 0
  AllFit xs = (k : ℕ) → k < length xs → fits (get_or xs k unit)

  pub all_joined_fits : (xs : List S) → AllFit xs → fits (all_joined unit join xs)
  all_joined_fits [] h = laws.unit_fits
  all_joined_fits (x ∷ xs) h = laws.join_fits _ _ (h 0 (omega arith)) (all_joined_fits xs (λ k p. h (suc k) (omega arith)))

  -- the root is the total of the leaves in use, where the others are units
  pub root_of_used : (d n used : ℕ) (nodes : List S) → IsTree unit join fits n nodes → n ≡ 2 ^ d → used ≤ n
      → ((k : ℕ) → used ≤ k → k < n → get_or nodes (n + k) unit ≡ unit)
      → get_or nodes 1 unit ≡ all_joined unit join (take used (drop n nodes))
  root_of_used d n used nodes t e le units =
      let row = drop n nodes in
      let long : length row ≡ n = omega (arith, length-drop n nodes, t.long) in
      let rest : drop used row ≡ replicate (n - used) unit = ext_get_or unit (drop used row) (replicate (n - used) unit)
      (omega (arith, length-drop used row, length-replicate (n - used) unit, long))
      (λ k h. get_or-drop used row k unit ∙ get_or-drop n nodes (used + k) unit
      ∙ units (used + k) (omega arith) (omega (arith, length-drop used row, long))
      ∙ sym (get_or-replicate (n - used) k unit unit (omega (arith, length-drop used row, long)))) in
      let fit : AllFit (take used row) = λ k h.
      let short = omega_short used row k h in
      subst fits (sym (get_or-take used row k unit short.0 ∙ get_or-drop n nodes k unit)) (t.fit (n + k) (omega (arith, short.0))) in
      root_total d n nodes t e ∙ ap (all_joined unit join) (sym (take-append-drop used row) ∙ ap (λ ys. take used row ++ ys) rest)
      ∙ all_joined-padded (take used row) (n - used) (all_joined_fits (take used row) fit)
    where
      omega_short : (used : ℕ) (row : List S) (k : ℕ) → k < length (take used row) → (k < used) × (k < length row)
      omega_short used row k h = (omega (arith, length-take used row), omega (arith, length-take used row))
