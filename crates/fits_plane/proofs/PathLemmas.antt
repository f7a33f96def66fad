-- Nodes that are joined by one path after another.
use Rattle.std.proofs.Common.{◌≡◌, ◌≢◌, ◌≤◌, ◌<◌, ◌+◌, ◌-◌, ◌*◌, ◌/◌, ◌^◌, ℕ, zero, suc, ap, arith}
use Rattle.std.proofs.Math.Nat.{pow-suc}
use Rattle.fits_plane.specs.Tree.{nodes_left}

-- the h nodes above a place, added up
abbrev pub sum_above : ℕ → ℕ → ℕ
sum_above zero p = 0
sum_above (suc h) p = p / 2 + sum_above h (p / 2)

-- it grows with the place
sum_above_le : (h p q : ℕ) → p ≤ q → sum_above h p ≤ sum_above h q
sum_above_le zero p q l = omega arith
sum_above_le (suc h) p q l = let ih = sum_above_le h (p / 2) (q / 2) (omega arith) in omega (arith, ih, l)

-- of a leaf it is the number of the nodes left of its path, and one for each node left of those
sum_above_leaf : (h p : ℕ) → 2 ^ h ≤ p → p < 2 * 2 ^ h → sum_above h p + 1 ≡ nodes_left h (p - 2 ^ h) + 2 ^ h
sum_above_leaf zero p low high = omega arith
sum_above_leaf (suc h) p low high =
    let two = pow-suc 2 h in
    let half : (p - 2 ^ suc h) / 2 ≡ p / 2 - 2 ^ h = omega (arith, two, low) in
    let ih = sum_above_leaf h (p / 2) (omega (arith, two, low)) (omega (arith, two, high)) in
    let left = ap (nodes_left h) half in
    omega (arith, two, half, ih, left, low)

-- all nodes left of a leaf's path, and those of it, are fewer than the leaves
pub all_left : (h i : ℕ) → i < 2 ^ h → nodes_left h i + h + 1 ≤ 2 ^ h
all_left zero i b = omega arith
all_left (suc h) i b =
    let two = pow-suc 2 h in
    let ih = all_left h (i / 2) (omega (arith, two, b)) in
    omega (arith, two, ih, b)

-- how far a path has been walked up beside another that ends right of it: each node that was joined stands left of the other path
pub record Walked (h from to place other before now : ℕ) : Type 0 where
  pub left : ℕ
  pub high : place < 2 * 2 ^ left
  pub order : place ≤ other
  pub few : now + sum_above h from + sum_above left other ≤ before + sum_above h to + sum_above left place

-- not yet
pub walked_none : (h from to joins : ℕ) → from < 2 * 2 ^ h → from ≤ to → Walked h from to from to joins joins
walked_none h from to joins b l = record { left = h; high = b; order = l; few = omega arith }

-- one node more, where the paths haven't met
walked_step : (h from to place other before now next left : ℕ) → 1 < place → place / 2 ≢ other / 2 → next ≡ now + 1 → place < 2 * 2 ^ left → place ≤ other
    → now + sum_above h from + sum_above left other ≤ before + sum_above h to + sum_above left place → Walked h from to (place / 2) (other / 2) before next
walked_step h from to place other before now next zero some apart e high order few = absurd (omega (arith, some, high))
walked_step h from to place other before now next (suc left) some apart e high order few =
    let two = pow-suc 2 left in
    record {
      left = left;
      high = omega (arith, two, high);
      order = omega (arith, order);
      few = omega (arith, few, e, apart, order);
    }

-- the same, by the levels that the walk says are left
pub walked_more : (h from to place other before now next : ℕ) → 1 < place → place / 2 ≢ other / 2 → next ≡ now + 1 → Walked h from to place other before now → Walked h from to (place / 2) (other / 2) before next
walked_more h from to place other before now next some apart e w = walked_step h from to place other before now next w.left some apart e w.high w.order w.few

-- between two leaves
pub walked_leaves : (h n from to place other before now : ℕ) → n ≡ 2 ^ h → n ≤ from → from ≤ to → to < 2 * n → Walked h from to place other before now
    → now + nodes_left h (from - n) ≤ before + nodes_left h (to - n)
walked_leaves h n from to place other before now e low order high w =
    let a = sum_above_leaf h from (omega (arith, e, low)) (omega (arith, e, order, high)) in
    let b = sum_above_leaf h to (omega (arith, e, low, order)) (omega (arith, e, high)) in
    let up = sum_above_le w.left place other w.order in
    let p : from - n ≡ from - 2 ^ h = omega (arith, e) in
    let q : to - n ≡ to - 2 ^ h = omega (arith, e) in
    let p' = ap (nodes_left h) p in
    let q' = ap (nodes_left h) q in
    omega (arith, a, b, up, p', q', w.few)

-- nothing stands left of the first leaf's path
pub nodes_left-zero : (h i : ℕ) → i ≡ 0 → nodes_left h i ≡ 0
nodes_left-zero zero i e = omega arith
nodes_left-zero (suc h) i e = let ih = nodes_left-zero h (i / 2) (omega (arith, e)) in omega (arith, ih, e)
