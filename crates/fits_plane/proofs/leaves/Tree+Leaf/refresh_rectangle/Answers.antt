use Rattle.std.proofs.Common.{◌≡◌, ◌<◌, ◌∙◌, ◌+◌, get_or, take, drop, length, arith, ap, sym, subst}
use Rattle.std.proofs.lemmas.List.{with_items_is, get_or-take, get_or-drop, length-take, length-drop}
use Rattle.fits_pixels.specs.Layout.{block_count}
use Rattle.fits_plane.specs.Leaves.{leaf_unit, IsBlockTree}
use Rattle.fits_plane.specs.Tree.{IsLeastPower}
use Rattle.fits_plane.proofs.TreeLemmas.{leaves_used}
use Rattle.fits_plane.proofs.leaves.Tree+Leaf.refresh_rectangle.Goals as goal

-- the nodes are those of the tree
pub refresh_rows-requires-clause-tree : goal.refresh_rows-requires-clause-tree
refresh_rows-requires-clause-tree c = subst (IsBlockTree c.self.inside.width) (sym c.as_mut_slice-nodes.ensures.value) c.self.invariant.tree

-- the least power of two is that of the blocks, which the leaves are
pub refresh_rows-requires-clause-power : goal.refresh_rows-requires-clause-power
refresh_rows-requires-clause-power c =
    let t = c.self.inside in
    let v = c.self.invariant in
    let many = leaves_used t.width t.used t.nodes.items c.args.self.now.leaves v.tree.long v.power.enough (ap (λ z. z.leaves) c.self.view_is) in
    let blocks : t.used ≡ block_count c.args.store.now.bytes = omega (arith, many, c.requires.whole) in
    subst (λ n. IsLeastPower n t.width) blocks v.power

-- what is not touched is as it was
pub refresh_rows-requires-clause-fresh : goal.refresh_rows-requires-clause-fresh
refresh_rows-requires-clause-fresh c = λ k b e.
    let t = c.self.inside in
    let v = c.self.invariant in
    let many = leaves_used t.width t.used t.nodes.items c.args.self.now.leaves v.tree.long v.power.enough (ap (λ z. z.leaves) c.self.view_is) in
    let below : k < t.used = omega (arith, b, many, c.requires.whole) in
    ap (λ xs. get_or (drop t.width xs) k leaf_unit) c.as_mut_slice-nodes.ensures.value ∙ sym (get_or-take t.used (drop t.width t.nodes.items) k leaf_unit below)
    ∙ ap (λ z. get_or z.leaves k leaf_unit) c.self.view_is ∙ c.requires.fresh k (omega (arith, below, many)) e

-- the nodes are a tree still, and the leaves past those in use are as before
pub invariant_of-self : goal.invariant_of-self
invariant_of-self c =
    let t = c.self.inside in
    let v = c.self.invariant in
    let new = c.refresh_rows.new.nodes in
    let many = leaves_used t.width t.used t.nodes.items c.args.self.now.leaves v.tree.long v.power.enough (ap (λ z. z.leaves) c.self.view_is) in
    let same = with_items_is t.nodes new (omega (arith, c.refresh_rows.ensures.tree.long, v.tree.long)) in
    record {
      tree = subst (IsBlockTree t.width) (sym same) c.refresh_rows.ensures.tree;
      power = v.power;
      units = λ k low high. ap (λ xs. get_or xs (t.width + k) leaf_unit) same ∙ sym (get_or-drop t.width new k leaf_unit) ∙ c.refresh_rows.ensures.units k (omega (arith, low, many, c.requires.whole))
          ∙ ap (λ xs. get_or (drop t.width xs) k leaf_unit) c.as_mut_slice-nodes.ensures.value ∙ get_or-drop t.width t.nodes.items k leaf_unit ∙ v.units k low high;
    }

-- as many leaves are in use
pub returns-clause-long : goal.returns-clause-long
returns-clause-long c =
    let t = c.self.inside in
    let new = c.refresh_rows.new.nodes in
    let v = c.self.invariant in
    let same = with_items_is t.nodes new (omega (arith, c.refresh_rows.ensures.tree.long, v.tree.long)) in
    ap (λ xs. length (take t.used (drop t.width xs))) same
    ∙ omega (arith, length-take t.used (drop t.width new), length-drop t.width new, c.refresh_rows.ensures.tree.long, v.power.enough, ap (λ z. length z.leaves) c.self.view_is, length-take t.used (drop t.width t.nodes.items), length-drop t.width t.nodes.items, v.tree.long)

-- each leaf is that of its block
pub returns-clause-right : goal.returns-clause-right
returns-clause-right c = λ k b.
    let t = c.self.inside in
    let new = c.refresh_rows.new.nodes in
    let v = c.self.invariant in
    let many = leaves_used t.width t.used t.nodes.items c.args.self.now.leaves v.tree.long v.power.enough (ap (λ z. z.leaves) c.self.view_is) in
    let same = with_items_is t.nodes new (omega (arith, c.refresh_rows.ensures.tree.long, v.tree.long)) in
    let below : k < t.used = omega (arith, b, ap (λ xs. length (take t.used (drop t.width xs))) same, length-take t.used (drop t.width new)) in
    ap (λ xs. get_or (take t.used (drop t.width xs)) k leaf_unit) same ∙ get_or-take t.used (drop t.width new) k leaf_unit below
    ∙ c.refresh_rows.ensures.right k (omega (arith, below, many, c.requires.whole))

pub returns-clause-joins : goal.returns-clause-joins
returns-clause-joins c = λ d u. let made = ap (λ z. z.joins) c.self.view_is in omega (arith, made, c.refresh_rows.ensures.few d u)

pub returns-clause-most : goal.returns-clause-most
returns-clause-most c = λ d u. let made = ap (λ z. z.joins) c.self.view_is in omega (arith, made, c.refresh_rows.ensures.most d u)
