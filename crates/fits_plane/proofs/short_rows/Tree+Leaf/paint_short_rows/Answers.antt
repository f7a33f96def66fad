use Rattle.std.proofs.Common.{◌≡◌, ◌∙◌, ◌+◌, get_or, take, drop, length, arith, ap, sym, subst}
use Rattle.std.proofs.lemmas.List.{with_items_is, get_or-drop}
use Rattle.fits_pixels.specs.Layout.{block_count}
use Rattle.fits_plane.specs.Leaves.{leaf_unit, IsBlockTree}
use Rattle.fits_plane.specs.Painting.{plane_by, Paints}
use Rattle.fits_plane.specs.ShortRows.{IsKept, IsKeptBut}
use Rattle.fits_plane.specs.Tree.{IsLeastPower}
use Rattle.fits_plane.proofs.JoinLemmas.{tree_done}
use Rattle.fits_plane.proofs.PowerLemmas.{power_some}
use Rattle.fits_plane.proofs.RectangleLemmas.{length-rectangle_written}
use Rattle.fits_plane.proofs.ShortRowLemmas.{kept_open, kept_closed}
use Rattle.fits_plane.proofs.TreeLemmas.{leaves_used}
use Rattle.fits_plane.proofs.short_rows.Tree+Leaf.paint_short_rows.Goals as goal

-- the nodes are those of the tree
pub paint_rows_apart-requires-clause-kept : goal.paint_rows_apart-requires-clause-kept
paint_rows_apart-requires-clause-kept c =
    let t = c.self.inside in
    let v = c.self.invariant in
    subst (IsKeptBut c.args.layout c.args.store.now.bytes t.width 1) (sym c.as_mut_slice-nodes.ensures.value)
    (kept_open c.args.layout c.args.store.now.bytes t.width t.used t.nodes.items c.args.self.now.leaves (power_some _ _ v.power) v.power.enough v.tree v.units (ap (λ z. z.leaves) c.self.view_is) c.requires.kept)

-- the nodes are a tree still, and the leaves past those in use are as before
pub invariant_of-self : goal.invariant_of-self
invariant_of-self c =
    let t = c.self.inside in
    let v = c.self.invariant in
    let e = c.paint_rows_apart.ensures in
    let new = c.paint_rows_apart.new.nodes in
    let long = ap length e.painted.bytes ∙ length-rectangle_written _ _ _ _ _ c.args.store.now.bytes in
    let many = leaves_used t.width t.used t.nodes.items c.args.self.now.leaves v.tree.long v.power.enough (ap (λ z. z.leaves) c.self.view_is) in
    let same = with_items_is t.nodes new (omega (arith, e.kept.tree.long, v.tree.long)) in
    record {
      tree = subst (IsBlockTree t.width) (sym same) (tree_done t.width new e.kept.tree);
      power = v.power;
      units = λ k low high. ap (λ xs. get_or xs (t.width + k) leaf_unit) same ∙ sym (get_or-drop t.width new k leaf_unit) ∙ e.kept.units k (omega (arith, low, many, c.requires.kept.whole, long));
    }

-- each leaf is that of its block
pub returns-clause-kept : goal.returns-clause-kept
returns-clause-kept c =
    let t = c.self.inside in
    let v = c.self.invariant in
    let e = c.paint_rows_apart.ensures in
    let new = c.paint_rows_apart.new.nodes in
    let long = ap length e.painted.bytes ∙ length-rectangle_written _ _ _ _ _ c.args.store.now.bytes in
    let many = leaves_used t.width t.used t.nodes.items c.args.self.now.leaves v.tree.long v.power.enough (ap (λ z. z.leaves) c.self.view_is) in
    let same = with_items_is t.nodes new (omega (arith, e.kept.tree.long, v.tree.long)) in
    subst (λ xs. IsKept c.args.layout c.paint_rows_apart.new.store.bytes (take t.used (drop t.width xs))) (sym same)
    (kept_closed c.args.layout c.paint_rows_apart.new.store.bytes t.width t.used new (omega (arith, many, c.requires.kept.whole, long)) e.kept)

-- the least power of two is that of the blocks, which the leaves are
pub paint_rows_apart-requires-clause-power : goal.paint_rows_apart-requires-clause-power
paint_rows_apart-requires-clause-power c =
    let t = c.self.inside in
    let v = c.self.invariant in
    let many = leaves_used t.width t.used t.nodes.items c.args.self.now.leaves v.tree.long v.power.enough (ap (λ z. z.leaves) c.self.view_is) in
    let blocks : t.used ≡ block_count c.args.store.now.bytes = omega (arith, many, c.requires.kept.whole) in
    subst (λ n. IsLeastPower n t.width) blocks v.power

pub returns-clause-painted : goal.returns-clause-painted
returns-clause-painted c =
    subst (λ n. Paints c.args.painting.now (plane_by c.args.layout c.args.store.now n) (plane_by c.args.layout c.paint_rows_apart.new.store c.paint_rows_apart.new.joins.total)) (ap (λ z. z.joins) c.self.view_is) c.paint_rows_apart.ensures.painted
