use Rattle.std.proofs.Common.{◌≡◌, ◌<◌, ◌+◌, ◌-◌, ℕ, drop, length, ap, arith, inr, ◌∙◌}
use Rattle.std.proofs.lemmas.List.{length-drop}
use Rattle.fits_pixels.specs.Block.{leaf_of}
use Rattle.fits_plane.specs.Tree.{most_above, nodes_left}
use Rattle.fits_plane.specs.Leaves.{leaf_unit}
use Rattle.fits_plane.proofs.LeafLemmas.{set_more, set_beside, joins_next}
use Rattle.fits_plane.proofs.PowerLemmas.{most_above_le}
use Rattle.fits_plane.proofs.StoreLemmas.{fits_scanned, leaf_scanned, same_bytes, scanned_again}
use Rattle.fits_plane.proofs.leaves.refresh_blocks.Goals as goal

-- one block more is scanned, and its leaf written
pub loop-k-preserved : goal.loop-k-preserved
loop-k-preserved c =
    let v = c.loop-k.invariant in
    let n : ℕ = c.args.width in
    let old = drop n c.loop-k.nodes in
    let new = drop n c.write_leaf-place.new.nodes in
    let leaf = c.scan-leaf.result in
    let e = c.write_leaf-place.ensures in
    let room : c.loop-k.k < n = omega (arith, c.loop-k-test.true, c.requires.blocks, c.requires.within) in
    record {
      tree = e.tree;
      made = set_more (λ j x. x ≡ leaf_of c.args.layout c.args.store.now.bytes j) leaf_unit old new c.args.from c.loop-k.k leaf e.leaves (omega (arith, length-drop n c.loop-k.nodes, v.tree.long, room)) v.made (c.scan-leaf.ensures.leaf ∙ leaf_scanned c.args.layout c.loop-k.k c.args.store.now c.loop-k.store v.same);
      kept = set_beside leaf_unit (drop n c.args.nodes.now) old new c.args.from c.loop-k.k leaf e.leaves v.low v.kept;
      same = scanned_again c.args.store.now c.loop-k.store c.scan-leaf.new.self _ v.same c.scan-leaf.ensures.work;
      work = omega (arith, ap (λ s. s.scans) c.scan-leaf.ensures.work, v.work, v.low);
      more = omega (arith, e.more, v.more);
      leaf = inr (omega (arith, e.place));
      order = λ o. omega (arith, e.place);
      high = omega (arith, e.place, c.loop-k-test.true);
      low = omega (arith, v.low);
      limit = omega (arith, c.loop-k-test.true);
      few = λ d u. joins_next c.args.from c.loop-k.k d (c.args.joins.now.total + most_above d c.args.last) (c.loop-k.joins.total + most_above d c.loop-k.place) (c.write_leaf-place.new.joins.total + most_above d c.write_leaf-place.result) v.low (v.few d u)
          (omega (arith, e.few d u, most_above_le d c.write_leaf-place.result));
      left = λ h p o. let at : c.write_leaf-place.result - n ≡ c.loop-k.k = omega (arith, e.place) in omega (arith, e.left h p (omega (arith, e.place, v.order o)), v.left h p o, ap (nodes_left h) at);
    }

pub scan-leaf-requires-clause-layout : goal.scan-leaf-requires-clause-layout
scan-leaf-requires-clause-layout c = fits_scanned c.args.layout c.args.store.now c.loop-k.store c.loop-k.invariant.same c.requires.layout

pub scan-leaf-requires-clause-within : goal.scan-leaf-requires-clause-within
scan-leaf-requires-clause-within c =
    omega (arith, ap length (same_bytes c.args.store.now c.loop-k.store c.loop-k.invariant.same), c.requires.blocks, c.requires.layout.whole, c.loop-k-test.true)
