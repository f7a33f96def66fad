use Rattle.std.proofs.Common.{◌≡◌, ◌+◌, ◌/◌, ◌-◌, ◌^◌, ◌∙◌, ◌*◌, suc, refl, ap, arith, sym}
use Rattle.fits_plane.proofs.JoinLemmas.{leaves_kept, path_more, tree_met, tree_step, tree_top}
use Rattle.fits_plane.proofs.PathLemmas.{walked_leaves, walked_more, walked_none}
use Rattle.fits_plane.proofs.PowerLemmas.{few_above, halves, power_alone}
use Rattle.fits_plane.proofs.nodes.climb.Goals as goal

-- the paths have met
pub returns-then-place-other-clause-tree : goal.returns-then-place-other-clause-tree
returns-then-place-other-clause-tree g c =
    let v = c.loop-place.invariant in
    tree_met c.args.width c.loop-place.place c.loop-place.other c.args.to v.path.0 c.loop-place.nodes c.requires.some c.requires.within c.if-place-other.true v.path.1 v.tree

pub returns-then-place-other-clause-leaves : goal.returns-then-place-other-clause-leaves
returns-then-place-other-clause-leaves g c =
    let v = c.loop-place.invariant in
    leaves_kept g.S.Summary.empty c.args.width c.args.nodes.now c.loop-place.nodes (v.tree.long ∙ sym c.requires.tree.long) v.leaves_kept

-- one node more is joined
pub loop-place-preserved : goal.loop-place-preserved
loop-place-preserved g c =
    let v = c.loop-place.invariant in
    let one : c.join_at.new.joins.total - c.args.joins.now.total ≡ suc (c.loop-place.joins.total - c.args.joins.now.total) = omega (arith, v.more, c.join_at.ensures.counted) in
    let t = tree_step g.S.Summary.laws c.args.width c.loop-place.place (c.loop-place.place / 2) c.loop-place.nodes c.join_at.new.nodes refl (omega arith) (omega (arith, v.tree.within)) v.tree c.join_at.ensures.after in
    record {
      tree = t.tree;
      path = (v.path.0 + 1, path_more c.loop-place.other c.args.to v.path.0 v.path.1);
      leaves_kept = λ k b. t.kept k (omega (arith, b, v.tree.within)) ∙ v.leaves_kept k b;
      more = omega (arith, v.more, c.join_at.ensures.counted);
      left = λ h e l. walked_more h c.args.from c.args.to c.loop-place.place c.loop-place.other c.args.joins.now.total c.loop-place.joins.total c.join_at.new.joins.total c.loop-place-test.true c.if-place-other.false c.join_at.ensures.counted (v.left h e l);
      few = halves (c.loop-place.joins.total - c.args.joins.now.total) _ c.loop-place.place c.args.from one v.few;
    }

-- the root is joined
pub returns-clause-tree : goal.returns-clause-tree
returns-clause-tree g c = tree_top c.args.width c.loop-place.place c.args.to c.loop-place.nodes c.requires.some c.requires.within c.loop-place-test.false c.loop-place.invariant.tree

pub returns-clause-leaves : goal.returns-clause-leaves
returns-clause-leaves g c =
    let v = c.loop-place.invariant in
    leaves_kept g.S.Summary.empty c.args.width c.args.nodes.now c.loop-place.nodes (v.tree.long ∙ sym c.requires.tree.long) v.leaves_kept

-- each join is of a node that stands above
pub returns-then-place-other-clause-few : goal.returns-then-place-other-clause-few
returns-then-place-other-clause-few g c = λ d u.
    let v = c.loop-place.invariant in
    let few = few_above (c.loop-place.joins.total - c.args.joins.now.total) c.args.width d c.args.from u c.requires.tree.within (power_alone _ c.loop-place.place c.args.from v.tree.some v.few) in
    omega (arith, few, v.more)

pub returns-clause-few : goal.returns-clause-few
returns-clause-few g c = λ d u.
    let v = c.loop-place.invariant in
    let few = few_above (c.loop-place.joins.total - c.args.joins.now.total) c.args.width d c.args.from u c.requires.tree.within (power_alone _ c.loop-place.place c.args.from v.tree.some v.few) in
    omega (arith, few, v.more)

-- they stand left of the other path
pub returns-then-place-other-clause-left : goal.returns-then-place-other-clause-left
returns-then-place-other-clause-left g c = λ h e low order.
    walked_leaves h c.args.width c.args.from c.args.to c.loop-place.place c.loop-place.other c.args.joins.now.total c.loop-place.joins.total e low order c.requires.within (c.loop-place.invariant.left h e order)

pub returns-clause-left : goal.returns-clause-left
returns-clause-left g c = λ h e low order.
    walked_leaves h c.args.width c.args.from c.args.to c.loop-place.place c.loop-place.other c.args.joins.now.total c.loop-place.joins.total e low order c.requires.within (c.loop-place.invariant.left h e order)

-- no node is joined yet
pub loop-place-init : goal.loop-place-init
loop-place-init g c = record {
  tree = c.requires.tree;
  path = (0, (let one : c.args.to ≡ c.args.to / 2 ^ 0 = omega arith in one));
  leaves_kept = λ k b. refl;
  more = omega arith;
  left = λ h e l. walked_none h c.args.from c.args.to c.args.joins.now.total (omega (arith, e, c.requires.tree.within)) l;
  few = let none : c.args.joins.now.total - c.args.joins.now.total ≡ 0 = omega arith in let one = ap (λ k. 2 ^ k * c.args.from) none in omega (arith, one);
}
