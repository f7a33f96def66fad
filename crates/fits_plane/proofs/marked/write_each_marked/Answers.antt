use Rattle.std.proofs.Common.{arith, ◌+◌, ◌<◌, ℕ, Bool, List, refl, false, drop, get_or, length, take}
use Rattle.std.specs.Prelude.{count_by}
use Rattle.fits_plane.specs.Tree.{most_above}
use Rattle.fits_plane.proofs.MarkLemmas.{kept_more, made_more, marked_joins, marked_place, marks_more}
use Rattle.fits_plane.proofs.marked.write_each_marked.Goals as goal

-- one leaf more is made, if it is marked
pub loop-k-preserved : goal.loop-k-preserved
loop-k-preserved g c =
    let s = g.S.Summary in
    let v = c.loop-k.invariant in
    let e = c.write_marked-last.ensures in
    let n : ℕ = c.args.width in
    let k : ℕ = c.loop-k.k in
    let marks : List Bool = c.args.marks.now in
    let b : Bool = get_or marks k false in
    let inside : k < length marks = omega (arith, c.loop-k-test.true) in
    let at = marked_place n c.loop-k.last k c.write_marked-last.result _ e.place v.leaf v.order in
    record {
      tree = e.tree;
      leaf = at.0;
      order = at.1;
      made = made_more (λ j x. g.F.Fn.post c.args.leaf.now (j, tt) x) s.empty marks k b (drop n c.args.nodes.now) (drop n c.loop-k.nodes) (drop n c.write_marked-last.new.nodes) refl e.made e.kept v.made;
      kept = kept_more (λ j x. g.F.Fn.post c.args.leaf.now (j, tt) x) s.empty marks k b (drop n c.args.nodes.now) (drop n c.loop-k.nodes) (drop n c.write_marked-last.new.nodes) refl e.made e.kept v.kept;
      more = omega (arith, e.more, v.more);
      few = λ d u. marked_joins (count_by (λ b. b) (take k marks)) (count_by (λ b. b) (take (k + 1) marks)) d c.args.joins.now.total (c.loop-k.joins.total + most_above d c.loop-k.last) c.write_marked-last.new.joins.total (most_above d c.write_marked-last.result) b
          (marks_more marks k b inside refl) (v.few d u) (e.few d u);
      left = λ h p. omega (arith, e.left h p v.order, v.left h p);
    }
