use Rattle.std.proofs.Common.{◌+◌, ◌-◌, ◌∙◌, ℕ, false, get_or, arith, ap, sym, subst}
use Rattle.std.proofs.lemmas.List.{with_items_is, get_or-drop, get_or_past}
use Rattle.fits_plane.specs.Tree.{IsTree}
use Rattle.fits_plane.proofs.JoinLemmas.{tree_done}
use Rattle.fits_plane.proofs.PathLemmas.{all_left}
use Rattle.fits_plane.proofs.PowerLemmas.{least_power, most_above_le}
use Rattle.fits_plane.proofs.TreeLemmas.{leaves_used}
use Rattle.fits_plane.proofs.tree.Tree.refresh_marked.Goals as goal

-- the nodes are a tree still, and the leaves past those in use are as before
pub invariant_of-self : goal.invariant_of-self
invariant_of-self g c =
    let s = g.S.Summary in
    let t = c.self.inside in
    let v = c.self.invariant in
    let done = tree_done t.width c.climb.new.nodes c.climb.ensures.tree in
    let same = with_items_is t.nodes c.climb.new.nodes (omega (arith, done.long, v.tree.long)) in
    let old = c.as_mut_slice-nodes.ensures.value in
    let many = leaves_used t.width t.used t.nodes.items c.args.self.now.leaves v.tree.long v.power.enough (ap (λ z. z.leaves) c.self.view_is) in
    record {
      tree = subst (IsTree s.empty s.joined s.fits t.width) (sym same) done;
      power = v.power;
      units = λ k low high. ap (λ xs. get_or xs (t.width + k) s.empty) same ∙ sym (get_or-drop t.width c.climb.new.nodes k s.empty) ∙ ap (λ xs. get_or xs k s.empty) c.climb.ensures.leaves
          ∙ c.write_each_marked-last.ensures.kept k (get_or_past c.args.marks.now k false (omega (arith, low, many, c.requires.long)))
          ∙ get_or-drop t.width c.as_mut_slice-nodes.result.now k s.empty ∙ ap (λ xs. get_or xs (t.width + k) s.empty) old ∙ v.units k low high;
    }

pub returns-clause-few : goal.returns-clause-few
returns-clause-few g c = λ d u.
    let t = c.self.inside in
    let v = c.self.invariant in
    let many = leaves_used t.width t.used t.nodes.items c.args.self.now.leaves v.tree.long v.power.enough (ap (λ z. z.leaves) c.self.view_is) in
    let few = least_power v.power.depth t.width t.used d v.power.power v.power.least (omega (arith, many, u)) in
    omega (arith, c.climb.ensures.few d few, c.write_each_marked-last.ensures.few d few, ap (λ z. z.joins) c.self.view_is)

-- all nodes that were joined stand left of the last path, or on it
pub returns-clause-most : goal.returns-clause-most
returns-clause-most g c = λ d u.
    let t = c.self.inside in
    let v = c.self.invariant in
    let many = leaves_used t.width t.used t.nodes.items c.args.self.now.leaves v.tree.long v.power.enough (ap (λ z. z.leaves) c.self.view_is) in
    let few = least_power v.power.depth t.width t.used d v.power.power v.power.least (omega (arith, many, u)) in
    let last : ℕ = c.write_each_marked-last.result in
    let all = all_left v.power.depth (last - t.width) (omega (arith, v.power.power, c.write_each_marked-last.ensures.tree.within)) in
    omega (arith, few, v.power.power, all, c.write_each_marked-last.ensures.left v.power.depth v.power.power, c.climb.ensures.few v.power.depth (omega (arith, v.power.power)), most_above_le v.power.depth last, ap (λ z. z.joins) c.self.view_is)
