use Rattle.std.proofs.Common.{◌<◌, ◌∙◌, ◌+◌, get_or, take, drop, length, arith, ap, sym, subst}
use Rattle.std.proofs.lemmas.List.{with_items_is, get_or-take, get_or-drop, length-take, length-drop}
use Rattle.std.proofs.Math.Nat.{one-le-pow}
use Rattle.fits_plane.specs.Tree.{IsTree}
use Rattle.fits_plane.proofs.PowerLemmas.{least_power}
use Rattle.fits_plane.proofs.TreeLemmas.{leaves_used}
use Rattle.fits_plane.proofs.tree.Tree.refresh.Goals as goal

pub returns-clause-work : goal.returns-clause-work
returns-clause-work g c = λ d u.
    let t = c.self.inside in
    let seen = ap (λ z. z.leaves) c.self.view_is in
    let made = ap (λ z. z.joins) c.self.view_is in
    let v = c.self.invariant in
    let many = leaves_used t.width t.used t.nodes.items c.args.self.now.leaves v.tree.long v.power.enough seen in
    let few = least_power v.power.depth t.width t.used d v.power.power v.power.least (omega (arith, many, u)) in
    omega (arith, few, made, c.plant_again.ensures.work)

-- the nodes are those of the tree
pub plant_again-requires-clause-tree : goal.plant_again-requires-clause-tree
plant_again-requires-clause-tree g c =
    let s = g.S.Summary in
    subst (IsTree s.empty s.joined s.fits c.self.inside.width) (sym c.as_mut_slice.ensures.value) c.self.invariant.tree

-- the nodes are a tree still, and the leaves past those in use are as before
pub invariant_of-self : goal.invariant_of-self
invariant_of-self g c =
    let s = g.S.Summary in
    let t = c.self.inside in
    let v = c.self.invariant in
    let same = with_items_is t.nodes c.plant_again.new.nodes (omega (arith, c.plant_again.ensures.tree.long, v.tree.long)) in
    record {
      tree = subst (IsTree s.empty s.joined s.fits t.width) (sym same) c.plant_again.ensures.tree;
      power = v.power;
      units = λ k low high. ap (λ xs. get_or xs (t.width + k) s.empty) same ∙ c.plant_again.ensures.units k low ∙ ap (λ xs. get_or xs (t.width + k) s.empty) c.as_mut_slice.ensures.value ∙ v.units k low high;
    }

-- a power of two is not 0
pub plant_again-requires-clause-some : goal.plant_again-requires-clause-some
plant_again-requires-clause-some g c =
    let power = c.self.invariant.power in omega (arith, power.power, one-le-pow power.depth 2 (omega arith))

-- as many leaves are in use
pub returns-clause-long : goal.returns-clause-long
returns-clause-long g c =
    let t = c.self.inside in
    let new = c.plant_again.new.nodes in
    let v = c.self.invariant in
    let same = with_items_is t.nodes new (omega (arith, c.plant_again.ensures.tree.long, v.tree.long)) in
    ap (λ xs. length (take t.used (drop t.width xs))) same
    ∙ omega (arith, length-take t.used (drop t.width new), length-drop t.width new, c.plant_again.ensures.tree.long, v.power.enough, ap (λ z. length z.leaves) c.self.view_is, length-take t.used (drop t.width t.nodes.items), length-drop t.width t.nodes.items, v.tree.long)

-- each leaf in use is what was asked
pub returns-clause-each : goal.returns-clause-each
returns-clause-each g c = λ i b.
    let s = g.S.Summary in
    let t = c.self.inside in
    let new = c.plant_again.new.nodes in
    let v = c.self.invariant in
    let below : i < t.used = omega (arith, b, ap (λ z. length z.leaves) c.self.view_is, length-take t.used (drop t.width t.nodes.items)) in
    let same = with_items_is t.nodes new (omega (arith, c.plant_again.ensures.tree.long, v.tree.long)) in
    let here = ap (λ xs. get_or (take t.used (drop t.width xs)) i s.empty) same ∙ get_or-take t.used (drop t.width new) i s.empty below ∙ get_or-drop t.width new i s.empty in
    rw here (c.plant_again.ensures.asked i below)
