use Rattle.std.proofs.Common.{◌∙◌, ◌<◌, ◌+◌, ℕ, take, drop, set, length, get_or, arith, ap, sym, subst}
use Rattle.std.proofs.lemmas.List.{with_items_is, length-take}
use Rattle.std.proofs.Math.Seq.{take-set-lt}
use Rattle.fits_plane.specs.Tree.{IsTree}
use Rattle.fits_plane.proofs.PowerLemmas.{least_power}
use Rattle.fits_plane.proofs.JoinLemmas.{unit_kept}
use Rattle.fits_plane.proofs.TreeLemmas.{leaves_used}
use Rattle.fits_plane.proofs.tree.Tree.set.Goals as goal

pub returns-clause-leaves : goal.returns-clause-leaves
returns-clause-leaves g c =
    let t = c.self.inside in
    let n : ℕ = t.width in
    let i : ℕ = c.args.index in
    let value = c.args.value in
    let seen = ap (λ z. z.leaves) c.self.view_is in
    let below : i < t.used = omega (arith, ap length seen, length-take t.used (drop n t.nodes.items), c.requires.within) in
    ap (λ xs. take t.used (drop n xs)) (with_items_is t.nodes c.set_leaf.new.nodes (omega arith))
    ∙ ap (take t.used) c.set_leaf.ensures.leaves
    ∙ ap (λ xs. take t.used (set (drop n xs) i value)) c.as_mut_slice.ensures.value
    ∙ take-set-lt t.used (drop n t.nodes.items) i value below
    ∙ ap (λ xs. set xs i value) seen

pub returns-clause-work : goal.returns-clause-work
returns-clause-work g c = λ d u.
    let t = c.self.inside in
    let seen = ap (λ z. z.leaves) c.self.view_is in
    let made = ap (λ z. z.joins) c.self.view_is in
    let v = c.self.invariant in
    let many = leaves_used t.width t.used t.nodes.items c.args.self.now.leaves v.tree.long v.power.enough seen in
    let few = least_power v.power.depth t.width t.used d v.power.power v.power.least (omega (arith, many, u)) in
    omega (arith, made, c.set_leaf.ensures.few d few)

-- the nodes are a tree still, and no leaf past those in use was written
pub invariant_of-self : goal.invariant_of-self
invariant_of-self g c =
    let s = g.S.Summary in
    let t = c.self.inside in
    let v = c.self.invariant in
    let below : c.args.index < t.used = omega (arith, ap length (ap (λ z. z.leaves) c.self.view_is), length-take t.used (drop t.width t.nodes.items), c.requires.within) in
    let same = with_items_is t.nodes c.set_leaf.new.nodes (omega arith) in
    record {
      tree = subst (IsTree s.empty s.joined s.fits t.width) (sym same) c.set_leaf.ensures.tree;
      power = v.power;
      units = λ k low high. ap (λ xs. get_or xs (t.width + k) s.empty) same ∙ unit_kept s.empty t.width t.used c.args.index k t.nodes.items c.set_leaf.new.nodes c.args.value (c.set_leaf.ensures.leaves ∙ ap (λ xs. set (drop t.width xs) c.args.index c.args.value) c.as_mut_slice.ensures.value) below low (v.units k low high);
    }

-- the nodes are those of the tree
pub set_leaf-requires-clause-tree : goal.set_leaf-requires-clause-tree
set_leaf-requires-clause-tree g c =
    let s = g.S.Summary in
    subst (IsTree s.empty s.joined s.fits c.self.inside.width) (sym c.as_mut_slice.ensures.value) c.self.invariant.tree

-- the leaf is one of those in use
pub set_leaf-requires-clause-within : goal.set_leaf-requires-clause-within
set_leaf-requires-clause-within g c =
    let t = c.self.inside in
    omega (arith, ap length (ap (λ z. z.leaves) c.self.view_is), length-take t.used (drop t.width t.nodes.items), c.requires.within, c.self.invariant.power.enough)
