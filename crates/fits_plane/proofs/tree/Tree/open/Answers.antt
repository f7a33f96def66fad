use Rattle.std.proofs.Common.{◌≡◌, ◌∙◌, ◌+◌, ℕ, length, get_or, take, drop, arith, ap, sym, subst}
use Rattle.std.proofs.lemmas.List.{with_items_is}
use Rattle.fits_plane.specs.Tree.{IsTree}
use Rattle.fits_plane.proofs.PowerLemmas.{least_power}
use Rattle.fits_plane.proofs.tree.Tree.open.Goals as goal

pub returns-clause-work : goal.returns-clause-work
returns-clause-work g c = λ d u.
    let p = c.power_from-width.ensures.power in
    let few = least_power p.depth c.power_from-width.result c.len-used.result d p.power p.least (omega (arith, u, c.len-used.ensures)) in
    omega (arith, few, c.plant_tree.ensures.work, c.new-joins.ensures)

-- the leaves fit
pub plant_tree-requires-clause-fit : goal.plant_tree-requires-clause-fit
plant_tree-requires-clause-fit g c = λ k b.
    rw (ap (λ xs. get_or xs k g.S.Summary.empty) c.as_slice.ensures.value) (c.requires.fit k (omega (arith, b, ap length c.as_slice.ensures.value)))

-- the nodes are a tree, with units past the leaves
pub invariant_of-result : goal.invariant_of-result
invariant_of-result g c =
    let s = g.S.Summary in
    let n : ℕ = c.power_from-width.result in
    let same = with_items_is c.in_ok-nodes.nodes c.plant_tree.new.nodes (omega arith) in
    record {
      tree = subst (IsTree s.empty s.joined s.fits n) (sym same) c.plant_tree.ensures.tree;
      power = c.power_from-width.ensures.power;
      units = λ k low high. ap (λ xs. get_or xs (n + k) s.empty) same ∙ c.plant_tree.ensures.units k (omega (arith, low, c.len-used.ensures, ap length c.as_slice.ensures.value));
    }

-- the leaves stand after the nodes above them
pub returns-clause-leaves : goal.returns-clause-leaves
returns-clause-leaves g c =
    let used : ℕ = c.len-used.result in
    let n : ℕ = c.power_from-width.result in
    let long : used ≡ length c.as_slice.result.now = omega (arith, c.len-used.ensures, ap length c.as_slice.ensures.value) in
    ap (λ xs. take used (drop n xs)) (with_items_is c.in_ok-nodes.nodes c.plant_tree.new.nodes (omega arith))
    ∙ ap (λ m. take m (drop n c.plant_tree.new.nodes)) long ∙ c.plant_tree.ensures.leaves ∙ c.as_slice.ensures.value
