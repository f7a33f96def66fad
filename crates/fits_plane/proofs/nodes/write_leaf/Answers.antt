use Rattle.std.proofs.Common.{◌≡◌, ◌+◌, ◌-◌, ◌∙◌, ℕ, set, ap, refl, arith, inl, inr}
use Rattle.std.proofs.lemmas.List.{drop-set-add}
use Rattle.fits_plane.specs.Tree.{most_above, nodes_left}
use Rattle.fits_plane.proofs.JoinLemmas.{leaf_written}
use Rattle.fits_plane.proofs.PathLemmas.{nodes_left-zero}
use Rattle.fits_plane.proofs.nodes.write_leaf.Goals as goal

pub returns-clause-tree : goal.returns-clause-tree
returns-clause-tree g c =
    leaf_written c.args.width (c.args.width + c.args.index) c.climb.new.nodes _ c.args.value (omega (arith, c.requires.within)) (omega arith) (omega (arith, c.requires.within)) c.requires.fits refl c.climb.ensures.tree

pub returns-clause-leaves : goal.returns-clause-leaves
returns-clause-leaves g c = drop-set-add c.args.width c.climb.new.nodes c.args.index c.args.value ∙ ap (λ xs. set xs c.args.index c.args.value) c.climb.ensures.leaves

-- from the root on no node is joined, and nothing stands left of the first path
pub returns-clause-left : goal.returns-clause-left
returns-clause-left g c = λ h e order.
    let n : ℕ = c.args.width in
    let at : n + c.args.index - n ≡ c.args.index = omega arith in
    let here = ap (nodes_left h) at in
    elim c.requires.leaf [
      | inl root ↦
          let none = nodes_left-zero h (c.args.last - n) (omega (arith, root, c.requires.within)) in
          let few = c.climb.ensures.few h (omega (arith, e)) in
          let top = ap (most_above h) root in
          omega (arith, none, few, top)
      | inr low ↦ omega (arith, c.climb.ensures.left h e low order, here)
    ]
