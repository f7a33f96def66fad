use Rattle.std.proofs.Common.{◌∙◌, arith, ap}
use Rattle.std.proofs.lemmas.List.{get_or_read}
use Rattle.std.proofs.Math.Nat.{one-le-pow}
use Rattle.fits_pixels.specs.Summary.{all_joined}
use Rattle.fits_plane.proofs.TreeLemmas.{root_of_used}
use Rattle.fits_plane.proofs.tree.Tree.root.Goals as goal

pub returns : goal.returns
returns g c =
    let s = g.S.Summary in
    let t = c.self.inside in
    let v = c.self.invariant in
    get_or_read t.nodes.items 1 _ (omega (arith, v.tree.long, v.power.power, one-le-pow v.power.depth 2 (omega arith))) c.index.ensures s.empty
    ∙ root_of_used s.laws v.power.depth t.width t.used t.nodes.items v.tree v.power.power v.power.enough v.units
    ∙ ap (λ z. all_joined s.empty s.joined z.leaves) c.self.view_is
