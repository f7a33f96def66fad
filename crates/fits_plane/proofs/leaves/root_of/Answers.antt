use Rattle.std.proofs.Common.{◌∙◌, ℕ, List, ap}
use Rattle.fits_plane.proofs.LeafLemmas.{leaves_statistics, leaves_total}
use Rattle.fits_plane.proofs.leaves.root_of.Goals as goal

pub returns-clause-first : goal.returns-clause-first
returns-clause-first c =
    let xs : List ℕ = c.args.store.now.bytes in
    ap (λ z. z.first) c.root.ensures ∙ leaves_statistics c.args.layout xs c.args.tree.now.leaves c.requires.layout c.requires.whole c.are_bytes.ensures c.requires.right

pub returns-clause-second : goal.returns-clause-second
returns-clause-second c =
    let xs : List ℕ = c.args.store.now.bytes in
    ap (λ z. z.second.total) c.root.ensures ∙ leaves_total c.args.layout xs c.args.tree.now.leaves c.requires.layout c.requires.whole c.are_bytes.ensures c.requires.right
