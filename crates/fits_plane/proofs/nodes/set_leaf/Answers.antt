use Rattle.std.proofs.Common.{arith}
use Rattle.fits_plane.proofs.JoinLemmas.{tree_begun, tree_done}
use Rattle.fits_plane.proofs.PowerLemmas.{most_above_le}
use Rattle.fits_plane.proofs.nodes.set_leaf.Goals as goal

pub write_leaf-at-requires-clause-tree : goal.write_leaf-at-requires-clause-tree
write_leaf-at-requires-clause-tree g c = tree_begun c.args.width c.args.nodes.now (omega (arith, c.requires.within)) c.requires.tree

pub returns-clause-tree : goal.returns-clause-tree
returns-clause-tree g c = tree_done c.args.width c.climb.new.nodes c.climb.ensures.tree

-- only the second walk joins
pub returns-clause-few : goal.returns-clause-few
returns-clause-few g c = λ d u.
    omega (arith, c.write_leaf-at.ensures.few d u, c.climb.ensures.few d u, most_above_le d c.write_leaf-at.result)
