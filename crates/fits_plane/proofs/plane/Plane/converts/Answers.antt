use Rattle.std.proofs.Math.Nat.{mod-le}
use Rattle.std.proofs.Common.{ap, arith, refl}
use Rattle.std.proofs.lemmas.Int.{to_z-of_z}
use Rattle.std.specs.Int.{w128}
use Rattle.fits_pixels.specs.Layout.{block_pixels}
use Rattle.fits_plane.proofs.ConvertLemmas.{kept_decides}
use Rattle.fits_plane.specs.Converting.{can_store_run}
use Rattle.fits_plane.proofs.plane.Plane.converts.Goals as goal

-- no number, and each can be stored
pub returns-then-count-eq0-clause-value : goal.returns-then-count-eq0-clause-value
unfolding can_store_run
returns-then-count-eq0-clause-value c = rw c.if-count-eq0.true refl

-- the test of each pixel is that of the numbers
pub returns-clause-value : goal.returns-clause-value
returns-clause-value c =
    let a = c.args in
    let width = ap (λ z. z.layout.width) c.self.view_is in
    let bytes = ap (λ z. z.bytes) c.self.view_is in
    let means = rw (to_z-of_z w128 a.shift c.ranges.shift) at c.converts_run.ensures.means in
    kept_decides c.self.inside.layout.width a.self.now.layout.width a.width a.count a.shift c.self.inside.store.bytes a.self.now.bytes _ width bytes means

-- what is left of the numbers are no more than all
pub returns-clause-reads : goal.returns-clause-reads
returns-clause-reads c =
    omega (arith, c.converts_run.ensures.reads, mod-le c.args.count (block_pixels c.self.inside.layout.width), ap (λ z. z.reads) c.self.view_is)
