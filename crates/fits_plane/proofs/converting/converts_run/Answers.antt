use Rattle.std.proofs.Common.{ap, arith, subst, sym, ℕ, ◌*◌, ◌-◌, ◌/◌, ◌<◌, ◌≡◌}
use Rattle.std.proofs.lemmas.Int.{to_z-of_z}
use Rattle.std.specs.Int.{w128}
use Rattle.std.specs.Prelude.{◌+ℤ◌}
use Rattle.fits_pixels.proofs.LayoutLemmas.{block_pixels_some}
use Rattle.fits_pixels.specs.Layout.{block_pixels}
use Rattle.fits_pixels.specs.Pixels.{IsStorable, pixel}
use Rattle.fits_plane.proofs.ConvertLemmas.{parts_decide, whole_blocks}
use Rattle.fits_plane.proofs.converting.converts_run.Goals as goal

-- a full block has a number that can't be stored
pub returns-then-not-blocks_convert-clause-means : goal.returns-then-not-blocks_convert-clause-means
returns-then-not-blocks_convert-clause-means c =
    let per : ℕ = c.pixels_per_block-per.result in
    let some : 0 < per = subst (λ n. 0 < n) (sym c.pixels_per_block-per.ensures) (block_pixels_some c.args.layout.width c.requires.from) in
    let few = whole_blocks c.args.count per some in
    let same : c.args.count / per * block_pixels c.args.layout.width ≡ c.args.count / per * per = ap (λ n. c.args.count / per * n) (sym c.pixels_per_block-per.ensures) in
    let found = rw (to_z-of_z w128 c.args.shift c.ranges.shift) at c.blocks_convert.ensures in (
      λ t. absurd (cc t),
      λ all.
          let good = found.1 (λ x b. all x (omega (arith, b, same, few))) in
          let bad = c.if-not-blocks_convert.true in
          absurd (cc (good, bad)),
    )

-- all can be just where the full blocks can and what is left
pub returns-clause-means : goal.returns-clause-means
returns-clause-means c =
    let per : ℕ = c.pixels_per_block-per.result in
    let some : 0 < per = subst (λ n. 0 < n) (sym c.pixels_per_block-per.ensures) (block_pixels_some c.args.layout.width c.requires.from) in
    let few = whole_blocks c.args.count per some in
    let same : c.args.count / per * block_pixels c.args.layout.width ≡ c.args.count / per * per = ap (λ n. c.args.count / per * n) (sym c.pixels_per_block-per.ensures) in
    let found = rw (to_z-of_z w128 c.args.shift c.ranges.shift) at c.blocks_convert.ensures in
    let left = rw (to_z-of_z w128 c.args.shift c.ranges.shift) at c.converts_each.ensures.means in
    parts_decide (λ x. IsStorable c.args.width (pixel c.args.layout.width c.args.store.now.bytes x +ℤ c.args.shift)) c.args.count (c.args.count / per * per) (c.args.count - c.args.count / per * per) _
    (omega (arith, few)) (λ x b. found.0 c.if-not-blocks_convert.false x (omega (arith, b, same))) left
