use Rattle.std.proofs.Common.{ap, arith, inl, inr, length, of_z, refl, subst, to_z, ℕ, ℤ, ◌*◌, ◌+◌, ◌-◌, ◌<◌, ◌∙◌, ◌≡◌, ◌≤◌}
use Rattle.std.proofs.Math.Nat.{mul-le-mul_right}
use Rattle.std.proofs.lemmas.Bool.{cases_lt}
use Rattle.std.proofs.lemmas.Int.{to_z-of_z}
use Rattle.std.specs.Int.{w128}
use Rattle.std.specs.Prelude.{◌+ℤ◌}
use Rattle.fits_pixels.specs.Layout.{block_pixels}
use Rattle.fits_pixels.specs.Block.{block_numbers}
use Rattle.fits_pixels.specs.Pixels.{IsStorable, pixel}
use Rattle.fits_pixels.specs.Statistics.{statistics}
use Rattle.fits_plane.proofs.ConvertLemmas.{block_decides, block_within}
use Rattle.fits_plane.proofs.converting.blocks_convert.Goals as goal

-- the block at hand is one more
pub loop-k-preserved : goal.loop-k-preserved
loop-k-preserved c =
    let k : ℕ = c.loop-k.k in
    let per : ℕ = block_pixels c.args.layout.width in
    let shift : ℤ = to_z w128 (of_z w128 c.args.shift) in
    let kept = c.requires.kept in
    let within = block_within c.args.layout c.args.store.now.bytes (length c.args.tree.now.leaves) c.args.blocks k c.requires.from kept.fits kept.whole c.requires.full c.loop-k-test.true in
    let leaf : c.leaf.result.first ≡ statistics c.args.layout.blank (block_numbers c.args.layout c.args.store.now.bytes k) = ap (λ u. u.first) (c.leaf.ensures ∙ kept.right k within) in
    let means = block_decides c.args.layout c.args.store.now.bytes c.args.width c.args.blocks k shift _ c.requires.full c.loop-k-test.true (c.summary_converts.ensures (block_numbers c.args.layout c.args.store.now.bytes k) leaf) in
    λ x b. elim (cases_lt x (k * per)) [
      | inl lt ↦ c.loop-k.invariant x lt
      | inr ge ↦
          let back : k * per + (x - k * per) ≡ x = omega (arith, ge) in
          let near : x - k * per < per = omega (arith, b, ge) in
          subst (λ m. IsStorable c.args.width (pixel c.args.layout.width c.args.store.now.bytes m +ℤ shift)) back (means.0 c.if-not-summary_converts.false (x - k * per) near)
    ]

-- the block at hand has a number that can't be stored
pub returns-then-not-summary_converts : goal.returns-then-not-summary_converts
returns-then-not-summary_converts c =
    let k : ℕ = c.loop-k.k in
    let per : ℕ = block_pixels c.args.layout.width in
    let next : k + 1 ≤ c.args.blocks = omega (arith, c.loop-k-test.true) in
    let up : (k + 1) * per ≤ c.args.blocks * per = mul-le-mul_right per next in
    let kept = c.requires.kept in
    let within = block_within c.args.layout c.args.store.now.bytes (length c.args.tree.now.leaves) c.args.blocks k c.requires.from kept.fits kept.whole c.requires.full c.loop-k-test.true in
    let leaf : c.leaf.result.first ≡ statistics c.args.layout.blank (block_numbers c.args.layout c.args.store.now.bytes k) = ap (λ u. u.first) (c.leaf.ensures ∙ kept.right k within) in
    let found = rw (to_z-of_z w128 c.args.shift c.ranges.shift) at (c.summary_converts.ensures (block_numbers c.args.layout c.args.store.now.bytes k) leaf) in
    let means = block_decides c.args.layout c.args.store.now.bytes c.args.width c.args.blocks k c.args.shift _ c.requires.full c.loop-k-test.true found in (
      λ t. absurd (cc t),
      λ all.
          let good = means.1 (λ i d. all (k * per + i) (omega (arith, d, up))) in
          let bad = c.if-not-summary_converts.true in
          absurd (cc (good, bad)),
    )

-- all blocks can be stored
pub returns : goal.returns
returns c =
    let per : ℕ = block_pixels c.args.layout.width in
    let full : c.args.blocks ≤ c.loop-k.k = omega (arith, c.loop-k-test.false) in
    let up : c.args.blocks * per ≤ c.loop-k.k * per = mul-le-mul_right per full in (
      λ t x b. subst (λ s. IsStorable c.args.width (pixel c.args.layout.width c.args.store.now.bytes x +ℤ s)) (to_z-of_z w128 c.args.shift c.ranges.shift) (c.loop-k.invariant x (omega (arith, b, up))),
      λ all. refl,
    )
