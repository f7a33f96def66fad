use Rattle.std.proofs.Common.{rules, ◌≡◌, ◌<◌, ◌≤◌, ◌*◌, ◌/◌, ◌+◌, ◌∷◌, ◌∙◌, [], ℕ, length, get_or, arith, ap, sym, subst}
use Rattle.std.proofs.lemmas.List.{get_or_read, length-append}
use Rattle.fits_pixels.specs.Summary.{PixelFits, WordFits, HalvesFit}
use Rattle.fits_pixels.specs.Layout.{block_pixels}
use Rattle.fits_pixels.specs.Block.{leaf_of}
use Rattle.fits_plane.specs.DataBytes.{IsScanned}
use Rattle.fits_plane.specs.Leaves.{leaf_unit}
use Rattle.fits_plane.proofs.LeafLemmas.{pushed}
use Rattle.fits_plane.proofs.StoreLemmas.{fits_scanned, leaf_scanned, same_bytes, scanned_again}
use Rattle.fits_plane.proofs.ZeroLemmas.{zero_leaf}
use Rattle.fits_plane.proofs.leaves.zero_leaves.Goals as goal
use Rattle.fits_plane.proofs.leaves.zero_leaves.Goals.{then-k-gt0+then-k-full, else-k-gt0}

pub loop-k-preserved : goal.loop-k-preserved
loop-k-preserved c =
    let v = c.loop-k.invariant in
    let k : ℕ = c.loop-k.k in
    let leaf = c.if-k-gt0.leaf in
    let items = c.in_ok-push.ensures.items in
    let room : 2880 * k + 2880 ≤ length c.args.store.now.bytes = omega (arith, c.requires.whole, c.loop-k-test.true) in
    let made : (leaf ≡ leaf_of c.args.layout c.args.store.now.bytes k) × (HalvesFit PixelFits WordFits leaf × ((c.if-k-gt0.store.scans ≤ c.args.store.now.scans + (k + 1)) × IsScanned c.args.store.now c.if-k-gt0.store)) = elim c.if-k-gt0.branch [
      | then-k-gt0+then-k-full w ↦
          let first : leaf ≡ get_or c.loop-k.leaves.items 0 leaf_unit = w.leaf-is ∙ get_or_read c.loop-k.leaves.items 0 w.index.result.now (omega (arith, v.long, w.if-k-gt0.true)) w.index.ensures leaf_unit in
          let full : k < c.args.layout.pixels / block_pixels c.args.layout.width = subst (λ m. k < m) c.full_blocks-full.ensures w.if-k-full.true in (
            first ∙ v.right 0 w.if-k-gt0.true ∙ zero_leaf c.args.layout c.args.store.now.bytes (length c.args.store.now.bytes) k c.requires.zeros room full,
            (
              subst (HalvesFit PixelFits WordFits) (sym first) (v.fit 0 w.if-k-gt0.true),
              (omega (arith, ap (λ s. s.scans) w.store-is, v.work), subst (IsScanned c.args.store.now) (sym w.store-is) v.same),
            ),
          )
      | else-k-gt0 w ↦
          let fit : HalvesFit PixelFits WordFits w.scan-leaf.result = search rules in (
            w.leaf-is ∙ w.scan-leaf.ensures.leaf ∙ leaf_scanned c.args.layout k c.args.store.now c.loop-k.store v.same,
            (
              subst (HalvesFit PixelFits WordFits) (sym w.leaf-is) fit,
              (
                omega (arith, ap (λ s. s.scans) w.store-is, ap (λ s. s.scans) w.scan-leaf.ensures.work, v.work),
                subst (IsScanned c.args.store.now) (sym w.store-is) (scanned_again c.args.store.now c.loop-k.store w.scan-leaf.new.self _ v.same w.scan-leaf.ensures.work),
              ),
            ),
          )
    ] in
    record {
      long = omega (arith, ap length items, length-append c.loop-k.leaves.items (leaf ∷ []), v.long);
      right = pushed (λ j x. x ≡ leaf_of c.args.layout c.args.store.now.bytes j) leaf_unit c.loop-k.leaves.items c.push.new.self.items leaf k items v.long v.right made.0;
      fit = pushed (λ j x. HalvesFit PixelFits WordFits x) leaf_unit c.loop-k.leaves.items c.push.new.self.items leaf k items v.long v.fit made.1.0;
      same = made.1.1.1;
      work = made.1.1.0;
    }

pub scan-leaf-requires-clause-layout : goal.scan-leaf-requires-clause-layout
scan-leaf-requires-clause-layout c = fits_scanned c.args.layout c.args.store.now c.loop-k.store c.loop-k.invariant.same c.requires.layout

pub scan-leaf-requires-clause-within : goal.scan-leaf-requires-clause-within
scan-leaf-requires-clause-within c = omega (arith, ap length (same_bytes c.args.store.now c.loop-k.store c.loop-k.invariant.same), c.requires.whole, c.loop-k-test.true)
