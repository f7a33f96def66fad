use Rattle.std.proofs.Common.{rules, ◌≡◌, ◌∷◌, ◌∙◌, [], length, arith, ap}
use Rattle.std.proofs.lemmas.List.{length-append}
use Rattle.fits_pixels.specs.Summary.{PixelFits, WordFits, HalvesFit}
use Rattle.fits_pixels.specs.Block.{leaf_of}
use Rattle.fits_plane.specs.Leaves.{leaf_unit}
use Rattle.fits_plane.proofs.LeafLemmas.{pushed}
use Rattle.fits_plane.proofs.StoreLemmas.{fits_scanned, leaf_scanned, same_bytes, scanned_again}
use Rattle.fits_plane.proofs.leaves.leaves_of.Goals as goal

pub loop-k-preserved : goal.loop-k-preserved
loop-k-preserved c =
    let v = c.loop-k.invariant in
    let leaf = c.scan.result in
    let items = c.in_ok-push.ensures.items in
    let fit : HalvesFit PixelFits WordFits leaf = search rules in
    record {
      long = omega (arith, ap length items, length-append c.loop-k.leaves.items (leaf ∷ []), v.long);
      right = pushed (λ j x. x ≡ leaf_of c.args.layout c.args.store.now.bytes j) leaf_unit c.loop-k.leaves.items c.push.new.self.items leaf c.loop-k.k items v.long v.right (c.scan.ensures.leaf ∙ leaf_scanned c.args.layout c.loop-k.k c.args.store.now c.loop-k.store v.same);
      fit = pushed (λ j x. HalvesFit PixelFits WordFits x) leaf_unit c.loop-k.leaves.items c.push.new.self.items leaf c.loop-k.k items v.long v.fit fit;
      same = scanned_again c.args.store.now c.loop-k.store c.scan.new.self _ v.same c.scan.ensures.work;
      work = omega (arith, ap (λ s. s.scans) c.scan.ensures.work, v.work);
    }

pub scan-requires-clause-layout : goal.scan-requires-clause-layout
scan-requires-clause-layout c = fits_scanned c.args.layout c.args.store.now c.loop-k.store c.loop-k.invariant.same c.requires.layout

pub scan-requires-clause-within : goal.scan-requires-clause-within
scan-requires-clause-within c = omega (arith, ap length (same_bytes c.args.store.now c.loop-k.store c.loop-k.invariant.same), c.requires.whole, c.loop-k-test.true)
