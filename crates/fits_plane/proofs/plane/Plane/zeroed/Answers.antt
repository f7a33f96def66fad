use Rattle.std.proofs.Common.{◌∙◌, ℕ, length, get_or, replicate, ap, arith, sym, subst}
use Rattle.std.proofs.lemmas.List.{length-replicate}
use Rattle.fits_pixels.specs.Layout.{IsLayout}
use Rattle.fits_plane.specs.Leaves.{leaf_unit}
use Rattle.fits_plane.proofs.StoreLemmas.{leaf_scanned, same_bytes}
use Rattle.fits_plane.proofs.plane.Plane.zeroed.Goals as goal

-- the layout is of zeros
pub zero_leaves-requires-clause-layout : goal.zero_leaves-requires-clause-layout
zero_leaves-requires-clause-layout c = subst (IsLayout c.args.layout) (sym (ap (λ s. s.bytes) c.new-store.ensures ∙ c.in_ok-zeros.ensures)) c.requires.layout

-- the bytes are zeros
pub zero_leaves-requires-clause-zeros : goal.zero_leaves-requires-clause-zeros
zero_leaves-requires-clause-zeros c =
    let zeros = ap (λ s. s.bytes) c.new-store.ensures ∙ c.in_ok-zeros.ensures in
    zeros ∙ ap (λ n. replicate {A = ℕ} n 0) (sym (ap length zeros ∙ length-replicate {A = ℕ} c.args.len 0))

-- in whole blocks
pub zero_leaves-requires-clause-whole : goal.zero_leaves-requires-clause-whole
zero_leaves-requires-clause-whole c =
    let zeros = ap (λ s. s.bytes) c.new-store.ensures ∙ c.in_ok-zeros.ensures in
    omega (arith, ap length zeros, length-replicate {A = ℕ} c.args.len 0, c.requires.layout.whole)

-- the leaves are those of the bytes
pub invariant_of-result : goal.invariant_of-result
invariant_of-result c =
    let leaves = c.in_ok-tree.ensures.leaves in
    let made = c.in_ok-leaves.ensures in
    let same = c.zero_leaves.ensures.same in
    let zeros = same_bytes c.new-store.result c.zero_leaves.new.store same ∙ ap (λ s. s.bytes) c.new-store.ensures ∙ c.in_ok-zeros.ensures in
    let layout = subst (IsLayout c.args.layout) (sym zeros) c.requires.layout in
    record {
      whole = omega (arith, ap length leaves, made.long, ap length zeros, length-replicate {A = ℕ} c.args.len 0, c.requires.layout.whole);
      layout = layout;
      leaves = λ k b. ap (λ ls. get_or ls k leaf_unit) leaves ∙ made.right k (omega (arith, b, ap length leaves)) ∙ sym (leaf_scanned c.args.layout k c.new-store.result c.zero_leaves.new.store same);
    }
