use Rattle.std.proofs.Common.{◌≡◌, ◌+◌, ◌∙◌, ℕ, ℤ, ap, arith, subst, sym}
use Rattle.std.proofs.lemmas.List.{with_items_is}
use Rattle.fits_pixels.specs.Block.{leaf_of}
use Rattle.fits_plane.specs.Painting.{number_of}
use Rattle.fits_plane.specs.ShortRows.{RowWritten}
use Rattle.fits_plane.proofs.data_bytes.DataBytes.paint_block.Goals as goal

-- the bytes are the painted ones
pub returns-clause-written : goal.returns-clause-written
returns-clause-written c =
    let a = c.args in
    let old : c.as_mut_slice-bytes.result.now ≡ a.self.now.bytes = c.as_mut_slice-bytes.ensures.value ∙ ap (λ s. s.bytes) c.self.view_is in
    let new = with_items_is c.self.inside.bytes c.paint_block.new.bytes (omega (arith, c.paint_block.ensures.written.long, c.as_mut_slice-bytes.ensures.len)) in
    let number : ℕ → ℤ = λ x. number_of a.painting.now (a.rank + x) in
    subst (RowWritten a.layout.width a.start a.count number a.self.now.bytes) (sym new)
    (subst (λ xs. RowWritten a.layout.width a.start a.count number xs c.paint_block.new.bytes) old c.paint_block.ensures.written)

-- and so is their block
pub returns-clause-leaf : goal.returns-clause-leaf
returns-clause-leaf c = λ all.
    let a = c.args in
    let old : c.as_mut_slice-bytes.result.now ≡ a.self.now.bytes = c.as_mut_slice-bytes.ensures.value ∙ ap (λ s. s.bytes) c.self.view_is in
    let new = with_items_is c.self.inside.bytes c.paint_block.new.bytes (omega (arith, c.paint_block.ensures.written.long, c.as_mut_slice-bytes.ensures.len)) in
    c.paint_block.ensures.leaf (all ∙ ap (λ xs. leaf_of a.layout xs a.k) (sym old)) ∙ ap (λ xs. leaf_of a.layout xs a.k) (sym new)
