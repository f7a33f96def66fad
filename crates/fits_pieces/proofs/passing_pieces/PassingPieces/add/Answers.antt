use Rattle.std.proofs.Common.{rules, arith, ◌≡◌, ◌∙◌, ap, length, min, subst, sym, ◌-◌, ◌<◌}
use Rattle.fits_pixels.specs.Layout.{IsLayout}
use Rattle.fits_pixels.specs.Summary.{HalvesFit, PixelFits, WordFits}
use Rattle.fits_pieces.specs.Piece.{bytes_leaf, piece_layout}
use Rattle.fits_pieces.specs.Passing.{PassingState}
use Rattle.fits_pieces.proofs.PassingLemmas.{passing_fits, piece_passed}
use Rattle.fits_pieces.proofs.passing_pieces.PassingPieces.add.Goals as goal

-- one piece more passed by
pub invariant_of-self : goal.invariant_of-self
invariant_of-self c =
    let it = c.self.inside in
    let v = c.self.invariant in
    let fit : HalvesFit PixelFits WordFits c.scan_piece-leaf.result = search rules in
    let more = subst (λ (s : PassingState). length s.bytes < s.len) (sym c.self.view_is) c.requires.more in
    let size = subst (λ (s : PassingState). length c.args.piece.now ≡ min 46080 (s.len - length s.bytes)) (sym c.self.view_is) c.requires.size in
    let is_len : c.len.result ≡ length it.leaves.items = search rules in
    let leaf = c.scan_piece-leaf.ensures.leaf ∙ ap (λ l. bytes_leaf l c.args.piece.now) (c.layout_of_piece-layout.ensures ∙ ap (piece_layout it.layout) is_len) in
    piece_passed it.layout it.len it.gone.bytes c.args.piece.now c.add.new.self.bytes it.leaves.items c.keep.new.leaves.items c.scan_piece-leaf.result _ _ it.scans.total c.scan_piece-leaf.new.scans.total v
    more size c.read_bytes.ensures c.add.ensures leaf fit c.keep.ensures.items c.keep.ensures.room c.scan_piece-leaf.ensures.work

pub scan_piece-leaf-requires : goal.scan_piece-leaf-requires
scan_piece-leaf-requires c =
    let it = c.self.inside in
    let v = c.self.invariant in
    let more = subst (λ (s : PassingState). length s.bytes < s.len) (sym c.self.view_is) c.requires.more in
    let size = subst (λ (s : PassingState). length c.args.piece.now ≡ min 46080 (s.len - length s.bytes)) (sym c.self.view_is) c.requires.size in
    let is_len : c.len.result ≡ length it.leaves.items = search rules in
    subst (λ l. IsLayout l c.args.piece.now) (sym c.layout_of_piece-layout.ensures) (passing_fits it.layout it.len c.len.result c.args.piece.now v.fits (omega (arith, size, more, v.size, is_len)))
