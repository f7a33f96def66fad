use Rattle.std.proofs.Common.{rules, arith, ◌≡◌, ◌∙◌, ℕ, ap, length, ◌/◌}
use Rattle.std.specs.Prelude.{map}
use Rattle.std.specs.List.{range_with_len}
use Rattle.fits_pixels.specs.Block.{leaf_of}
use Rattle.fits_pixels.specs.Summary.{HalvesFit, PixelFits, WordFits}
use Rattle.fits_pieces.proofs.PassingLemmas.{joined, joined_all, joined_more}
use Rattle.fits_pieces.proofs.passing_pieces.scan_piece.Goals as goal

-- one block more is joined to those before
pub loop-k-preserved : goal.loop-k-preserved
loop-k-preserved c =
    let fit : HalvesFit PixelFits WordFits c.scan_block.result = search rules in
    joined_more (leaf_of c.args.layout c.args.piece.now) c.loop-k.k c.loop-k.leaf c.scan_block.result c.join-leaf.result c.loop-k.invariant c.scan_block.ensures fit c.join-leaf.ensures

-- all of them are
pub returns-clause-leaf : goal.returns-clause-leaf
returns-clause-leaf c =
    let n : ℕ = length c.args.piece.now / 2880 in
    let all : c.loop-k.k ≡ n = omega (arith, c.loop-k-test.false) in
    c.loop-k.invariant ∙ ap (λ k. joined (map (leaf_of c.args.layout c.args.piece.now) (range_with_len 0 k))) all
    ∙ joined_all c.args.layout c.args.piece.now n c.requires (omega (arith, c.requires.whole)) c.read_bytes.ensures
