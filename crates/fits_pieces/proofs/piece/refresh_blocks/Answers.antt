use Rattle.std.proofs.Common.{rules, arith, ◌<◌, ◌*◌, ap}
use Rattle.fits_pieces.specs.Blocks.{stale_count, PieceState}
use Rattle.fits_pieces.proofs.RescanLemmas.{fresh_count}
use Rattle.fits_pieces.proofs.piece.refresh_blocks.Goals as goal

-- no block is yet to be scanned then
pub returns : goal.returns
returns c =
    let e = c.refresh.ensures in
    let new = c.refresh.new.self in
    let old = c.args.blocks.now in
    let none = fresh_count new.stale e.fresh in
    let some : 0 < stale_count old.stale = search rules in
    record {
      bytes = ap (λ (s : PieceState). s.bytes) e.same;
      layout_is = ap (λ (s : PieceState). s.layout) e.same;
      reads = ap (λ (s : PieceState). s.reads) e.same;
      marks = e.long;
      fresh = e.fresh;
      was = λ z. absurd (let w = z in (cc));
      scans = omega (arith, ap (λ (s : PieceState). s.scans) e.same, none);
      less = omega (arith, none, some);
      more = e.more;
      few = λ d h. omega (arith, e.few d h, ap (λ n. n * d) none);
      most = λ d h. e.most d h;
    }
