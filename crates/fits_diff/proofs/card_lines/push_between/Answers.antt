use Rattle.std.proofs.Common.{arith}
use Rattle.fits_diff.specs.Matching.{signed_line}
use Rattle.fits_diff.proofs.LineLemmas.{between-push}
use Rattle.fits_diff.proofs.card_lines.push_between.Goals as goal

pub loop-index-preserved : goal.loop-index-preserved
loop-index-preserved c =
    let it = c.loop-index.invariant in
    record {
      told = between-push (signed_line c.args.sign.now c.args.number) c.args.cards.now.header.cards c.args.from c.loop-index.index c.card-card.result c.args.text.now.items c.loop-index.text.items _ it.ordered (omega (arith, c.loop-index-test.true, c.requires.within)) (rw it.same at c.card-card.ensures.value) it.told c.in_ok-push_signed_line.ensures;
      ordered = omega (arith, it.ordered);
      same = rw c.card-card.ensures.work it.same;
    }
