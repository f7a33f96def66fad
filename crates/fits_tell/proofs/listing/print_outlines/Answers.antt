use Rattle.std.proofs.Common.{◌∙◌, arith}
use Rattle.fits_tell.specs.Listing.{outlined_len, plain_line}
use Rattle.fits_tell.proofs.ExitLemmas.{at_exit}
use Rattle.fits_tell.proofs.PlacedLemmas.{placed_next, placed_within, prints_placed, stops_at_placed}
use Rattle.fits_tell.proofs.listing.print_outlines.Goals as goal

pub print_line-requires : goal.print_line-requires
print_line-requires g c = omega (arith, placed_within outlined_len c.args.outlines.now c.loop-i.i c.loop-i.start c.index-outlines-i.result c.loop-i-test.true c.index-outlines-i.is c.loop-i.invariant.start, c.requires)

pub returns-in_err-start-clause-err : goal.returns-in_err-start-clause-err
returns-in_err-start-clause-err g c =
    at_exit _ _ _ c.from_residual.ensures.1
    (stops_at_placed _ _ _ plain_line outlined_len c.args.outlines.now c.loop-i.i c.loop-i.start c.index-outlines-i.result c.in_err-start.field-0.0 c.loop-i-test.true c.index-outlines-i.is c.loop-i.invariant.start c.loop-i.invariant.printed c.in_err-start.ensures.err)

pub loop-i-preserved : goal.loop-i-preserved
loop-i-preserved g c = record {
  start = c.in_ok-start.ensures.end ∙ placed_next outlined_len c.args.outlines.now c.loop-i.i c.loop-i.start c.index-outlines-i.result c.loop-i-test.true c.index-outlines-i.is c.loop-i.invariant.start;
  printed = prints_placed _ _ _ plain_line outlined_len c.args.outlines.now c.loop-i.i c.loop-i.start c.index-outlines-i.result c.loop-i-test.true c.index-outlines-i.is c.loop-i.invariant.start c.loop-i.invariant.printed c.in_ok-start.ensures.ok;
}
