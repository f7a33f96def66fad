use Rattle.std.proofs.Common.{◌∙◌, arith}
use Rattle.fits_tell.specs.Listing.{called_len, called_line}
use Rattle.fits_tell.proofs.ExitLemmas.{at_exit}
use Rattle.fits_tell.proofs.PlacedLemmas.{placed_next, placed_within, prints_placed, stops_at_placed}
use Rattle.fits_tell.proofs.long_listing.print_called.Goals as goal

pub print_line-requires : goal.print_line-requires
print_line-requires g c = omega (arith, placed_within called_len c.args.outlines.now c.loop-i.i c.loop-i.start c.index-outlines-i.result c.loop-i-test.true c.index-outlines-i.is c.loop-i.invariant.start, c.requires)

pub returns-in_err-start-clause-err : goal.returns-in_err-start-clause-err
returns-in_err-start-clause-err g c =
    at_exit _ _ _ c.from_residual.ensures.1
    (stops_at_placed _ _ _ called_line called_len c.args.outlines.now c.loop-i.i c.loop-i.start c.index-outlines-i.result c.in_err-start.field-0.0 c.loop-i-test.true c.index-outlines-i.is c.loop-i.invariant.start c.loop-i.invariant.printed (rw c.deref.ensures.value at c.in_err-start.ensures.err))

pub loop-i-preserved : goal.loop-i-preserved
loop-i-preserved g c = record {
  start = c.in_ok-start.ensures.end ∙ placed_next called_len c.args.outlines.now c.loop-i.i c.loop-i.start c.index-outlines-i.result c.loop-i-test.true c.index-outlines-i.is c.loop-i.invariant.start;
  printed = prints_placed _ _ _ called_line called_len c.args.outlines.now c.loop-i.i c.loop-i.start c.index-outlines-i.result c.loop-i-test.true c.index-outlines-i.is c.loop-i.invariant.start c.loop-i.invariant.printed (rw c.deref.ensures.value at c.in_ok-start.ensures.ok);
}
