use Rattle.std.proofs.Common.{arith}
use Rattle.fits_patch.specs.Patch.{deletion}
use Rattle.fits_patch.proofs.GapLemmas.{repeated-push}
use Rattle.fits_patch.proofs.gaps.push_deletions.Goals as goal

pub deletion-preserved : goal.deletion-preserved
deletion-preserved c = record {
  told = repeated-push c.args.count c.deletion.left c.args.text.now.items c.deletion.text.items c.push_deletion.new.text.items (deletion c.args.h c.args.place) (omega (arith, c.deletion-test.true)) c.deletion.invariant.told c.in_ok-push_deletion.ensures;
}
