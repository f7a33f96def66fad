use Rattle.std.proofs.Common.{◌∙◌, ap, arith}
use Rattle.fits_passing.specs.Hdu.{HduParts}
use Rattle.fits_hdu.specs.State.{parts_of}
use Rattle.fits_hdu.proofs.StampingLemmas.{stamped_unit}
use Rattle.fits_making.proofs.HadLemmas.{had_same}
use Rattle.fits_making.proofs.keeping.finish.Goals as goal

pub returns-in-Some : goal.returns-in-Some
returns-in-Some c =
    let e = c.stamp_with.ensures in
    rw c.in-Some.is (record {
      hdu = e.hdu;
      least = e.least;
      most = omega (arith, e.work);
      work = e.pixel_work;
      entry = e.entry;
      kept = e.kept;
      described = e.left;
      absent = e.absent;
      had = had_same c.args.hdu.now c.stamp_with.new.self e.absent (ap (λ (hdu : HduParts). hdu.data_unit) e.hdu ∙ stamped_unit (parts_of c.args.hdu.now)) e.kept;
    })
