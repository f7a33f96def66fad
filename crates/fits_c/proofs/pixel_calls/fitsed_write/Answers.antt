use Rattle.std.proofs.Common.{subst}
use Rattle.std.proofs.lemmas.List.{map-id}
use Rattle.fits_c.specs.Pixels.{WriteComesTo}
use Rattle.fits_c.proofs.pixel_calls.fitsed_write.Goals as goal

pub returns : goal.returns
returns c =
    let writes = rw c.deref_mut.ensures.value at c.write-number.ensures in (
      _,
      c.take-live.ensures.given,
      c.write-number.new.self,
      c.of.ensures,
      subst (λ values. WriteComesTo c.take-live.result.value c.args.hdu c.args.lo.now c.args.hi.now values c.write-number.result c.write-number.new.self) (map-id c.args.values.now) writes,
    )
