use Rattle.std.proofs.Common.{subst}
use Rattle.std.proofs.lemmas.List.{map-id}
use Rattle.fits_c.specs.Pixels.{IsSigned, RectComesTo}
use Rattle.fits_c.proofs.pixel_calls.fitsed_rect.Goals as goal

pub returns : goal.returns
returns c =
    let fills = rw c.deref_mut.ensures.value at c.rect-number.ensures in (
      _,
      c.take-live.ensures.given,
      c.rect-number.new.self,
      c.of.ensures,
      subst (λ room. RectComesTo IsSigned c.take-live.result.value c.args.hdu c.args.lo.now c.args.hi.now c.rect-number.result room c.rect-number.new.self) (map-id c.rect-number.new.room) fills,
    )
