use Rattle.std.proofs.Common.{ap, arith}
use Rattle.fits_pixels.specs.declared.layout.Layout.{Layout}
use Rattle.fits_pixels.proofs.LayoutLemmas.{layout_small}
use Rattle.fits_unit.proofs.data_unit.DataUnit.goes_in_part.Goals as goal

-- it has no more pixels than bytes
pub rectangle_len-requires-clause-small : goal.rectangle_len-requires-clause-small
rectangle_len-requires-clause-small c =
    let now = c.args.self.now.plane in
    omega (arith, c.requires.all, ap (λ (l : Layout). l.pixels) c.layout-layout.ensures.value, layout_small c.layout-layout.result now.bytes c.layout-layout.ensures.fits, c.layout-layout.ensures.fits.limit)
