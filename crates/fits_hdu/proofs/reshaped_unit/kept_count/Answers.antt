use Rattle.std.proofs.Common.{arith}
use Rattle.fits_hdu.proofs.ReshapedUnitLemmas.{all_stay, values_of_size}
use Rattle.fits_hdu.proofs.reshaped_unit.kept_count.Goals as goal

pub returns-in-Some : goal.returns-in-Some
returns-in-Some c =
    let a = c.args in
    let values = values_of_size a.kind a.shape.now c.in-Some.bytes c.width.result c.requires.array c.requires.shape c.in-Some.ensures.found c.width.ensures.value c.width.ensures.some in
    omega (arith, c.min.ensures, values)

pub returns-in-None : goal.returns-in-None
returns-in-None c = all_stay c.args.kind c.args.shape.now c.args.pixels c.requires.array c.requires.shape c.requires.few c.in-None.ensures.none
