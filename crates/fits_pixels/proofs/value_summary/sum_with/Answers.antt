use Rattle.fits_pixels.proofs.ValueLemmas.{moved}
use Rattle.fits_pixels.proofs.value_summary.sum_with.Goals as goal

-- the product of the count and the offset fits
pub overflow_mul-result : goal.overflow_mul-result
overflow_mul-result c =
    let m = moved c.args.sum c.args.count c.args.offset c.ranges.sum c.ranges.offset c.requires.few c.requires.sum c.requires.offset in m.product_fits

-- and so does the sum
pub overflow_add-result : goal.overflow_add-result
overflow_add-result c =
    let m = moved c.args.sum c.args.count c.args.offset c.ranges.sum c.ranges.offset c.requires.few c.requires.sum c.requires.offset in m.sum_fits

-- what is computed is exact
pub returns : goal.returns
returns c =
    let m = moved c.args.sum c.args.count c.args.offset c.ranges.sum c.ranges.offset c.requires.few c.requires.sum c.requires.offset in m.is
