use Rattle.std.proofs.Common.{◌↔◌, ◌∙◌, IsTrue, ap, rules, sym}
use Rattle.std.specs.Prelude.{◌-ℤ◌}
use Rattle.fits_pixels.specs.Pixels.{IsStorable}
use Rattle.fits_pixels.proofs.TestLemmas.{same_test, can_store_decides}
use Rattle.fits_plane.specs.Paint.{can_store_paint}
use Rattle.fits_plane.proofs.lent_paint.LentPaint.is_storable.Goals as goal

-- one value
pub returns-in-Fill-clause-value : goal.returns-in-Fill-clause-value
returns-in-Fill-clause-value c =
    let means : IsTrue c.stores.result ↔ IsStorable c.args.width (c.in-Fill.value -ℤ c.args.offset) = search rules in
    same_test _ _ _ means (can_store_decides c.args.width (c.in-Fill.value -ℤ c.args.offset)) ∙ ap (can_store_paint c.args.width c.args.offset) (sym c.in-Fill.is)
