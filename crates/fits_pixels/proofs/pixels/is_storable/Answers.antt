use Rattle.std.proofs.Common.{◌↔◌, IsTrue, rules}
use Rattle.fits_pixels.specs.Pixels.{IsStorable}
use Rattle.fits_pixels.proofs.TestLemmas.{same_test, can_store_decides}
use Rattle.fits_pixels.proofs.pixels.is_storable.Goals as goal

pub returns-in-1-clause-value : goal.returns-in-1-clause-value
returns-in-1-clause-value c =
    let means : IsTrue c.is_ok.result ↔ IsStorable c.args.width c.args.number = search rules in
    same_test _ _ _ means (can_store_decides c.args.width c.args.number)

pub returns-in-2-clause-value : goal.returns-in-2-clause-value
returns-in-2-clause-value c =
    let means : IsTrue c.is_ok-in-2.result ↔ IsStorable c.args.width c.args.number = search rules in
    same_test _ _ _ means (can_store_decides c.args.width c.args.number)

pub returns-in-4-clause-value : goal.returns-in-4-clause-value
returns-in-4-clause-value c =
    let means : IsTrue c.is_ok-in-4.result ↔ IsStorable c.args.width c.args.number = search rules in
    same_test _ _ _ means (can_store_decides c.args.width c.args.number)

pub returns-in_default-clause-value : goal.returns-in_default-clause-value
returns-in_default-clause-value c =
    let means : IsTrue c.is_ok-in_default.result ↔ IsStorable c.args.width c.args.number = search rules in
    same_test _ _ _ means (can_store_decides c.args.width c.args.number)
