use Rattle.std.proofs.Common.{rules, ◌≡◌, ◌↔◌, All, IsTrue, drop}
use Rattle.fits_pixels.proofs.FillLemmas.{are_all}
use Rattle.fits_unit.proofs.data_unit.DataUnit.fill_ok.Goals as goal

pub returns-in-None : goal.returns-in-None
returns-in-None c =
    let now = c.args.self.now.plane in
    let test : IsTrue c.fill_ok.result ↔ All (λ b. b ≡ now.layout.fill) (drop now.layout.used now.bytes) = search rules in
    are_all c.fill_ok.result now.layout.fill (drop now.layout.used now.bytes) test
