use Rattle.std.proofs.Common.{◌*◌, ◌-◌, ◌/◌, ◌∙◌, ℕ, List, Some, ap, arith, refl, inl}
use Rattle.std.specs.Prelude.{pos}
use Rattle.fits_pixels.specs.Pixels.{pixels}
use Rattle.fits_pixels.specs.Statistics.{statistics}
use Rattle.fits_pixels.specs.Summary.{pixels_joined}
use Rattle.fits_pixels.proofs.RunLemmas.{run_joined}
use Rattle.fits_pixels.proofs.pixels_8.scan_blank.Goals as goal

pub returns : goal.returns
returns c =
    let xs : List ℕ = c.args.block.now in
    let b = Some (pos c.args.blank) in
    let at : ℕ = 16 * (c.args.held / 16) in
    c.join.ensures ∙ ap (λ x. pixels_joined x c.scan_few.result) c.scan_lanes.ensures ∙ ap (pixels_joined (statistics b (pixels 1 xs 0 at))) c.scan_few.ensures
    ∙ run_joined 1 at (c.args.held - at) at (c.args.held - at) xs b (inl refl) (λ k. let f = c.type_inv.block k in omega (arith, f)) (omega arith) (omega arith) (omega (arith, c.requires))
    ∙ ap (λ n. statistics b (pixels 1 xs 0 n)) (omega arith)
