use Rattle.std.proofs.Common.{◌==◌, ◌∙◌, not, refl, arith, eqb, w8}
use Rattle.std.specs.Simd.Lanes.{chunk}
use Rattle.std.proofs.lemmas.Simd.{length-chunk, bitmask_splat}
use Rattle.fits_value.proofs.RunLemmas.{counted}
use Rattle.fits_value.proofs.runs.gap_at.Goals as goal

pub returns : goal.returns
returns c =
    let text = c.args.text.now in
    let byte = c.args.byte in
    let lanes = chunk c.args.at 16 text in
    let mask = bitmask_splat w8 eqb lanes 16 byte (length-chunk c.args.at 16 text c.requires) (omega arith) in
    c.first_lane.ensures ∙ counted (λ b. eqb b byte) (λ b. not (b == byte)) text c.args.at _ c.requires mask (λ b. refl)
