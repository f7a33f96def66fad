use Rattle.std.proofs.Common.{◌==◌, ◌∙◌, ℕ, Bool, not, true, false, ◌≡◌, refl, arith, eqb, w8}
use Rattle.std.specs.Simd.Lanes.{chunk}
use Rattle.std.proofs.lemmas.Simd.{length-chunk, bitmask_splat}
use Rattle.fits_value.proofs.RunLemmas.{counted}
use Rattle.fits_value.proofs.runs.run_at.Goals as goal

not_not : (b : Bool) → not (not b) ≡ b
not_not true = refl
not_not false = refl

pub returns : goal.returns
returns c =
    let text = c.args.text.now in
    let byte = c.args.byte in
    let lanes = chunk c.args.at 16 text in
    let mask = bitmask_splat w8 (λ (a b : ℕ). not (eqb a b)) lanes 16 byte (length-chunk c.args.at 16 text c.requires) (omega arith) in
    c.first_lane.ensures ∙ counted (λ b. not (eqb b byte)) (λ b. b == byte) text c.args.at _ c.requires mask (λ b. not_not (eqb b byte))
