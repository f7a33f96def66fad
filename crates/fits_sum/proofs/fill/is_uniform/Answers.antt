use Rattle.std.proofs.Common.{◌∙◌, ℕ, List, sym, arith, w8, get_or}
use Rattle.std.specs.Simd.Lanes.{chunk}
use Rattle.std.proofs.lemmas.Simd.{length-chunk, bitmask_splat, none_from_empty_mask}
use Rattle.fits_sum.proofs.FillLemmas.{differs, alike, zero_from}
use Rattle.fits_sum.proofs.fill.is_uniform.Goals as goal

pub returns : goal.returns
returns c = λ t k low high.
    let xs : List ℕ = c.args.bytes.now in
    let v = chunk c.args.at 64 xs in
    let long = length-chunk c.args.at 64 xs c.requires in
    let hits = bitmask_splat w8 differs v 64 c.args.byte long (omega arith) in
    alike (get_or xs k 0) c.args.byte (none_from_empty_mask (λ x. differs x c.args.byte) xs c.args.at 64 0 c.requires (sym hits ∙ zero_from _ t) k low high)
