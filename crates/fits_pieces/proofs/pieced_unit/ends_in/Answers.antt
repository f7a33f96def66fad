use Rattle.std.proofs.Common.{◌≡◌, ◌↔◌, All, IsTrue, List, ℕ, arith, drop, length, subst}
use Rattle.std.proofs.lemmas.Slice.{between_to_end}
use Rattle.fits_pixels.proofs.FillLemmas.{are_all}
use Rattle.fits_pieces.proofs.pieced_unit.ends_in.Goals as goal

pub returns : goal.returns
returns c =
    let xs : List ℕ = c.args.bytes.now in
    let rest = between_to_end xs c.args.from (length xs) (omega (arith, c.requires)) in
    are_all c.all_are.result c.args.byte (drop c.args.from xs) (subst (λ ys. IsTrue c.all_are.result ↔ All (λ b. b ≡ c.args.byte) ys) rest c.all_are.ensures)
