use Rattle.std.proofs.Common.{◌*◌, ◌∙◌, ◌+◌, ◌-◌, ◌++◌, ℕ, List, drop, ap, take, refl, arith}
use Rattle.fits_unit.specs.Passing.{PassingState}
use Rattle.fits_unit.proofs.PassedLemmas.{front_more}
use Rattle.fits_unit.proofs.passing_unit.PassingUnit.add.Goals as goal

pub loop-k-preserved : goal.loop-k-preserved
loop-k-preserved c =
    let at : ℕ = 2880 * c.loop-k.k in
    c.add_part-in-loop-k.ensures ∙ ap (λ (p : PassingState). record { layout = p.layout; bytes = p.bytes ++ take (at + 2880 - at) (drop at c.args.piece.now) }) c.loop-k.invariant
    ∙ ap (λ (bytes : List ℕ). record { layout = c.args.self.now.layout; bytes = bytes }) (front_more c.args.self.now.bytes c.args.piece.now c.loop-k.k at (at + 2880 - at) refl (omega arith))
