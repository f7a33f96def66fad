use Rattle.std.proofs.Common.{◌≤◌, length, refl, ap, arith}
use Rattle.std.proofs.lemmas.Grind.{common_steps}
use Rattle.fits_stream.proofs.IntakeLemmas.{passes_ahead, passes_here}
use Rattle.fits_stream.proofs.intake.Intake.skip.Goals as goal

-- all of them were ahead
pub returns-then-len-held-clause-ok : goal.returns-then-len-held-clause-ok
returns-then-len-held-clause-ok g c =
    rw (← c.self.view_is) (passes_ahead _ _ c.args.len refl c.pass.ensures.value refl (omega (arith, ap length c.bytes-held.ensures)))

pub returns-clause-ok : goal.returns-clause-ok
returns-clause-ok g c =
    let few : c.in_ok-count.count ≤ c.self.inside.left = grind (arith, common_steps, c.in_ok-count.ensures.within) in
    rw (← c.self.view_is) (passes_here _ _ c.in_ok-count.count _ c.in_ok-count.ensures.ok c.in_ok-count.ensures.none (omega (arith, few)) (omega (arith, ap length c.bytes-held.ensures)))
