use Rattle.std.proofs.Common.{rules, ◌≡◌, ◌++◌, length, sym, subst}
use Rattle.fits_redo.specs.Plan.{IsPlanOf}
use Rattle.fits_redo.proofs.PlanLemmas.{passes_on, passes_by}
use Rattle.fits_redo.proofs.plan.Plan.pass.Goals as goal

pub returns-then-eq-clause-plan : goal.returns-then-eq-clause-plan
returns-then-eq-clause-plan c before after here there plan =
    passes_by before after c.args.old.now c.args.new.now c.args.self.now.blocks.items (search rules) plan

pub returns-clause-plan : goal.returns-clause-plan
returns-clause-plan c before after here there plan =
    let long : length c.args.old.now ≡ 2880 = search rules in
    let new_long : length c.args.new.now ≡ 2880 = search rules in
    subst (λ l. IsPlanOf (before ++ c.args.old.now) (after ++ c.args.new.now) l) (sym c.in_ok-push.ensures.items)
    (passes_on before after c.args.old.now c.args.new.now c.args.self.now.blocks.items c.args.index here there long new_long plan)
