use Rattle.std.proofs.Common.{◌≡◌, ◌≤◌, ◌+◌, ◌∙◌, Some, ap, length, refl, rules, subst, sym, true}
use Rattle.fits_card.specs.declared.change.Change.TheVariants.{Splice}
use Rattle.fits_rules.specs.declared.array_shape.Shape.{Shape}
use Rattle.fits_rules.proofs.LawLemmas.{shape_bounded}
use Rattle.fits_image.specs.ImageCards.{shape_cards}
use Rattle.fits_hdu.specs.Reshape.{can_reshape, reshaped_shape}
use Rattle.fits_hdu.specs.Reshaping.{scaling_for}
use Rattle.fits_hdu.proofs.PlanLemmas.{may_be, no_axes, not_described, scaled_otherwise, told_same}
use Rattle.fits_hdu.proofs.reshaping.plan.Goals as goal
use Rattle.fits_hdu.proofs.reshaping.plan.Goals.{then-not-are_axes-via-then-not-are_axes, then-not-are_axes-via-else-not-are_axes+then-scales_otherwise}

-- the axes can't be such, or the cards scale otherwise
pub returns-then-not-are_axes-clause-err : goal.returns-then-not-are_axes-clause-err
returns-then-not-are_axes-clause-err c =
    let h = c.args.header.now in (
      c.in-Some.old,
      sym c.in-Some.ensures.value,
      elim c.then-not-are_axes.branch [
        | then-not-are_axes-via-then-not-are_axes w ↦ no_axes c.in-Some.old c.args.kind c.args.axes.now h.shape h.header.cards (search rules)
        | then-not-are_axes-via-else-not-are_axes+then-scales_otherwise w ↦ scaled_otherwise c.in-Some.old c.args.kind c.args.axes.now h.shape h.header.cards (search rules)
      ],
    )

-- a header describes few axes
pub planned-requires-clause-few : goal.planned-requires-clause-few
planned-requires-clause-few c = subst (λ (s : Shape). length s.axes ≤ 999) (sym c.shape.ensures.value) (shape_bounded _ _ _ c.shape.ensures.described).count

-- the cards don't describe what is asked for
pub returns-then-not-is_described-clause-err : goal.returns-then-not-is_described-clause-err
returns-then-not-is_described-clause-err c =
    let h = c.args.header.now in
    let old = c.in-Some.old in
    let p = c.in_ok-plan.ensures in
    let header = c.scales_otherwise.ensures.work.header ∙ c.array_kind.ensures.work.header in
    let shape = c.scales_otherwise.ensures.work.shape ∙ c.array_kind.ensures.work.shape in
    let same = told_same c.args.axes.now old c.in_ok-plan.plan.old c.args.kind c.in_ok-plan.plan.kind h.shape _ h.header _ p.from p.to shape header in
    (old, sym c.in-Some.ensures.value, not_described old c.args.kind c.args.axes.now h.shape h.header.cards (sym (c.is_described.ensures.value ∙ same) ∙ c.if-not-is_described.true))

-- they do
pub returns-clause-ok : goal.returns-clause-ok
returns-clause-ok c =
    let h = c.args.header.now in
    let old = c.in-Some.old in
    let p = c.in_ok-plan.ensures in
    let header = c.scales_otherwise.ensures.work.header ∙ c.array_kind.ensures.work.header in
    let shape = c.scales_otherwise.ensures.work.shape ∙ c.array_kind.ensures.work.shape in
    let same = told_same c.args.axes.now old c.in_ok-plan.plan.old c.args.kind c.in_ok-plan.plan.kind h.shape _ h.header _ p.from p.to shape header in
    let can = may_be old c.args.kind c.args.axes.now h.shape h.header.cards (search rules) (search rules) (sym (c.is_described.ensures.value ∙ same) ∙ c.if-not-is_described.false) in
    record {
      array = sym c.in-Some.ensures.value ∙ ap Some (sym p.from);
      can = subst (λ o. can_reshape o c.args.kind c.args.axes.now h.shape h.header.cards ≡ true) (sym p.from) can;
      planned = record {
        from = refl;
        to = p.to;
        change = p.change ∙ ap (λ (s : Shape). Splice 2 (2 + length s.axes) (shape_cards c.args.kind c.args.axes.now)) (c.shape.ensures.value ∙ shape);
        after = p.after ∙ ap (reshaped_shape c.args.kind c.args.axes.now) (c.shape.ensures.value ∙ shape);
        scaling = p.scaling ∙ ap (λ o. scaling_for o c.args.kind) (sym p.from);
      };
    }
