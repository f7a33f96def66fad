use Rattle.std.proofs.Common.{◌≡◌, Some, refl, ap, ◌∙◌, inr, rules}
use Rattle.fits_c.proofs.given.give.Goals as goal

pub returns : goal.returns
returns c =
    let other : c.args.outcome.status ≡ 3 → ⊥ = search rules in inr (
      c.args.outcome,
      refl,
      other,
      record {
        held = c.of.ensures ∙ ap Some c.in-Ok.ensures.ok;
        answers = c.of-answers.ensures;
        saved = c.of-saved.ensures;
        message = c.of-message.ensures;
      },
      refl,
    )
