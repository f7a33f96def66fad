use Rattle.std.proofs.Common.{◌≡◌, List, ℕ, subst}
use Rattle.std.specs.Prelude.{IfSome}
use Rattle.fits_value.specs.Written.{card_of, justified}
use Rattle.fits_value.proofs.write.value_card.Goals as goal

pub returns-in-Logical-clause-some : goal.returns-in-Logical-clause-some
returns-in-Logical-clause-some c =
    rw (c.in-Logical.is)
    (subst (λ (x : List ℕ). IfSome c.justified_card-in-Logical.result (λ card. card ≡ card_of c.args.lead.now (justified x) c.args.comment.now))
    c.logical.ensures c.justified_card-in-Logical.ensures.some)
