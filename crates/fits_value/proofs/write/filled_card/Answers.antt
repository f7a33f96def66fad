use Rattle.std.proofs.Common.{◌≡◌, List, ℕ, subst}
use Rattle.std.specs.Prelude.{IfSome}
use Rattle.fits_value.proofs.WriteLemmas.{filled_is}
use Rattle.fits_value.specs.Written.{card_of, quoted}
use Rattle.fits_value.proofs.write.filled_card.Goals as goal

pub returns-clause-some : goal.returns-clause-some
returns-clause-some c =
    subst (λ (x : List ℕ). IfSome c.string_card.result (λ card. card ≡ card_of c.args.lead.now (quoted x) c.args.comment.now))
    (filled_is c.args.characters.now c.filling.result.now c.doubled_len.result c.doubled_len.ensures c.filling.ensures)
    c.string_card.ensures.some
