use Rattle.std.proofs.Common.{rules}
use Rattle.std.proofs.lemmas.Result.{err_from_is_err_and}
use Rattle.fits_making.specs.CardEdit.{set_of}
use Rattle.fits_making.proofs.KeywordLemmas.{not_written}
use Rattle.fits_making.proofs.changes.set_keyword.Goals as goal

pub returns-in_err-cards-clause-err : goal.returns-in_err-cards-clause-err
returns-in_err-cards-clause-err c =
    let p = err_from_is_err_and c.from_residual.result c.from_residual.ensures.1 in
    rw (p.1, p.2) (not_written c.args.hdu.now.header.header.cards c.args.name.now c.args.value.now c.args.comment.now c.in_err-cards.field-0.0
    (search rules) (λ bad. c.in_err-cards.ensures.bad (cc)) (λ none. let same = c.in_err-cards.ensures.firm none in cc))

-- Said, so that a body that breaks it is refused at once.
pub returns-then-not-is_settable-clause-work : goal.returns-then-not-is_settable-clause-work
returns-then-not-is_settable-clause-work c = search rules

pub returns-in_err-cards-clause-work : goal.returns-in_err-cards-clause-work
returns-in_err-cards-clause-work c = search rules

pub returns-clause-work : goal.returns-clause-work
unfolding set_of
returns-clause-work c = search rules
