-- Said, so that a body that breaks it is refused at once.
use Rattle.std.proofs.Common.{◌≡◌, None, rules}
use Rattle.fits_hdu.specs.Keyword.{keyword_cards}
use Rattle.fits_making.proofs.KeywordLemmas.{nothing_read, unset_steps}
use Rattle.fits_making.proofs.changes.unset_keyword.Goals as goal

pub returns-in_default-clause-value : goal.returns-in_default-clause-value
returns-in_default-clause-value c = search (rules, unset_steps)

pub returns-in_default-clause-work : goal.returns-in_default-clause-work
returns-in_default-clause-work c =
    let none : None ≡ keyword_cards c.args.hdu.now.header.header.cards c.args.name.now = search rules in
    nothing_read _ _ c.args.name.now _ none c.keyword_cards.ensures.work
