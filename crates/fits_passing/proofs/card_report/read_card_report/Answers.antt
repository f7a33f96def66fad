use Rattle.fits_passing.proofs.CardReportLemmas.{card_reported}
use Rattle.fits_passing.proofs.card_report.read_card_report.Goals as goal

pub returns-clause-ok : goal.returns-clause-ok
returns-clause-ok g c =
    card_reported (g.R.Source.state c.args.source.now) _ c.in_ok-kept.kept.items c.in_ok-kept.followed c.in_ok-found.found.items c.in_ok-found.cards.items c.in_ok-problems.problems.items c.in_ok-kept.ensures.ok c.in_ok-found.ensures.found c.in_ok-found.ensures.cards
    (rw c.deref.ensures.value at c.in_ok-problems.ensures)
