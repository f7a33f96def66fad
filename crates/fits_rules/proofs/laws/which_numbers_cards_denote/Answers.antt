use Rattle.fits_rules.proofs.DenotesLemmas.{card_number, lead_number}
use Rattle.fits_rules.proofs.laws.which_numbers_cards_denote.Goals as goal

pub returns-clause-card : goal.returns-clause-card
returns-clause-card c = card_number

pub returns-clause-lead : goal.returns-clause-lead
returns-clause-lead c = lead_number
