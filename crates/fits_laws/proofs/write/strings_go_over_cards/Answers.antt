use Rattle.fits_value.proofs.PieceLemmas.{string_end, string_more}
use Rattle.fits_laws.proofs.write.strings_go_over_cards.Goals as goal

pub returns-clause-last : goal.returns-clause-last
returns-clause-last c = string_end

pub returns-clause-more : goal.returns-clause-more
returns-clause-more c = string_more
