use Rattle.fits_codes.specs.Judged.{has_code, card_codes, judged}
use Rattle.fits_codes.proofs.SetLemmas.{found-none, found-more, found-all}
use Rattle.fits_codes.proofs.judging.judge_each.Goals as goal

pub returns : goal.returns
unfolding has_code judged
returns c = found-all (has_code c.args.mark.now c.args.context.now) card_codes _ (search (found-none, found-more) depth 40 fits 100000)
