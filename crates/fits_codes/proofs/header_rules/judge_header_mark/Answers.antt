use Rattle.fits_codes.specs.HeaderCodes.{has_header_code, header_codes, header_judged}
use Rattle.fits_codes.proofs.SetLemmas.{found-none, found-more, found-all}
use Rattle.fits_codes.proofs.header_rules.judge_header_mark.Goals as goal

pub returns : goal.returns
unfolding has_header_code header_judged
returns c = found-all (has_header_code c.args.mark.now c.args.shape.now) header_codes _ (search (found-none, found-more, c.is_outside.ensures, c.image_bits.ensures) depth 40 fits 100000)
