use Rattle.fits_codes.specs.Alone.{has_alone, alone_codes, codes_alone}
use Rattle.fits_codes.proofs.SetLemmas.{found-none, found-more, found-all}
use Rattle.fits_codes.proofs.alone.codes_alone.Goals as goal

pub returns : goal.returns
unfolding has_alone codes_alone
returns c = found-all (has_alone c.args.card.now) alone_codes _ (search (found-none, found-more, c.is_text.ensures.value, c.is_spelled.ensures, c.name.ensures, c.is_undefined.ensures, c.requires) depth 40 fits 100000)
