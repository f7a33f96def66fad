use Rattle.fits_laws.proofs.FileKindLemmas.{kind_of_hdu}
use Rattle.fits_laws.proofs.session.which_kind_an_hdu_has.Goals as goal

pub returns : goal.returns
returns c = kind_of_hdu c.which_kind_an_image_has.ensures.kind
