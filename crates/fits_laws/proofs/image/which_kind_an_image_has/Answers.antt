use Rattle.fits_laws.proofs.KindLemmas.{kind_is, kind_is_none}
use Rattle.fits_laws.proofs.image.which_kind_an_image_has.Goals as goal

pub returns-clause-kind : goal.returns-clause-kind
returns-clause-kind c = kind_is

pub returns-clause-none : goal.returns-clause-none
returns-clause-none c = kind_is_none
