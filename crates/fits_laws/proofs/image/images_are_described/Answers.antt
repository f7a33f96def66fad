use Rattle.fits_image.proofs.ImageCardLemmas.{described}
use Rattle.fits_laws.proofs.ImageKindLemmas.{new_has_kind}
use Rattle.fits_laws.proofs.image.images_are_described.Goals as goal

pub returns-clause-shape : goal.returns-clause-shape
returns-clause-shape c = described

pub returns-clause-kind : goal.returns-clause-kind
returns-clause-kind c = new_has_kind
