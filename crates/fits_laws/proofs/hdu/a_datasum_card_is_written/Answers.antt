use Rattle.fits_hdu.proofs.StampingLemmas.{datasum_is_written}
use Rattle.fits_laws.proofs.hdu.a_datasum_card_is_written.Goals as goal

pub returns : goal.returns
returns c = datasum_is_written
