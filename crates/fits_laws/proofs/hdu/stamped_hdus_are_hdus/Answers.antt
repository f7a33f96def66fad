use Rattle.fits_hdu.proofs.StampingLemmas.{stamp_count_most, stamped_is_hdu, stamped_shape, stamped_unit}
use Rattle.fits_laws.proofs.hdu.stamped_hdus_are_hdus.Goals as goal

pub returns-clause-hdu : goal.returns-clause-hdu
returns-clause-hdu c = stamped_is_hdu

pub returns-clause-shape : goal.returns-clause-shape
returns-clause-shape c = stamped_shape

pub returns-clause-unit : goal.returns-clause-unit
returns-clause-unit c = stamped_unit

pub returns-clause-count : goal.returns-clause-count
returns-clause-count c = stamp_count_most
