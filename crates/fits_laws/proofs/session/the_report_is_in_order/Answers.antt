use Rattle.fits_session.proofs.OrderLemmas.{in_order}
use Rattle.fits_laws.proofs.session.the_report_is_in_order.Goals as goal

pub returns : goal.returns
returns c = in_order
