use Rattle.std.proofs.Common.{rules}
use Rattle.fits_session.proofs.LoadedLemmas.{same_stays}
use Rattle.fits_session.proofs.session.Session.load_for.Goals as goal

-- Said, so that a body that breaks it is refused at once.
pub returns-in-Hdu-default-Pixels-clause-ready : goal.returns-in-Hdu-default-Pixels-clause-ready
returns-in-Hdu-default-Pixels-clause-ready g c = search rules

-- what fails there leaves all as it was
pub returns-in-Hdu-default-Reshape-clause-same : goal.returns-in-Hdu-default-Reshape-clause-same
returns-in-Hdu-default-Reshape-clause-same g c told all = same_stays c.load_array.result told c.args.self.now c.load_array.new.self (c.load_array.ensures.same told all) c.load_array.ensures.err

pub returns-in-Hdu-default-Stamp-clause-same : goal.returns-in-Hdu-default-Stamp-clause-same
returns-in-Hdu-default-Stamp-clause-same g c told all = same_stays c.know.result told c.args.self.now c.know.new.self (c.know.ensures.same told all) c.know.ensures.err
