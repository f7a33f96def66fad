use Rattle.std.proofs.Common.{ap, ◌∙◌, filter}
use Rattle.fits_header.specs.Index.{is_named}
use Rattle.fits_header.proofs.LeadLemmas.{named_from_first}
use Rattle.fits_header.proofs.lookups.rest_of.Goals as goal

pub returns-clause-same : goal.returns-clause-same
returns-clause-same c = ap (filter (is_named c.args.name)) c.rest_from.ensures.same ∙ named_from_first c.args.name c.args.entries.now
