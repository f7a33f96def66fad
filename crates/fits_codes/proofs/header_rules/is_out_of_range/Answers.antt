-- Said, so that a body that breaks it is refused at once.
use Rattle.std.proofs.Common.{rules}
use Rattle.fits_codes.proofs.header_rules.is_out_of_range.Goals as goal

pub returns-in-Number : goal.returns-in-Number
returns-in-Number c = search rules
