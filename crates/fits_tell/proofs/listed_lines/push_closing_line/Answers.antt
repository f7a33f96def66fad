use Rattle.fits_tell.proofs.ListedLemmas.{others_warn}
use Rattle.fits_tell.proofs.listed_lines.push_closing_line.Goals as goal

pub returns : goal.returns
returns c = rw (others_warn c.args.report.now _ c.count_errors-errors.ensures.value, c.count_errors-errors.ensures.value) at c.push_counts.ensures
