-- Said, so that a body that breaks it is refused at once.
use Rattle.std.proofs.Common.{rules}
use Rattle.fits_script.specs.Line.{reading_of}
use Rattle.fits_script.proofs.line.read_line.Goals as goal

pub returns-then-line-gt-LINE_LIMIT-clause-ok : goal.returns-then-line-gt-LINE_LIMIT-clause-ok
unfolding reading_of
returns-then-line-gt-LINE_LIMIT-clause-ok c = search rules
