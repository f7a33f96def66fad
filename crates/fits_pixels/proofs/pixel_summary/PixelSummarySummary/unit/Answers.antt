-- Said, so that a body that breaks it is refused at once.
use Rattle.std.proofs.Common.{rules}
use Rattle.fits_pixels.proofs.pixel_summary.PixelSummarySummary.unit.Goals as goal

pub returns : goal.returns
returns c = search rules
