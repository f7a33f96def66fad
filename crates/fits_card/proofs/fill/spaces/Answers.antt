use Rattle.std.proofs.lemmas.List.{take-replicate}
use Rattle.fits_card.proofs.fill.spaces.Goals as goal

pub returns : goal.returns
returns c = take-replicate c.args.count 2800 32 c.requires
