use Rattle.std.proofs.Common.{◌++◌, length, ap}
use Rattle.std.proofs.lemmas.List.{drop-replicate}
use Rattle.fits_card.proofs.card.Card.padded.Goals as goal

-- what stands after the text are the spaces that were there before
pub returns : goal.returns
returns c = rw (c.copy_from_slice.ensures.after, c.split_at_mut-front.ensures.back) (ap (λ spaces. c.args.text.now ++ spaces) (drop-replicate (length c.args.text.now) 80 32))
