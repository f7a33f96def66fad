use Rattle.fits_image.proofs.ImageHeaderLemmas.{image_inner}
use Rattle.fits_image.proofs.image_cards.image_header.Goals as goal

-- the cards of an image don't end a header
pub new-requires : goal.new-requires
new-requires c = image_inner c.args.kind c.args.axes.now _ c.requires.axes c.in_ok-cards.ensures
