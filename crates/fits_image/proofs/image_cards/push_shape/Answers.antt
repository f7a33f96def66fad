use Rattle.std.proofs.Common.{rules}
use Rattle.fits_image.proofs.ImageHeaderLemmas.{bitpix_settable, few_axes, naxis_settable, shape_pushed}
use Rattle.fits_image.proofs.image_cards.push_shape.Goals as goal

-- each part is pushed after those before it
pub returns : goal.returns
returns c =
    shape_pushed c.args.kind c.args.axes.now c.args.cards.now.items c.push_number.new.cards.items c.push_number-2.new.cards.items c.push_axes.new.cards.items
    (search rules) (search rules) c.in_ok-push_axes.ensures

pub push_number-requires : goal.push_number-requires
push_number-requires c = record { settable = bitpix_settable }

pub push_number-requires-2 : goal.push_number-requires-2
push_number-requires-2 c = record { settable = naxis_settable }

pub push_axes-requires : goal.push_axes-requires
push_axes-requires c = few_axes c.args.axes.now c.requires
