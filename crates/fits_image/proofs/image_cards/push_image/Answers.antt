use Rattle.fits_image.proofs.ImageHeaderLemmas.{gcount_settable, image_pushed, pcount_settable}
use Rattle.fits_image.proofs.image_cards.push_image.Goals as goal

-- each part is pushed after those before it
pub returns : goal.returns
returns c =
    image_pushed c.args.kind c.args.axes.now c.args.cards.now.items c.push_type.new.cards.items c.push_shape.new.cards.items c.push_number.new.cards.items c.push_number-2.new.cards.items c.push_offset.new.cards.items
    c.in_ok-push_type.ensures c.in_ok-push_shape.ensures c.in_ok-push_number.ensures c.in_ok-push_number-2.ensures c.in_ok-push_offset.ensures

pub push_number-requires : goal.push_number-requires
push_number-requires c = record { settable = pcount_settable }

pub push_number-requires-2 : goal.push_number-requires-2
push_number-requires-2 c = record { settable = gcount_settable }
