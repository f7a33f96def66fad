use Rattle.std.proofs.Common.{ℕ, arith}
use Rattle.fits_card.proofs.HeaderLemmas.{fill_length-by_cards}
use Rattle.fits_hdu.proofs.new_image.image_len.Goals as goal

pub overflow_add-len : goal.overflow_add-len
overflow_add-len c =
    let n : ℕ = c.card_count.result in
    omega (arith, c.header_len-header.ensures, fill_length-by_cards n, c.card_count.ensures.few, c.in-Ok.ensures.within, c.requires.small)
