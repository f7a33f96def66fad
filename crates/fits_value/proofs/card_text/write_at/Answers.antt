use Rattle.std.proofs.Common.{length, refl, sym}
use Rattle.fits_value.proofs.CardTextLemmas.{two_parts}
use Rattle.fits_value.proofs.card_text.write_at.Goals as goal

pub returns : goal.returns
returns c =
    rw (sym c.split_at_mut-free.ensures.front, sym c.copy_from_slice.ensures.after)
    (two_parts c.args.len (length c.copy_from_slice.new.self) c.split_at_mut-free.result.0.now c.copy_from_slice.new.self c.split_at_mut-place.result.1.now c.split_at_mut-free.ensures.front_len refl)
