use Rattle.std.proofs.Common.{◌∙◌, ap, length, sym}
use Rattle.fits_hdu.proofs.StampingLemmas.{checksum_bytes}
use Rattle.fits_hdu.proofs.hdu.stamping.checksum_card.Goals as goal

pub returns : goal.returns
returns c =
    checksum_bytes c.args.text.now c.copy_from_slice.new.self c.copy_from_slice-2.new.self c.split_at_mut-front.result.1.now c.split_at_mut-characters.result.1.now c.copy_from_slice.ensures.after c.copy_from_slice-2.ensures.after (sym (ap length c.copy_from_slice-2.ensures.after) ∙ (c.copy_from_slice-2.ensures.len ∙ c.split_at_mut-characters.ensures.front_len))
    c.split_at_mut-front.ensures.back c.split_at_mut-characters.ensures.back
