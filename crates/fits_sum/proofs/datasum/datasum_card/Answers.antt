use Rattle.std.proofs.Common.{◌≡◌, ◌∙◌, ap, arith, drop, length, sym}
use Rattle.fits_sum.proofs.DatasumLemmas.{datasum_bytes}
use Rattle.fits_sum.proofs.datasum.datasum_card.Goals as goal

pub returns : goal.returns
returns c =
    let digits = c.as_bytes-digits.ensures.value ∙ c.format.ensures.text in
    let written = c.copy_from_slice-2.ensures.after ∙ digits in
    let size : length c.copy_from_slice-2.new.self ≡ length c.as_bytes-digits.result.now = ap length c.copy_from_slice-2.ensures.after in
    datasum_bytes c.args.sum c.copy_from_slice.new.self c.copy_from_slice-2.new.self c.split_at_mut-front.result.1.now c.split_at_mut-text.result.1.now c.split_at_mut-rest.result.0.now c.split_at_mut-rest.result.1.now c.fill_len.result
    c.copy_from_slice.ensures.after written (omega (arith, size, c.as_bytes-digits.ensures.len, c.format.ensures.short)) (omega (arith, size, c.fill_len.ensures))
    c.split_at_mut-front.ensures.back (c.split_at_mut-text.ensures.back ∙ ap (λ n. drop n c.split_at_mut-front.result.1.now) (sym size)) c.split_at_mut-rest.ensures.front c.split_at_mut-rest.ensures.back
