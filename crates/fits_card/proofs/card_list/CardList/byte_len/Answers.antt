use Rattle.std.proofs.Common.{◌≤◌, length, arith}
use Rattle.fits_card.specs.Header.{header_bytes}
use Rattle.fits_card.proofs.HeaderLemmas.{length-header_bytes}
use Rattle.fits_card.proofs.card_list.CardList.byte_len.Goals as goal

pub overflow_mul-result : goal.overflow_mul-result
overflow_mul-result c =
    let limit : length (header_bytes c.args.self.now.header) ≤ 17179869184 = c.requires in
    omega (arith, length-header_bytes _ c.self.invariant.whole, rw (← c.self.view_is) at limit)

pub overflow_add-result-2 : goal.overflow_add-result-2
overflow_add-result-2 c =
    let limit : length (header_bytes c.args.self.now.header) ≤ 17179869184 = c.requires in
    omega (arith, length-header_bytes _ c.self.invariant.whole, rw (← c.self.view_is) at limit)

pub returns : goal.returns
returns c = rw (← c.self.view_is) (omega (arith, length-header_bytes _ c.self.invariant.whole))
