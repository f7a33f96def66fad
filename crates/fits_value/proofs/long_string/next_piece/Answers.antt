use Rattle.std.proofs.Common.{arith, sym, drop}
use Rattle.fits_value.proofs.ChainingLemmas.{next_link-end, next_link-closed}
use Rattle.fits_value.proofs.long_string.next_piece.Goals as goal
use Rattle.fits_value.proofs.long_string.next_piece.Goals.{then-place-len-via-then-place-len, then-place-len-via-else-place-len+then-not-is_open}

pub returns-then-place-len-clause-value : goal.returns-then-place-len-clause-value
returns-then-place-len-clause-value c =
    sym (elim c.then-place-len.branch [
      | then-place-len-via-then-place-len w ↦ next_link-end c.args.piece.now c.args.place c.args.cards.now.header.cards (omega (arith, w.if-place-len.true, c.len.ensures.value))
      | then-place-len-via-else-place-len+then-not-is_open w ↦ next_link-closed c.args.piece.now (drop c.args.place c.args.cards.now.header.cards) w.is_open.result w.is_open.ensures w.if-not-is_open.true
    ])
