use Rattle.std.proofs.Common.{ap, arith, length}
use Rattle.fits_card.specs.Header.{Header}
use Rattle.fits_passing.proofs.ReadingLemmas.{stops_by_header, stops_by_shape, stops_far}
use Rattle.fits_passing.proofs.described.read_described.Goals as goal

pub returns-in-Err-shape-clause-err : goal.returns-in-Err-shape-clause-err
returns-in-Err-shape-clause-err g c = rw c.from-in-Err-shape.ensures
    (stops_by_shape _ _ _ c.in-Ok.cards.header c.in-Err-shape.fault c.in-Ok.ensures.ok c.in-Ok.ensures.whole c.in-Err-shape.ensures.bad)

pub returns-in-Err-clause-err : goal.returns-in-Err-clause-err
returns-in-Err-clause-err g c = rw c.from.ensures (stops_by_header _ _ _ c.in-Err.fault c.in-Err.ensures.err)

pub returns-in-Err-unit_len-clause-err : goal.returns-in-Err-unit_len-clause-err
returns-in-Err-unit_len-clause-err g c = rw c.from-in-Err-unit_len.ensures
    (stops_far _ _ _ c.in-Ok.cards.header c.in-Ok-shape.shape c.in-Err-unit_len.fault c.in-Ok.ensures.ok c.in-Ok.ensures.whole c.in-Ok-shape.ensures.ok (rw c.left.ensures at c.in-Err-unit_len.ensures.short) c.in-Err-unit_len.ensures.fault)

pub returns-in-Ok-unit_len-clause-taken : goal.returns-in-Ok-unit_len-clause-taken
returns-in-Ok-unit_len-clause-taken g c = rw c.shape.ensures.work.header c.in-Ok.ensures.ok

pub returns-in-Ok-unit_len-clause-whole : goal.returns-in-Ok-unit_len-clause-whole
returns-in-Ok-unit_len-clause-whole g c = rw c.shape.ensures.work.header c.in-Ok.ensures.whole

pub returns-in-Ok-unit_len-clause-described : goal.returns-in-Ok-unit_len-clause-described
returns-in-Ok-unit_len-clause-described g c = rw c.shape.ensures.work.header c.in-Ok-shape.ensures.ok

pub returns-in-Ok-unit_len-clause-work : goal.returns-in-Ok-unit_len-clause-work
returns-in-Ok-unit_len-clause-work g c = omega (arith, c.in-Ok.ensures.unread, c.shape.ensures.work.most, ap (λ (header : Header). length header.cards) c.shape.ensures.work.header)

pub returns-in-Ok-unit_len-clause-room : goal.returns-in-Ok-unit_len-clause-room
returns-in-Ok-unit_len-clause-room g c = rw c.left.ensures at c.in-Ok-unit_len.ensures.within
