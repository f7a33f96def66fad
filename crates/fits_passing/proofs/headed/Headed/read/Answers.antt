use Rattle.std.proofs.Common.{◌≡◌, ap}
use Rattle.std.specs.Prelude.{Err}
use Rattle.fits_card.specs.Header.{Header}
use Rattle.fits_stream.proofs.SightLemmas.{takes_then_fails}
use Rattle.fits_passing.proofs.HeadedLemmas.{head_broken, head_cut, head_far, head_stops, whole_comes}
use Rattle.fits_passing.proofs.ReadingLemmas.{hdu_comes}
use Rattle.fits_passing.proofs.headed.Headed.read.Goals as goal

-- the cards break a rule
pub returns-in-Err-Bad-clause-ok : goal.returns-in-Err-Bad-clause-ok
returns-in-Err-Bad-clause-ok g c =
    let head = whole_comes _ _ c.in-Ok-Whole.field-0 c.in-Ok-Whole.cards c.in-Ok-Whole.ensures.ok c.in-Ok-Whole.field-0-is in
    head_broken c.args.primary _ _ c.in-Ok-Whole.cards.header c.shape.new.cards.header.cards c.in-Err-Bad.place head.0 head.1 (c.in-Err-Bad.ensures.bad c.in-Err-Bad.place (ap Err c.in-Err-Bad.field-0-is)) (ap (λ (h : Header). h.cards) c.shape.ensures.work.header)

-- the data unit is longer than what may be taken
pub returns-in-Err-unit_len-clause-ok : goal.returns-in-Err-unit_len-clause-ok
returns-in-Err-unit_len-clause-ok g c =
    let head = whole_comes _ _ c.in-Ok-Whole.field-0 c.in-Ok-Whole.cards c.in-Ok-Whole.ensures.ok c.in-Ok-Whole.field-0-is in
    head_far c.args.primary _ _ c.in-Ok-Whole.cards.header c.shape.new.cards.header.cards c.in-Ok.shape c.in-Err-unit_len.why head.0 head.1 c.in-Ok.ensures.ok (rw c.left.ensures at c.in-Err-unit_len.ensures.short) (ap (λ (h : Header). h.cards) c.shape.ensures.work.header) c.in-Err-unit_len.ensures.fault

-- it was skipped
pub returns-in-Ok-skip_unit-clause-ok : goal.returns-in-Ok-skip_unit-clause-ok
returns-in-Ok-skip_unit-clause-ok g c =
    let head = whole_comes _ _ c.in-Ok-Whole.field-0 c.in-Ok-Whole.cards c.in-Ok-Whole.ensures.ok c.in-Ok-Whole.field-0-is in
    let unit = c.in-Ok-skip_unit.ensures.ok in
    hdu_comes (λ hdu. c.shape.new.cards.header.cards ≡ hdu.header.cards) _ _ _ _ c.in-Ok-unit_len.unit_len c.in-Ok-Whole.cards.header c.in-Ok.shape unit.bytes head.0 head.1 c.in-Ok.ensures.ok c.in-Ok-unit_len.ensures.ok unit.taken unit.size (ap (λ (h : Header). h.cards) c.shape.ensures.work.header)

-- or wasn't there
pub returns-in-Err-Hdu-clause-ok : goal.returns-in-Err-Hdu-clause-ok
returns-in-Err-Hdu-clause-ok g c =
    let head = whole_comes _ _ c.in-Ok-Whole.field-0 c.in-Ok-Whole.cards c.in-Ok-Whole.ensures.ok c.in-Ok-Whole.field-0-is in
    head_stops c.args.primary _ _ _ c.in-Ok-unit_len.unit_len c.in-Ok-Whole.cards.header c.shape.new.cards.header.cards c.in-Ok.shape c.in-Err-Hdu.why head.0 head.1 c.in-Ok.ensures.ok c.in-Ok-unit_len.ensures.ok
    (rw c.in-Err-Hdu.field-0-is at c.in-Err-Hdu.ensures.err) (ap (λ (h : Header). h.cards) c.shape.ensures.work.header)

-- a call failed
pub returns-in-Err-Failed-clause-err : goal.returns-in-Err-Failed-clause-err
returns-in-Err-Failed-clause-err g c =
    let head = whole_comes _ _ c.in-Ok-Whole.field-0 c.in-Ok-Whole.cards c.in-Ok-Whole.ensures.ok c.in-Ok-Whole.field-0-is in
    takes_then_fails _ _ _ _ head.0 (rw c.in-Err-Failed.field-0-is at c.in-Err-Failed.ensures.err)

-- the header doesn't end
pub returns-in-Ok-Cut-clause-ok : goal.returns-in-Ok-Cut-clause-ok
returns-in-Ok-Cut-clause-ok g c =
    head_cut c.args.primary _ _ c.in-Ok-Cut.cards.items c.in_ok-cards-in-Ok-Cut.cards.header.cards (rw c.in-Ok-Cut.field-0-is at c.in-Ok-Cut.ensures.ok) (ap (λ (h : Header). h.cards) c.in_ok-cards-in-Ok-Cut.ensures.header)
