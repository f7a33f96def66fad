use Rattle.std.proofs.Common.{◌≡◌, ℕ, Err, ap, ◌∙◌}
use Rattle.std.proofs.lemmas.Result.{err_from_is_err_and}
use Rattle.fits_card.specs.Header.{Header}
use Rattle.fits_rules.specs.Shape.{shape_of}
use Rattle.fits_rules.specs.ShapeSteps.{shape_read, written}
use Rattle.fits_rules.specs.declared.shape_reading.ShapeReading.{ShapeReading}
use Rattle.fits_rules.proofs.PartLemmas.{no_front, reads_on, stops_on, written_ok, written_err}
use Rattle.fits_rules.proofs.mandatory.read_mandatory.Goals as goal

pub returns-in_err-front-clause-err : goal.returns-in_err-front-clause-err
returns-in_err-front-clause-err c =
    let one = ap (λ (h : Header). h.cards) c.find-leads.ensures.work.header in
    let failed = err_from_is_err_and c.from_residual.result c.from_residual.ensures.1 in
    rw (failed.1, failed.2) (no_front c.args.primary c.args.cards.now.header.cards _ (rw one at c.in_err-front.ensures.value))

pub returns-clause-ok : goal.returns-clause-ok
returns-clause-ok c =
    let one = ap (λ (h : Header). h.cards) c.find-leads.ensures.work.header in
    let two = ap (λ (h : Header). h.cards) c.read_front.ensures.work.header ∙ one in
    written_ok c.read_shape.result c.read_shape.new.reading (λ (reading : ShapeReading). shape_of c.args.primary c.args.cards.now.header.cards ≡ shape_read c.args.cards.now.header.cards reading)
    (reads_on c.args.primary c.args.cards.now.header.cards c.find-leads.result c.in_ok-front.front (written c.read_shape.result c.read_shape.new.reading)
    c.find-leads.ensures.value (rw one at c.in_ok-front.ensures.value) (rw two at c.read_shape.ensures.value))

pub returns-clause-err : goal.returns-clause-err
returns-clause-err c =
    let one = ap (λ (h : Header). h.cards) c.find-leads.ensures.work.header in
    let two = ap (λ (h : Header). h.cards) c.read_front.ensures.work.header ∙ one in
    written_err c.read_shape.result c.read_shape.new.reading (λ (place : ℕ). shape_of c.args.primary c.args.cards.now.header.cards ≡ Err place)
    (stops_on c.args.primary c.args.cards.now.header.cards c.find-leads.result c.in_ok-front.front (written c.read_shape.result c.read_shape.new.reading)
    c.find-leads.ensures.value (rw one at c.in_ok-front.ensures.value) (rw two at c.read_shape.ensures.value))
