use Rattle.fits_passing.specs.Headers.{read_cards}
use Rattle.fits_tell.proofs.CardLemmas.{chosen_by_numbers, CardsStop-flush, CardsStop-text}
use Rattle.fits_tell.proofs.ExitLemmas.{at_exit}
use Rattle.fits_tell.proofs.cards.show_cards.Goals as goal

-- the lines aren't printed to their end
pub returns-in_err-any-clause-err : goal.returns-in_err-any-clause-err
returns-in_err-any-clause-err g c =
    let all = chosen_by_numbers c.args.choice.now (read_cards c.in-Ok.headers.headers.items) (read_cards c.numbers_asked.new.headers.items) c.deref-2.result.now _ c.in_ok-numbers.ensures.same c.deref-2.ensures.value (rw c.deref.ensures.value at c.in_ok-numbers.ensures.value) in
    at_exit _ _ _ c.from_residual-in_err-any.ensures.1
    (CardsStop-text c.args.choice.now _ _ _ _ _ _ c.in-Ok.headers.fault c.in_err-any.field-0.0 all c.in-Ok.ensures.ok c.in-Ok.ensures.quiet c.in_err-any.ensures.err)

pub returns-in_err-flush-clause-err : goal.returns-in_err-flush-clause-err
returns-in_err-flush-clause-err g c =
    let all = chosen_by_numbers c.args.choice.now (read_cards c.in-Ok.headers.headers.items) (read_cards c.numbers_asked.new.headers.items) c.deref-2.result.now _ c.in_ok-numbers.ensures.same c.deref-2.ensures.value (rw c.deref.ensures.value at c.in_ok-numbers.ensures.value) in
    at_exit _ _ _ c.from_residual-in_err-flush.ensures.1
    (CardsStop-flush c.args.choice.now _ _ _ _ _ _ _ c.in-Ok.headers.fault c.in_err-flush.field-0.0 all c.in-Ok.ensures.ok c.in-Ok.ensures.quiet c.in_ok-any.ensures.ok c.in_err-flush.ensures.err)
