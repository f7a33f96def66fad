use Rattle.std.proofs.Common.{◌-◌, refl, arith}
use Rattle.fits_session.proofs.TableLemmas.{enters_last, enters_there, number_read}
use Rattle.fits_passing.proofs.NameCountLemmas.{few_have}
use Rattle.fits_session.proofs.name_table.NameTable.enter.Goals as goal

pub overflow_add-it : goal.overflow_add-it
overflow_add-it c =
    let es = c.args.self.now.numbers.items in
    let it = c.index_mut-it.result.now in
    omega (arith, few_have es c.in-Some.name it.1 c.requires.few (number_read es c.in-Some-place_of.place it c.in-Some.name c.requires.few.table.once c.index_mut-it.ensures.value c.in-Some-place_of.ensures.some))

pub returns-in-Some-place_of-clause-entered : goal.returns-in-Some-place_of-clause-entered
returns-in-Some-place_of-clause-entered c =
    rw c.in-Some.is (enters_there c.args.self.now.numbers.items c.in-Some-place_of.place c.index_mut-it.result.now c.in-Some.name c.index_mut-it.ensures.value c.in-Some-place_of.ensures.some)

pub returns-clause-entered : goal.returns-clause-entered
returns-clause-entered c =
    rw (c.in-Some.is, c.in-Ok.ensures.items) (enters_last c.args.self.now.numbers.items (c.len.result - 1) c.in-Some.name (c.in_default-place_of.ensures.none refl) (omega (arith, c.len.ensures, c.in-Ok.ensures.len, c.args.self.now.numbers.ok.0)))
