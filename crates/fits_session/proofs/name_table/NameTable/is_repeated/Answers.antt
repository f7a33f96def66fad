use Rattle.std.proofs.Common.{◌≤◌, length, arith}
use Rattle.fits_session.proofs.TableLemmas.{points_nowhere, points_within, repeated_at}
use Rattle.fits_session.proofs.name_table.NameTable.is_repeated.Goals as goal
use Rattle.std.specs.Map.{keys_of}

pub returns-in-Some-get : goal.returns-in-Some-get
returns-in-Some-get c name names points p =
    repeated_at names c.args.self.now.numbers.items name c.args.entry c.in-Some.place c.in-Some-get.it.now p points c.in-Some.is (rw c.deref.ensures.value at c.in-Some-get.ensures.lookup.1)

pub returns-in-None-get : goal.returns-in-None-get
returns-in-None-get c name names points p =
    let far : length c.deref.result.now ≤ c.in-Some.place = search (arith, c.in-None-get.ensures.lookup.0) in
    points_within names c.args.self.now.numbers.items name c.args.entry c.in-Some.place points c.in-Some.is (rw c.deref.ensures.value at far)

pub returns-in-None : goal.returns-in-None
returns-in-None c name names points p = points_nowhere names (keys_of c.args.self.now.numbers.items) name c.args.entry points c.in-None.is
