use Rattle.std.proofs.Common.{◌-◌, arith}
use Rattle.std.specs.Map.{keys_of}
use Rattle.std.proofs.lemmas.Map.Entries.{length-keys_of}
use Rattle.std.proofs.lemmas.Option.{slice_get_within}
use Rattle.fits_session.proofs.TableLemmas.{leaves_none, leaves_some, lent_same, others_none, others_some}
use Rattle.fits_session.proofs.name_table.NameTable.leave.Goals as goal

pub index_mut-it-requires : goal.index_mut-it-requires
index_mut-it-requires c = omega (arith, slice_get_within (keys_of c.args.self.now.numbers.items) c.args.place c.requires.name c.requires.there, length-keys_of c.args.self.now.numbers.items, c.args.self.now.numbers.ok.0)

pub returns-then-it-gt1-clause-told : goal.returns-then-it-gt1-clause-told
returns-then-it-gt1-clause-told c name names there p =
    leaves_some c.args.self.now.numbers.items c.args.place c.index_mut-it.result.now name names c.index_mut-it.ensures.value c.if-it-gt1.true there p

pub returns-then-it-gt1-clause-others : goal.returns-then-it-gt1-clause-others
returns-then-it-gt1-clause-others c at other stands found =
    others_some c.args.self.now.numbers.items c.args.place (c.index_mut-it.result.now.1 - 1) c.index_mut-it.result.now c.requires.name at other c.index_mut-it.ensures.value c.requires.there stands

pub remove-requires : goal.remove-requires
remove-requires c = omega (arith, slice_get_within (keys_of c.args.self.now.numbers.items) c.args.place c.requires.name c.requires.there, length-keys_of c.args.self.now.numbers.items, c.args.self.now.numbers.ok.0)

pub returns-clause-told : goal.returns-clause-told
returns-clause-told c name names there p =
    rw (c.remove.ensures.items, lent_same c.args.self.now.numbers.items c.args.place c.index_mut-it.result.now c.index_mut-it.ensures.value) (leaves_none c.args.self.now.numbers.items c.args.place c.index_mut-it.result.now name names c.index_mut-it.ensures.value c.if-it-gt1.false there p)

pub returns-clause-others : goal.returns-clause-others
returns-clause-others c at other stands found =
    rw (c.remove.ensures.items, lent_same c.args.self.now.numbers.items c.args.place c.index_mut-it.result.now c.index_mut-it.ensures.value) (others_none c.args.self.now.numbers.items c.args.place c.requires.name at other c.requires.table.once c.requires.there stands (rw (c.remove.ensures.items, lent_same c.args.self.now.numbers.items c.args.place c.index_mut-it.result.now c.index_mut-it.ensures.value) at found))
