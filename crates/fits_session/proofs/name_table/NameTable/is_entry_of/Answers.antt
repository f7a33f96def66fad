use Rattle.std.proofs.Common.{sym, ◌∙◌}
use Rattle.fits_session.proofs.TableLemmas.{same_entry, told_entry}
use Rattle.fits_session.proofs.name_table.NameTable.is_entry_of.Goals as goal

pub returns-in-Some-clause-same : goal.returns-in-Some-clause-same
returns-in-Some-clause-same c same was points =
    c.in-Some-Some.is-1 ∙ same_entry c.args.self.now.numbers.items c.args.entry c.in-Some-Some.place c.in-Some.it.now c.in-Some-Some.name was c.in-Some-Some.is-0 (rw c.deref.ensures.value at c.in-Some.ensures.lookup.1) (sym c.is_same.ensures ∙ same) points

pub returns-in-Some-clause-told : goal.returns-in-Some-clause-told
returns-in-Some-clause-told c points =
    c.is_same.ensures ∙ told_entry c.args.self.now.numbers.items c.args.entry c.in-Some-Some.place c.in-Some.it.now c.in-Some-Some.name c.args.name.now c.in-Some-Some.is-0 c.in-Some-Some.is-1 (rw c.deref.ensures.value at c.in-Some.ensures.lookup.1) points
