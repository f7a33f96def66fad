use Rattle.std.proofs.Common.{List, ap, sym, subst, ◌∙◌}
use Rattle.fits_hdu.specs.State.{HduState}
use Rattle.fits_session.specs.NameTable.{names_of, Stands}
use Rattle.fits_session.specs.Session.{without_entries}
use Rattle.fits_session.proofs.KeptLemmas.{unentered_mended}
use Rattle.fits_session.proofs.StandingLemmas.{kept_stand, leaves_name, mended_stand}
use Rattle.fits_session.proofs.session.naming.leave.Goals as goal

pub leave-requires : goal.leave-requires
leave-requires c =
    let it = leaves_name c.args.hdus.now.items c.args.table.now.numbers.items c.args.entry c.in-Some.place c.requires c.in-Some.is in
    record { name = it.name; names = names_of c.args.hdus.now.items; there = it.there; table = it.table }

pub returns-then-leave-clause-stands : goal.returns-then-leave-clause-stands
returns-then-leave-clause-stands c =
    let hdus = c.args.hdus.now.items in
    let es = c.args.table.now.numbers.items in
    let fs = c.leave.new.self.numbers.items in
    let it = leaves_name hdus es c.args.entry c.in-Some.place c.requires c.in-Some.is in
    subst (λ (us : List HduState). Stands us fs) (sym c.mend.ensures)
    (mended_stand hdus es fs c.in-Some.place (c.leave.ensures.told it.name (names_of hdus) it.there it.table) c.requires.placed (λ at other there found. rw c.if-leave.true at c.leave.ensures.others at other there found))

pub returns-then-leave-clause-hdus : goal.returns-then-leave-clause-hdus
returns-then-leave-clause-hdus c = ap without_entries c.mend.ensures ∙ unentered_mended c.in-Some.place c.args.hdus.now.items

pub returns-else-leave-clause-stands : goal.returns-else-leave-clause-stands
returns-else-leave-clause-stands c =
    let hdus = c.args.hdus.now.items in
    let es = c.args.table.now.numbers.items in
    let fs = c.leave.new.self.numbers.items in
    let it = leaves_name hdus es c.args.entry c.in-Some.place c.requires c.in-Some.is in
    kept_stand hdus es fs (c.leave.ensures.told it.name (names_of hdus) it.there it.table) c.requires.placed (λ at other there found. rw c.if-leave.false at c.leave.ensures.others at other there found)
