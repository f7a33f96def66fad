use Rattle.std.proofs.Common.{◌≡◌, ◌∙◌, rules, sym, inl, true}
use Rattle.std.proofs.lemmas.Result.{err_from_is_err_and}
use Rattle.fits_session.specs.Session.{marked_of}
use Rattle.fits_session.proofs.GuardLemmas.{broken_edit, lacks_fails, looks_none}
use Rattle.fits_session.proofs.session.Session.test_columns.Goals as goal

pub returns-then-not-tables-clause-looks : goal.returns-then-not-tables-clause-looks
returns-then-not-tables-clause-looks g c = looks_none c.args.edit.now _

-- memory ran out
pub returns-in_err-keeps_columns-clause-err : goal.returns-in_err-keeps_columns-clause-err
returns-in_err-keeps_columns-clause-err g c =
    let p = err_from_is_err_and c.from_residual.result c.from_residual.ensures.1 in
    let on : c.args.tables ≡ true = search rules in
    rw (p.1, p.2, on) (lacks_fails (marked_of c.args.self.now) c.args.edit.now c.in_err-keeps_columns.ensures.err)

-- other columns would be left
pub returns-else-branch-clause-err : goal.returns-else-branch-clause-err
returns-else-branch-clause-err g c =
    let on : c.args.tables ≡ true = search rules in
    rw on (inl (broken_edit (marked_of c.args.self.now) c.args.edit.now (sym c.in_ok-keeps_columns.ensures.ok ∙ c.if-branch.false)))
