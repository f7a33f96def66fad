use Rattle.std.proofs.Common.{◌≡◌, ℕ, ◌+◌, ◌<◌, Ok, length, ap, sym, subst, ◌∙◌}
use Rattle.fits_session.specs.Marked.{Marked}
use Rattle.fits_session.specs.Query.{table_codes_in}
use Rattle.fits_session.specs.Session.{file_of}
use Rattle.fits_cli.specs.NewTables.{judged_count}
use Rattle.fits_extended.proofs.StillLemmas.{still_more}
use Rattle.fits_cli.proofs.TableProblemLemmas.{all_problems, judged_within, next_problems}
use Rattle.fits_cli.proofs.table_problems.table_problems.Goals as goal

-- an HDU that is judged is there
pub codes_at-requires-clause-there : goal.codes_at-requires-clause-there
codes_at-requires-clause-there g c =
    subst (λ (n : ℕ). c.loop-i.i < n) (c.hdus.ensures ∙ sym (ap (λ (it : Marked). length it.file.hdus) c.loop-i.invariant.same))
    (judged_within c.args.tables c.judged_count-count.result c.hdus.result c.loop-i.i c.judged_count-count.ensures c.loop-i-test.true)

-- the problems of one HDU more
pub loop-i-preserved : goal.loop-i-preserved
loop-i-preserved g c =
    let there : c.loop-i.i < length (file_of c.args.session.now).hdus =
    subst (λ (n : ℕ). c.loop-i.i < n) c.hdus.ensures
    (judged_within c.args.tables c.judged_count-count.result c.hdus.result c.loop-i.i c.judged_count-count.ensures c.loop-i-test.true) in
    let are : table_codes_in (file_of c.args.session.now) (c.loop-i.i + 1) ≡ Ok c.in_ok-codes.codes.items =
    subst (λ (it : Marked). table_codes_in it.file (c.loop-i.i + 1) ≡ Ok c.in_ok-codes.codes.items) c.loop-i.invariant.same c.in_ok-codes.ensures.value in
    record {
      report = next_problems (file_of c.args.session.now) c.loop-i.i c.deref.result.now c.loop-i.report.items c.push_problems.new.report.items there
          (are ∙ ap Ok (sym c.deref.ensures.value)) c.loop-i.invariant.report c.in_ok-push_problems.ensures;
      same = c.in_ok-codes.ensures.same ∙ c.loop-i.invariant.same;
      absences = c.codes_at.ensures.absences ∙ c.loop-i.invariant.absences;
      stays = still_more c.loop-i.invariant.stays c.codes_at.ensures.stays;
    }

-- all of them
pub returns-clause-value : goal.returns-clause-value
returns-clause-value g c =
    all_problems c.args.tables (file_of c.args.session.now) c.loop-i.i c.judged_count-count.result c.loop-i.report.items
    (c.judged_count-count.ensures ∙ ap (judged_count c.args.tables) c.hdus.ensures) c.loop-i-test.false c.loop-i.auto.i-end c.loop-i.invariant.report

-- data units lie where they lay
pub returns-in_err-codes-clause-stays : goal.returns-in_err-codes-clause-stays
returns-in_err-codes-clause-stays g c = still_more c.loop-i.invariant.stays c.codes_at.ensures.stays

pub returns-in_err-push_problems-clause-stays : goal.returns-in_err-push_problems-clause-stays
returns-in_err-push_problems-clause-stays g c = still_more c.loop-i.invariant.stays c.codes_at.ensures.stays
