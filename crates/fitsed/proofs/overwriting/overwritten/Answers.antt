use Rattle.std.proofs.Common.{◌∙◌, ap, inl, inr, rules, sym}
use Rattle.fitsed.specs.declared.saved_end.SavedEnd.{SavedEnd}
use Rattle.fitsed.proofs.overwriting.overwritten.Goals as goal

-- the blocks of its plan are written
pub returns-in-Ok-written : goal.returns-in-Ok-written
returns-in-Ok-written g c = inl (record {
  spare = c.terms_of-of_run.result.spare;
  saved = _;
  holds = _;
  told = _;
  told_after = _;
  ran = c.run_edit_over-ran.result;
  done = c.unless_changed-done.result;
  fresh = search rules;
  runs = record {
    log = c.run_edit_over-ran.new.log;
    len = _;
    ends = rw (c.none-log.ensures, c.terms_of-of_run.ensures) at c.run_edit_over-ran.ensures.ends;
    remarks = rw (c.none-log.ensures, c.terms_of-of_run.ensures) at c.run_edit_over-ran.ensures.told;
    leaves = rw c.terms_of-of_run.ensures at c.run_edit_over-ran.ensures.leaves;
  };
  stands = rw c.parts_of-ran.ensures.edited at c.unless_changed-done.ensures;
  kept = rw (sym c.parts_of-ran.ensures.plan ∙ c.in-Some.is) c.in-Ok-written.ensures.ended;
})

-- they couldn't be
pub returns-in-Some : goal.returns-in-Some
returns-in-Some g c = inl (record {
  spare = c.terms_of-of_run.result.spare;
  saved = _;
  holds = _;
  told = _;
  told_after = _;
  ran = c.run_edit_over-ran.result;
  done = c.unless_changed-done.result;
  fresh = search rules;
  runs = record {
    log = c.run_edit_over-ran.new.log;
    len = _;
    ends = rw (c.none-log.ensures, c.terms_of-of_run.ensures) at c.run_edit_over-ran.ensures.ends;
    remarks = rw (c.none-log.ensures, c.terms_of-of_run.ensures) at c.run_edit_over-ran.ensures.told;
    leaves = rw c.terms_of-of_run.ensures at c.run_edit_over-ran.ensures.leaves;
  };
  stands = rw c.parts_of-ran.ensures.edited at c.unless_changed-done.ensures;
  kept = rw (sym c.parts_of-ran.ensures.plan ∙ c.in-Some.is) (inr (c.in-Err.ensures.err, inl (ap (λ (end : SavedEnd). end.done) c.told-in-Err.ensures)));
})

-- its result is kept as any is
pub returns : goal.returns
returns g c = inl (record {
  spare = c.terms_of-of_run.result.spare;
  saved = _;
  holds = _;
  told = _;
  told_after = _;
  ran = c.run_edit_over-ran.result;
  done = c.unless_changed-done.result;
  fresh = search rules;
  runs = record {
    log = c.run_edit_over-ran.new.log;
    len = _;
    ends = rw (c.none-log.ensures, c.terms_of-of_run.ensures) at c.run_edit_over-ran.ensures.ends;
    remarks = rw (c.none-log.ensures, c.terms_of-of_run.ensures) at c.run_edit_over-ran.ensures.told;
    leaves = rw c.terms_of-of_run.ensures at c.run_edit_over-ran.ensures.leaves;
  };
  stands = rw c.parts_of-ran.ensures.edited at c.unless_changed-done.ensures;
  kept = rw (sym c.parts_of-ran.ensures.plan ∙ c.in-None.is) c.finished.ensures;
})
