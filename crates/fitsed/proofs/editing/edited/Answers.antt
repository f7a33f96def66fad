use Rattle.std.proofs.Common.{inl, rules}
use Rattle.fitsed.proofs.editing.edited.Goals as goal

-- a run is made over the file, and its result kept
pub returns : goal.returns
returns g c = inl (record {
  spare = c.terms_of-of_run.result.spare;
  saved = _;
  holds = _;
  told = _;
  told_after = _;
  done = c.run_over-done.result;
  fresh = search rules;
  runs = rw c.terms_of-of_run.ensures at c.run_over-done.ensures;
  kept = c.finished.ensures;
})
