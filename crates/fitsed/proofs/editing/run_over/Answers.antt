use Rattle.std.proofs.Common.{inl, inr, refl}
use Rattle.fitsed.proofs.editing.run_over.Goals as goal

-- the data stay in the file
pub returns-in-true-true : goal.returns-in-true-true
returns-in-true-true g c = record {
  ran = c.run_edit_stored-done.result;
  runs = inl (record {
    log = c.run_edit_stored-done.new.log;
    ends = rw c.none-log.ensures at c.run_edit_stored-done.ensures.ends;
    remarks = rw c.none-log.ensures at c.run_edit_stored-done.ensures.told;
    leaves = c.run_edit_stored-done.ensures.leaves;
  });
  stands = c.unless_changed.ensures;
}

-- a regular file is read through
pub returns-in-true-false : goal.returns-in-true-false
returns-in-true-false g c = record {
  ran = _;
  runs = inr (record { file = _; after = _; fresh = rw c.stored-file.ensures refl; ends = c.run_edit_told.ensures.ends; remarks = c.run_edit_told.ensures.told });
  stands = inl refl;
}

-- so is a pipe
pub returns-in-false-default : goal.returns-in-false-default
returns-in-false-default g c = record {
  ran = _;
  runs = inr (record { file = _; after = _; fresh = rw c.new-file.ensures refl; ends = c.run_edit_told-in-false-default.ensures.ends; remarks = c.run_edit_told-in-false-default.ensures.told });
  stands = inl refl;
}
