use Rattle.std.proofs.Common.{inl}
use Rattle.fitsed.proofs.reading.asked.Goals as goal

-- the data stay in the file
pub returns-then-is_stored : goal.returns-then-is_stored
returns-then-is_stored g c = inl (record {
  log = c.run_ask_stored.new.log;
  told = _;
  told_after = _;
  ends = rw c.none.ensures at c.run_ask_stored.ensures.ends;
  remarks = rw c.none.ensures at c.run_ask_stored.ensures.told;
  leaves = c.run_ask_stored.ensures.leaves;
})
