use Rattle.std.proofs.Common.{◌≡◌, ◌≤◌, ◌+◌, ◌*◌, true, List, ℕ, take}
use Rattle.fits_redo.specs.Pair.{Files, LeavesOnly}
use Rattle.fits_redo.specs.Plan.{fits, redone}
use Rattle.fits_redo.specs.Protocol.{IsUnfinished}
use Rattle.fits_redo.proofs.applying.apply.Given as goal

abbrev pub invariant-loop-block : goal.invariant-loop-block
invariant-loop-block g l = record {
  seen : (f : Files) → g.P.Pair.stands l.initial.pair f → fits 0 l.blocks f.file ≡ true → g.P.Pair.stands l.pair (record { file = redone (take l.block-index l.blocks) f.file; redo = f.redo });
  moments : (bytes : List ℕ) (len : ℕ) (new : List ℕ) → ((c : Files) → g.P.Pair.may_leave l.initial.pair c → IsUnfinished bytes len l.blocks new c) → LeavesOnly g.P.Pair.moment g.P.Pair.left_since l.initial.pair l.pair (IsUnfinished bytes len l.blocks new);
  left : (bytes : List ℕ) (len : ℕ) (new : List ℕ) → ((c : Files) → g.P.Pair.may_leave l.initial.pair c → IsUnfinished bytes len l.blocks new c) → (c : Files) → g.P.Pair.may_leave l.pair c → IsUnfinished bytes len l.blocks new c;
  failed : g.P.Pair.failed l.pair ≡ g.P.Pair.failed l.initial.pair;
  written : g.P.Pair.written l.pair ≤ g.P.Pair.written l.initial.pair + 2880 * l.block-index;
}
