use Rattle.std.proofs.Common.{◌≡◌, ◌+◌, ◌==◌, not, drop, ℕ}
use Rattle.std.specs.List.{prefix_len}
use Rattle.fits_json.proofs.columns.len_before.Given as goal

abbrev pub invariant-loop-i : goal.invariant-loop-i
invariant-loop-i l = l.i + prefix_len (λ (byte : ℕ). not (byte == l.stop)) (drop l.i l.text) ≡ prefix_len (λ (byte : ℕ). not (byte == l.stop)) l.text
