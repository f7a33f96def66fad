use Rattle.std.proofs.Common.{◌==◌, ◌*◌, not}
use Rattle.fits_value.proofs.RunLemmas.{GoesOn}
use Rattle.fits_value.proofs.runs.gap_len.Given as goal

abbrev pub invariant-loop-i : goal.invariant-loop-i
invariant-loop-i l = GoesOn (λ b. not (b == l.byte)) l.text (16 * l.i)

abbrev pub invariant-loop-j : goal.invariant-loop-j
invariant-loop-j l = GoesOn (λ b. not (b == l.byte)) l.text l.j
