use Rattle.std.proofs.Common.{◌≡◌, ◌==◌, take, false, ℕ}
use Rattle.std.specs.List.{list_any}
use Rattle.fits_json.proofs.values.first_word.Given as goal

abbrev pub invariant-loop-i : goal.invariant-loop-i
invariant-loop-i l = list_any (λ (it : ℕ). it == l.separator) (take l.i l.words) ≡ false
