use Rattle.std.proofs.Common.{◌≡◌, ◌==◌, ◌++◌, ℕ, map}
use Rattle.std.specs.List.{slice_split}
use Rattle.serde_json.specs.View.{view}
use Rattle.fits_json.specs.Values.{number_data}
use Rattle.fits_json.proofs.ValueLemmas.{words_left, len_left}
use Rattle.fits_json.proofs.values.some_numbers.Given as goal

abbrev pub invariant-loop-left : goal.invariant-loop-left
invariant-loop-left l =
    map view l.items.items ++ map number_data (words_left l.separator l.left) ≡ map number_data (slice_split (λ (it : ℕ). it == l.separator) l.words)

abbrev pub decreases-loop-left : goal.decreases-loop-left
decreases-loop-left l = len_left l.left
