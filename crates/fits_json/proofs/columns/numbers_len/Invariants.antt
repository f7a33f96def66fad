use Rattle.std.proofs.Common.{◌≡◌, ◌+◌, ◌==◌, ◌||◌, drop, ℕ}
use Rattle.std.specs.List.{prefix_len}
use Rattle.fits_json.specs.Columns.{is_number_byte}
use Rattle.fits_json.proofs.columns.numbers_len.Given as goal

abbrev pub invariant-loop-i : goal.invariant-loop-i
invariant-loop-i l =
    l.i + prefix_len (λ (byte : ℕ). is_number_byte byte || (byte == l.separator)) (drop l.i l.text)
    ≡ prefix_len (λ (byte : ℕ). is_number_byte byte || (byte == l.separator)) l.text
