-- Sums of 32 bits with end-around carry (FITS Standard 4.0, 4.4.2.7 and Appendix J).
use Rattle.std.specs.Prelude.{ℕ, ◌+◌, ◌-◌, ◌%◌, ◌==◌, if◌then◌else◌}

-- the ones'-complement sum of a total: 0 for 0, else from 1 to 4294967295, all ones
abbrev pub ones_complement : ℕ → ℕ
ones_complement total = if total == 0 then 0 else (total - 1) % 4294967295 + 1
