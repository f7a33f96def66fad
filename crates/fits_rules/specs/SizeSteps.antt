-- Numbers of 64 bits on the way to a size: private contracts alone name them (own).
use Rattle.std.specs.Prelude.{ℕ, nat_le, Option, None, Some, if◌then◌else◌}

-- the number, or none where it has more than 64 bits
unfoldable pub limited : ℕ → Option ℕ
limited number = if nat_le number 18446744073709551615 then Some number else None
