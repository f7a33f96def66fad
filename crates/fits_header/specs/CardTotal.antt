-- The total of a card as it is kept: its parts give back the number, since the type says so of every value (own).
use Rattle.std.proofs.Common.{◌≡◌, ℕ, ◌+◌, ◌*◌, ◌/◌, ◌%◌, ◌<◌, arith}

-- the lowest 16 bits
pub low_part : (high middle low : ℕ) → low < 65536 → (4294967296 * high + 65536 * middle + low) % 65536 ≡ low
low_part high middle low small = omega arith

-- the 16 above them
pub middle_part : (high middle low : ℕ) → low < 65536 → middle < 65536 → (4294967296 * high + 65536 * middle + low) / 65536 % 65536 ≡ middle
middle_part high middle low small mid = omega arith

-- and the rest
pub high_part : (high middle low : ℕ) → low < 65536 → middle < 65536 → (4294967296 * high + 65536 * middle + low) / 4294967296 ≡ high
high_part high middle low small mid = omega arith
