-- The limits of a file (own).
use Rattle.std.specs.Prelude.{ℕ, ◌&&◌, Bool, nat_le}
use Rattle.fits_passing.specs.declared.limits.TheConstants.{FILE_LIMIT, HDU_LIMIT}

-- a file of so many bytes and HDUs keeps to the limits
abbrev pub is_within_limits : ℕ → ℕ → Bool
is_within_limits bytes hdus = nat_le bytes FILE_LIMIT && nat_le hdus HDU_LIMIT
