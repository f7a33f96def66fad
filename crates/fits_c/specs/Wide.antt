-- A number of 128 bits in two parts (own).
use Rattle.std.specs.Prelude.{◌≡◌, ◌+ℤ◌, ◌*ℤ◌, ◌^◌, ℤ, pos, Option, None, Some}
use Rattle.fits_c.specs.declared.wide.Wide.{Wide}

-- a number is the high part times 2^64, and the low part
pub record IsWide (number : ℤ) (wide : Wide) : Type 0 where
  pub is : number ≡ wide.high *ℤ pos (2 ^ 64) +ℤ pos wide.low

-- of a number that is lacking it is 0
abbrev pub IsWideOrZero : Option ℤ → Wide → Type 0
IsWideOrZero None wide = IsWide (pos 0) wide
IsWideOrZero (Some number) wide = IsWide number wide
