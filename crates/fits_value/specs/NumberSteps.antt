-- What the steps that read a number compute, as functions on lists (own).
use Rattle.std.specs.Prelude.{◌≡◌, Bool, false, ℕ, ◌==◌, ◌&&◌, nat_lt, ℤ, List, [], ◌∷◌, ◌++◌, length, drop, if◌then◌else◌}
use Rattle.std.specs.List.{prefix_len, take_while}
use Rattle.fits_value.specs.Characters.{is_digit, is_sign, is_exponent_letter}
use Rattle.fits_value.specs.Number.{IsDecimal}

-- the list begins with a minus sign
abbrev pub is_minus : List ℕ → Bool
is_minus [] = false
is_minus (byte ∷ text) = byte == 45

-- the list without the sign that it begins with
abbrev pub after_sign : List ℕ → List ℕ
after_sign [] = []
after_sign (byte ∷ text) = if is_sign byte then text else byte ∷ text

-- the list without the digits that it begins with
abbrev pub after_digits : List ℕ → List ℕ
after_digits text = drop (prefix_len is_digit text) text

-- the digits after the point that the list begins with
abbrev pub fraction_digits : List ℕ → List ℕ
fraction_digits [] = []
fraction_digits (byte ∷ text) = if byte == 46 then take_while is_digit text else []

-- the list without the point that it begins with and the digits after it
abbrev pub after_fraction : List ℕ → List ℕ
after_fraction [] = []
after_fraction (byte ∷ text) = if byte == 46 then after_digits text else byte ∷ text

-- a byte and the list after it begin with an exponent: its letter, a sign or none, and a digit
abbrev pub begins_exponent : ℕ → List ℕ → Bool
begins_exponent byte text =
    is_exponent_letter byte && nat_lt 0 (length (take_while is_digit (after_sign text)))

-- the exponent that the list begins with has a minus sign
abbrev pub is_lowered : List ℕ → Bool
is_lowered [] = false
is_lowered (byte ∷ text) = if begins_exponent byte text then is_minus text else false

-- its digits
abbrev pub exponent_digits : List ℕ → List ℕ
exponent_digits [] = []
exponent_digits (byte ∷ text) =
    if begins_exponent byte text then take_while is_digit (after_sign text) else []

-- the list without it
abbrev pub after_exponent : List ℕ → List ℕ
after_exponent [] = []
after_exponent (byte ∷ text) =
    if begins_exponent byte text then after_digits (after_sign text) else byte ∷ text

-- a decimal stands at the front of a list, and what follows it
pub record BeginsWithDecimal (text : List ℕ) (negative : Bool) (front back : List ℕ) (power : ℤ) (rest : List ℕ) : Type 0 where
  pub spelling : List ℕ
  pub is_decimal : IsDecimal spelling negative front back power
  pub parts : text ≡ spelling ++ rest
