-- The numbers that integers and reals denote, by digits and decimal exponent (FITS Standard 4.0, sections 4.2.3 and 4.2.4).
use Rattle.std.specs.Prelude.{codes, ◌≡◌, ◌⊎◌, Bool, true, false, ℕ, suc, ◌<◌, ◌+◌, ◌*◌, ◌-◌, ◌^◌, ℤ, pos, negsuc, neg_ℤ, IsTrue, List, [], ◌∷◌, ◌++◌, length}
use Rattle.std.specs.List.{fold}
use Rattle.fits_value.specs.Characters.{IsDigits, AreSomeDigits, is_exponent_letter}

-- a number with one more digit after its digits
abbrev pub with_digit : ℕ → ℕ → ℕ
with_digit number digit = number * 10 + (digit - 48)

-- the whole number that digits stand for
abbrev pub value_of : List ℕ → ℕ
value_of digits = fold with_digit 0 digits

-- a number of this size, negative or not; -0 is 0
abbrev pub signed : Bool → ℕ → ℤ
signed false size = pos size
signed true size = neg_ℤ (pos size)

-- where negative a minus sign, else a plus sign or nothing
abbrev pub IsSignOf : List ℕ → Bool → Type 0
IsSignOf sign true = sign ≡ codes "-"
IsSignOf sign false = (sign ≡ []) ⊎ (sign ≡ codes "+")

-- [sign] digits (4.2.3)
pub record IsSigned (text : List ℕ) (negative : Bool) (digits : List ℕ) : Type 0 where
  pub sign : List ℕ
  pub is_sign : IsSignOf sign negative
  pub are_digits : AreSomeDigits digits
  pub parts : text ≡ sign ++ digits

-- [sign] digits, whatever they are (4.2.3)
pub record IsInteger (text : List ℕ) : Type 0 where
  pub negative : Bool
  pub digits : List ℕ
  pub spelled : IsSigned text negative digits

-- the text is an integer, and this is its number (4.2.3)
pub record IsIntegerOf (text : List ℕ) (number : ℤ) : Type 0 where
  pub negative : Bool
  pub digits : List ℕ
  pub spelled : IsSigned text negative digits
  pub value : number ≡ signed negative (value_of digits)

-- an exponent letter and an integer, or nothing, which stands for 0 (4.2.4)
abbrev pub IsPowerOf : List ℕ → ℤ → Type 0
IsPowerOf [] power = power ≡ pos 0
IsPowerOf (letter ∷ text) power = IsTrue (is_exponent_letter letter) × IsIntegerOf text power

-- [sign] digits, with digits after a point or without a point, [exponent] (4.2.3, 4.2.4)
pub record IsDecimal (text : List ℕ) (negative : Bool) (front back : List ℕ) (power : ℤ) : Type 0 where
  pub sign : List ℕ
  pub point : List ℕ
  pub exponent : List ℕ
  pub is_sign : IsSignOf sign negative
  pub are_front : IsDigits front
  pub are_back : IsDigits back
  pub some : 0 < length front + length back
  pub is_point : (point ≡ codes "." ++ back) ⊎ ((point ≡ []) × (back ≡ []))
  pub is_power : IsPowerOf exponent power
  pub parts : text ≡ sign ++ front ++ point ++ exponent

-- a decimal with a point or an exponent, or both (4.2.4)
pub record IsReal (text : List ℕ) : Type 0 where
  pub negative : Bool
  pub front : List ℕ
  pub back : List ℕ
  pub power : ℤ
  pub spelled : IsDecimal text negative front back power
  pub form : (spelled.point ≡ codes "." ++ back) ⊎ (0 < length spelled.exponent)

-- an integer or a real number
abbrev pub IsNumber : List ℕ → Type 0
IsNumber text = IsInteger text ⊎ IsReal text

-- how far a power of ten raises a number
abbrev pub raised : ℤ → ℕ
raised (pos n) = n
raised (negsuc n) = 0

-- how far it lowers a number
abbrev pub lowered : ℤ → ℕ
lowered (pos n) = 0
lowered (negsuc n) = suc n

-- these digits, with a point between them, times a power of ten are exactly this number
abbrev pub IsExactly : List ℕ → List ℕ → ℤ → ℕ → Type 0
IsExactly front back power number = value_of (front ++ back) * 10 ^ raised power ≡ number * 10 ^ (length back + lowered power)

-- the text is an integer or a real that denotes exactly this number (4.2.3, 4.2.4)
pub record Denotes (text : List ℕ) (number : ℤ) : Type 0 where
  pub negative : Bool
  pub front : List ℕ
  pub back : List ℕ
  pub power : ℤ
  pub size : ℕ
  pub spelled : IsDecimal text negative front back power
  pub exact : IsExactly front back power size
  pub value : number ≡ signed negative size
