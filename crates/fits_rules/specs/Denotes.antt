-- Cards that denote a number exactly, as Integer or Real (FITS Standard 4.0, sections 4.2.3 and 4.2.4).
use Rattle.std.specs.Prelude.{◌≡◌, ℕ, ℤ, Bool, true, false, IsTrue, List, Option, Some, unwrap_or}
use Rattle.std.specs.Option.{option_map}
use Rattle.fits_value.specs.Field.{ReadsAs}
use Rattle.fits_value.specs.Number.{Denotes}
use Rattle.fits_value.specs.Says.{card_says, says_number}
use Rattle.fits_value.specs.declared.reading.ValueKind.{ValueKind}
use Rattle.fits_value.specs.declared.reading.ValueKind.TheVariants as kind
use Rattle.fits_value.specs.declared.value.Value.{Value}
use Rattle.fits_value.specs.declared.value.Value.TheVariants.{Integer, Real}
use Rattle.fits_rules.specs.Lead.{lead_card}

-- an integer or a real (4.2.3, 4.2.4)
abbrev pub is_numeric : ValueKind → Bool
is_numeric kind.Integer = true
is_numeric kind.Real = true
is_numeric other = false

-- the card reads as an integer or a real whose text denotes exactly this number
pub record CardDenotes (card : List ℕ) (number : ℤ) : Type 0 where
  pub kind : ValueKind
  pub text : List ℕ
  pub comment : Option (List ℕ)
  pub reads : ReadsAs card kind text comment
  pub numeric : IsTrue (is_numeric kind)
  pub denotes : Denotes text number

-- the lead of a name does
pub record LeadDenotes (cards : List (List ℕ)) (name : List ℕ) (number : ℤ) : Type 0 where
  pub card : List ℕ
  pub lead : lead_card cards name ≡ Some card
  pub denotes : CardDenotes card number

-- the value is an integer or a real whose text denotes exactly this number (4.2.3, 4.2.4)
abbrev pub value_says_number : ℤ → Value → Bool
value_says_number number (Integer text) = says_number text number
value_says_number number (Real text) = says_number text number
value_says_number number value = false

-- the value that a card says is, as a function
unfoldable pub card_says_number : List ℕ → ℤ → Bool
card_says_number card number = unwrap_or (option_map (λ said. value_says_number number said.0) (card_says card)) false

-- that of the lead of a name is, as a function
unfoldable pub lead_says_number : List (List ℕ) → List ℕ → ℤ → Bool
lead_says_number cards name number = unwrap_or (option_map (λ card. card_says_number card number) (lead_card cards name)) false
