-- The shape that a header describes, or the first place that breaks a rule (FITS Standard 4.0, sections 4.4.1.1, 4.4.1.2, 6 and 7).
use Rattle.std.specs.Prelude.{◌≡◌, ℕ, suc, ◌+◌, ◌-◌, ◌==◌, ◌≤◌, EachIndex, slice_get, All, Bool, IsTrue, false, ◌&&◌, ◌||◌, ℤ, pos, negsuc, nat_le, List, [], ◌∷◌, ◌++◌, length, codes, replicate, Option, None, Some, option_and_then, unwrap_or, ok_or, Result, Ok, Err, if◌then◌else◌}
use Rattle.std.specs.List.{range_with_len}
use Rattle.std.specs.Str.{bytes_eq}
use Rattle.std.specs.Fmt.{decimal}
use Rattle.fits_card.specs.Card.{keyword_name}
use Rattle.fits_rules.specs.Reads.{integer_said, logical_said, string_said}
use Rattle.fits_card.specs.Header.{card_at}
use Rattle.fits_rules.specs.Lead.{lead_card, lead_or_end}
use Rattle.fits_rules.specs.Class.{has_counts, extension_class}
use Rattle.fits_rules.specs.declared.axis_buffer.TheConstants.{MOST_AXES}
use Rattle.fits_rules.specs.declared.class.Class.{Class}
use Rattle.fits_rules.specs.declared.class.Class.TheVariants.{Primary, Groups}
use Rattle.fits_rules.specs.declared.array_shape.Shape.{Shape}
use Rattle.fits_rules.specs.declared.rules.TheConstants.{LARGEST}

-- what follows from a value; an error stays
infixl 10 ◌>>=◌
abbrev pub ◌>>=◌ : {X Y : Type 0} → Result X ℕ → (X → Result Y ℕ) → Result Y ℕ
Ok value >>= next = next value
Err place >>= next = Err place

-- what each element gives, or the first error
abbrev pub each : {X Y : Type 0} → (X → Result Y ℕ) → List X → Result (List Y) ℕ
each give [] = Ok []
each give (x ∷ xs) = do
  y ← give x
  ys ← each give xs
  Ok (y ∷ ys)

-- the number, where it is from 0 to a limit
abbrev pub up_to : ℕ → ℤ → Option ℕ
up_to limit (pos number) = if nat_le number limit then Some number else None
up_to limit (negsuc number) = None

-- the bits of an array value: 8, 16, 32, 64, -32, -64 (4.4.1.1)
abbrev pub is_bitpix : ℤ → Bool
is_bitpix (pos bits) = (bits == 8) || (bits == 16) || (bits == 32) || (bits == 64)
is_bitpix (negsuc bits) = (suc bits == 32) || (suc bits == 64)

-- the number, where BITPIX may have it
abbrev pub bitpix_in : ℤ → Option ℤ
bitpix_in number = if is_bitpix number then Some number else None

-- NAXISn: NAXIS and the number, with spaces to its eighth byte (4.4.1.1)
unfoldable pub axis_name : ℕ → List ℕ
axis_name n = let text = codes "NAXIS" ++ decimal n in text ++ replicate (8 - length text) 32

-- the card, where it has this name
abbrev pub if_named : List ℕ → List ℕ → Option (List ℕ)
if_named name card = if bytes_eq (keyword_name card) name then Some card else None

-- the card at a place, where it has this name
unfoldable pub card_named : List (List ℕ) → ℕ → List ℕ → Option (List ℕ)
card_named cards place name = option_and_then (if_named name) (card_at cards place)

-- the integer that it says alone
abbrev pub integer_named : List (List ℕ) → ℕ → List ℕ → Option ℤ
integer_named cards place name = option_and_then integer_said (card_named cards place name)

-- place 1: SIMPLE in the primary HDU, XTENSION in an extension, whatever they say (4.4.1.1, 4.4.1.2)
unfoldable pub first_card : Bool → List (List ℕ) → Option (List ℕ)
first_card primary cards = card_named cards 1 (if primary then codes "SIMPLE  " else codes "XTENSION")

-- place 2: BITPIX
unfoldable pub bitpix_of : List (List ℕ) → Option ℤ
bitpix_of cards = option_and_then bitpix_in (integer_named cards 2 (codes "BITPIX  "))

-- place 3: NAXIS, from 0 to 999
unfoldable pub naxis_of : List (List ℕ) → Option ℕ
naxis_of cards = option_and_then (up_to MOST_AXES) (integer_named cards 3 (codes "NAXIS   "))

-- place 3 + n: NAXISn
unfoldable pub axis_of : List (List ℕ) → ℕ → Option ℕ
axis_of cards n = option_and_then (up_to LARGEST) (integer_named cards (3 + n) (axis_name n))

-- the axes from 1 to NAXIS, or the place of the first that breaks its rule
unfoldable pub axes_of : List (List ℕ) → ℕ → Result (List ℕ) ℕ
axes_of cards naxis = each (λ n. ok_or (axis_of cards n) (3 + n)) (range_with_len 1 naxis)

-- two axes or more, and the first is 0 (6)
abbrev pub has_group_axes : List ℕ → Bool
has_group_axes (first ∷ second ∷ more) = first == 0
has_group_axes axes = false

-- the lead of GROUPS says T (6)
unfoldable pub says_groups : Option (List ℕ) → Bool
says_groups lead = unwrap_or (option_and_then logical_said lead) false

-- the class: by axes and the lead of GROUPS in the primary HDU, by XTENSION in an extension (3.3, 3.4, 6)
unfoldable pub class_of : Bool → List ℕ → List ℕ → Option (List ℕ) → Class
class_of primary first axes groups =
    if primary then (if has_group_axes axes && says_groups groups then Groups else Primary)
    else extension_class (string_said first)

-- the count that a lead says, or the default without a lead (own)
abbrev pub count_said : Option (List ℕ) → ℕ → Option ℕ
count_said None default = Some default
count_said (Some lead) default = option_and_then (up_to LARGEST) (integer_said lead)

-- PCOUNT or GCOUNT by its lead, where the class has counts, else the default (4.4.1.2, 6)
unfoldable pub count_of : Class → Option (List ℕ) → ℕ → Option ℕ
count_of class lead default = if has_counts class then count_said lead default else Some default

-- the shape, or the first place that breaks a rule: those of the mandatory keywords in order, then PCOUNT's lead, then GCOUNT's.
-- Where a card is missing all before it are there, so its place is one past the last card's
unfoldable pub shape_of : Bool → List (List ℕ) → Result Shape ℕ
shape_of primary cards = do
  first ← ok_or (first_card primary cards) 1
  bitpix ← ok_or (bitpix_of cards) 2
  naxis ← ok_or (naxis_of cards) 3
  axes ← axes_of cards naxis
  let class = class_of primary first axes (lead_card cards (codes "GROUPS  "))
  pcount ← ok_or (count_of class (lead_card cards (codes "PCOUNT  ")) 0) (lead_or_end cards (codes "PCOUNT  "))
  gcount ← ok_or (count_of class (lead_card cards (codes "GCOUNT  ")) 1) (lead_or_end cards (codes "GCOUNT  "))
  Ok (record { class = class; bitpix = bitpix; axes = axes; pcount = pcount; gcount = gcount })

-- a header describes this shape: each part of it is what its keyword says (4.4.1.1, 4.4.1.2, 6, 7)
pub record Describes (primary : Bool) (cards : List (List ℕ)) (shape : Shape) : Type 0 where
  pub first : List ℕ
  pub begins : first_card primary cards ≡ Some first
  pub bitpix : bitpix_of cards ≡ Some shape.bitpix
  pub naxis : naxis_of cards ≡ Some (length shape.axes)
  pub axes : EachIndex shape.axes (λ n. axis_of cards (n + 1) ≡ slice_get shape.axes n)
  pub class : class_of primary first shape.axes (lead_card cards (codes "GROUPS  ")) ≡ shape.class
  pub pcount : count_of shape.class (lead_card cards (codes "PCOUNT  ")) 0 ≡ Some shape.pcount
  pub gcount : count_of shape.class (lead_card cards (codes "GCOUNT  ")) 1 ≡ Some shape.gcount

-- what each shape has that a header describes (4.4.1.1, 4.4.1.2)
pub record IsBounded (shape : Shape) : Type 0 where
  pub bitpix : IsTrue (is_bitpix shape.bitpix)
  pub count : length shape.axes ≤ MOST_AXES
  pub axes : All (λ axis. axis ≤ LARGEST) shape.axes
  pub pcount : shape.pcount ≤ LARGEST
  pub gcount : shape.gcount ≤ LARGEST
