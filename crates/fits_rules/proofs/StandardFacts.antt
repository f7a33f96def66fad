-- Three headers, the shapes that they describe and the sizes of these, computed (FITS Standard 4.0, sections 4.4.1.1, 4.4.1.2, 6 and 7.1).
use Rattle.std.proofs.Common.{◌≡◌, ℕ, ◌+◌, ◌<◌, zero, suc, true, false, List, [], ◌∷◌, codes, refl, ap, sym, ◌∙◌, arith, Ok}
use Rattle.std.specs.Prelude.{pos, negsuc, option_and_then}
use Rattle.std.specs.List.{slice_get}
use Rattle.fits_card.specs.Card.{card_of_text, has_value, is_text}
use Rattle.fits_card.specs.Name.{is_valueless}
use Rattle.fits_value.specs.Scan.{front_value, number_of, reading_of}
use Rattle.fits_value.specs.Says.{card_says, card_string, field_says, integer_in}
use Rattle.fits_rules.specs.Lead.{is_value_of, lead_card, lead_place}
use Rattle.fits_rules.specs.Reads.{integer_said, logical_said, string_said, value_said}
use Rattle.fits_rules.specs.Shape.{up_to, axis_of, bitpix_of, card_named, class_of, count_of, first_card, integer_named, naxis_of, says_groups, shape_of}
use Rattle.fits_rules.specs.Size.{data_size}
use Rattle.fits_rules.specs.declared.array_shape.Shape.{Shape}
use Rattle.fits_rules.specs.declared.class.Class.TheVariants.{Primary, Groups, Image}
use Rattle.fits_rules.specs.declared.rules.TheConstants.{LARGEST}
use Rattle.fits_rules.proofs.DescribesLemmas.{describes}
use Rattle.fits_rules.proofs.ShapeLemmas.{name_one}

-- an axis of one digit is read at its name
axis_named : (cards : List (List ℕ)) (n : ℕ) → n < 10 → axis_of cards n ≡ option_and_then (up_to LARGEST) (integer_named cards (3 + n) (78 ∷ 65 ∷ 88 ∷ 73 ∷ 83 ∷ (48 + n) ∷ 32 ∷ 32 ∷ []))
unfolding axis_of
axis_named cards n small = ap (λ name. option_and_then (up_to LARGEST) (integer_named cards (3 + n) name)) (sym (name_one n (48 + n) small (omega arith)))

-- 250 by 300 values of 16 bits in the primary HDU (4.4.1.1)
abbrev image : Shape
image = record { class = Primary; bitpix = pos 16; axes = 250 ∷ 300 ∷ []; pcount = 0; gcount = 1 }

-- its header
abbrev image_header : List (List ℕ)
image_header =
    card_of_text (codes "SIMPLE  =                    T")
    ∷ card_of_text (codes "BITPIX  =                   16")
    ∷ card_of_text (codes "NAXIS   =                    2")
    ∷ card_of_text (codes "NAXIS1  =                  250")
    ∷ card_of_text (codes "NAXIS2  =                  300")
    ∷ []

-- which describes it
image_is_described : shape_of true image_header ≡ Ok image
unfolding bitpix_of card_named class_of count_of first_card naxis_of says_groups lead_card lead_place is_value_of integer_said logical_said string_said value_said has_value is_valueless card_says card_string field_says is_text reading_of front_value number_of integer_in
image_is_described = describes true image_header image (record {
  first = card_of_text (codes "SIMPLE  =                    T");
  begins = refl;
  bitpix = refl;
  naxis = refl;
  axes = at;
  class = refl;
  pcount = refl;
  gcount = refl;
})
  where
    at : (i : ℕ) → i < 2 → axis_of image_header (i + 1) ≡ slice_get (250 ∷ 300 ∷ []) i
    at zero within = axis_named image_header 1 (omega arith) ∙ refl
    at (suc zero) within = axis_named image_header 2 (omega arith) ∙ refl
    at (suc (suc i)) within = absurd (omega arith)

-- and its size
image_has_its_size : data_size image ≡ 150000
unfolding data_size
image_has_its_size = refl

-- 100 by 50 values of 32 bits in an image extension (7.1)
abbrev extension : Shape
extension = record { class = Image; bitpix = negsuc 31; axes = 100 ∷ 50 ∷ []; pcount = 0; gcount = 1 }

-- its header
abbrev extension_header : List (List ℕ)
extension_header =
    card_of_text (codes "XTENSION= 'IMAGE   '")
    ∷ card_of_text (codes "BITPIX  =                  -32")
    ∷ card_of_text (codes "NAXIS   =                    2")
    ∷ card_of_text (codes "NAXIS1  =                  100")
    ∷ card_of_text (codes "NAXIS2  =                   50")
    ∷ card_of_text (codes "PCOUNT  =                    0")
    ∷ card_of_text (codes "GCOUNT  =                    1")
    ∷ []

-- which describes it
extension_is_described : shape_of false extension_header ≡ Ok extension
unfolding bitpix_of card_named class_of count_of first_card naxis_of says_groups lead_card lead_place is_value_of integer_said logical_said string_said value_said has_value is_valueless card_says card_string field_says is_text reading_of front_value number_of integer_in
extension_is_described = describes false extension_header extension (record {
  first = card_of_text (codes "XTENSION= 'IMAGE   '");
  begins = refl;
  bitpix = refl;
  naxis = refl;
  axes = at;
  class = refl;
  pcount = refl;
  gcount = refl;
})
  where
    at : (i : ℕ) → i < 2 → axis_of extension_header (i + 1) ≡ slice_get (100 ∷ 50 ∷ []) i
    at zero within = axis_named extension_header 1 (omega arith) ∙ refl
    at (suc zero) within = axis_named extension_header 2 (omega arith) ∙ refl
    at (suc (suc i)) within = absurd (omega arith)

-- and its size
extension_has_its_size : data_size extension ≡ 20000
unfolding data_size
extension_has_its_size = refl

-- 7956 random groups of 6 parameters and 3 by 4 values of 32 bits (6)
abbrev groups : Shape
groups = record { class = Groups; bitpix = negsuc 31; axes = 0 ∷ 3 ∷ 4 ∷ []; pcount = 6; gcount = 7956 }

-- its header
abbrev groups_header : List (List ℕ)
groups_header =
    card_of_text (codes "SIMPLE  =                    T")
    ∷ card_of_text (codes "BITPIX  =                  -32")
    ∷ card_of_text (codes "NAXIS   =                    3")
    ∷ card_of_text (codes "NAXIS1  =                    0")
    ∷ card_of_text (codes "NAXIS2  =                    3")
    ∷ card_of_text (codes "NAXIS3  =                    4")
    ∷ card_of_text (codes "GROUPS  =                    T")
    ∷ card_of_text (codes "PCOUNT  =                    6")
    ∷ card_of_text (codes "GCOUNT  =                 7956")
    ∷ []

-- which describes it
groups_is_described : shape_of true groups_header ≡ Ok groups
unfolding bitpix_of card_named class_of count_of first_card naxis_of says_groups lead_card lead_place is_value_of integer_said logical_said string_said value_said has_value is_valueless card_says card_string field_says is_text reading_of front_value number_of integer_in
groups_is_described = describes true groups_header groups (record {
  first = card_of_text (codes "SIMPLE  =                    T");
  begins = refl;
  bitpix = refl;
  naxis = refl;
  axes = at;
  class = refl;
  pcount = refl;
  gcount = refl;
})
  where
    at : (i : ℕ) → i < 3 → axis_of groups_header (i + 1) ≡ slice_get (0 ∷ 3 ∷ 4 ∷ []) i
    at zero within = axis_named groups_header 1 (omega arith) ∙ refl
    at (suc zero) within = axis_named groups_header 2 (omega arith) ∙ refl
    at (suc (suc zero)) within = axis_named groups_header 3 (omega arith) ∙ refl
    at (suc (suc (suc i))) within = absurd (omega arith)

-- and its size
groups_has_its_size : data_size groups ≡ 572832
unfolding data_size
groups_has_its_size = refl
