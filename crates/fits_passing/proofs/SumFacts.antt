-- What DATASUM and CHECKSUM say, and the verdicts, computed (FITS Standard 4.0, section 4.4.2.7; own).
use Rattle.std.proofs.Common.{◌≡◌, codes, refl, None, Some}
use Rattle.fits_card.specs.Card.{card_of_text, has_value, is_text}
use Rattle.fits_card.specs.Name.{is_valueless}
use Rattle.fits_value.specs.Scan.{front_value, number_of, reading_of}
use Rattle.fits_value.specs.Says.{card_says, field_says}
use Rattle.fits_rules.specs.Reads.{value_said}
use Rattle.fits_passing.specs.Sums.{checksum_verdict, datasum_verdict, sum_of_lead, sum_of_text}
use Rattle.fits_passing.specs.declared.sum_said.SumSaid.TheVariants.{Nothing, Number, Other}
use Rattle.fits_passing.specs.declared.verdict.Verdict.TheVariants.{Right, Missing, Wrong}

-- digits say a number, after spaces or zeros too
digits_say_a_sum : (sum_of_text (codes "0") ≡ Number 0) × (sum_of_text (codes "   0") ≡ Number 0) × (sum_of_text (codes "000000007") ≡ Number 7)
digits_say_a_sum = (refl, refl, refl)

-- all ones is the largest sum
sums_have_32_bits : (sum_of_text (codes "4294967295") ≡ Number 4294967295) × (sum_of_text (codes "4294967296") ≡ Other)
sums_have_32_bits = (refl, refl)

-- the null string and spaces say nothing
spaces_say_nothing : (sum_of_text (codes "") ≡ Nothing) × (sum_of_text (codes " ") ≡ Nothing)
spaces_say_nothing = (refl, refl)

-- no other text is a sum: digits apart, a sign, a point
other_texts_are_no_sums : (sum_of_text (codes "0 0") ≡ Other) × (sum_of_text (codes "+0") ≡ Other) × (sum_of_text (codes "0.") ≡ Other)
other_texts_are_no_sums = (refl, refl, refl)

-- no card says nothing
no_lead_says_nothing : sum_of_lead None ≡ Nothing
no_lead_says_nothing = refl

-- nor does one without a value
undefined_says_nothing : sum_of_lead (Some (card_of_text (codes "DATASUM =                      / no sum yet"))) ≡ Nothing
unfolding value_said has_value is_valueless card_says field_says is_text reading_of front_value
undefined_says_nothing = refl

-- a string of digits says a sum
string_says_a_sum : sum_of_lead (Some (card_of_text (codes "DATASUM = '2503531142'         / data unit checksum"))) ≡ Number 2503531142
unfolding value_said has_value is_valueless card_says field_says is_text reading_of front_value
string_says_a_sum = refl

-- spaces at its end are no part of a string
trailing_spaces_say_nothing_more : sum_of_lead (Some (card_of_text (codes "DATASUM = '0         '"))) ≡ Number 0
unfolding value_said has_value is_valueless card_says field_says is_text reading_of front_value
trailing_spaces_say_nothing_more = refl

-- an integer is no string
integer_is_no_sum : sum_of_lead (Some (card_of_text (codes "DATASUM =                    0"))) ≡ Other
unfolding value_said has_value is_valueless card_says field_says is_text reading_of front_value number_of
integer_is_no_sum = refl

-- DATASUM is right by its number
datasum_by_number : (datasum_verdict (Number 7) 7 ≡ Right) × (datasum_verdict (Number 7) 8 ≡ Wrong) × (datasum_verdict Other 7 ≡ Wrong) × (datasum_verdict Nothing 7 ≡ Missing)
datasum_by_number = (refl, refl, refl, refl)

-- CHECKSUM by the sum of the HDU
checksum_by_sum : (checksum_verdict Other 4294967295 ≡ Right) × (checksum_verdict Other 0 ≡ Wrong) × (checksum_verdict (Number 7) 7 ≡ Wrong) × (checksum_verdict Nothing 4294967295 ≡ Missing)
checksum_by_sum = (refl, refl, refl, refl)
