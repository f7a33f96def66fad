-- What DATASUM and CHECKSUM say of an HDU, and whether it is so (FITS Standard 4.0, section 4.4.2.7 and Appendix J; own).
use Rattle.std.specs.Prelude.{◌≡◌, ℕ, ◌==◌, Bool, true, false, drop, nat_lt, List, codes, Option, None, Some, if◌then◌else◌}
use Rattle.std.specs.List.{list_all, prefix_len}
use Rattle.fits_rules.specs.Lead.{lead_card}
use Rattle.fits_rules.specs.Reads.{value_said}
use Rattle.fits_sum.specs.OnesComplement.{ones_complement}
use Rattle.fits_sum.specs.Words.{word_total}
use Rattle.fits_value.specs.Number.{value_of}
use Rattle.fits_value.specs.Spelling.{is_digit, is_space}
use Rattle.fits_value.specs.declared.value.Value.{Value}
use Rattle.fits_value.specs.declared.value.Value.TheVariants.{Undefined, Str}
use Rattle.fits_passing.specs.Hdu.{HduParts, hdu_bytes}
use Rattle.fits_passing.specs.declared.keywords.SumKeywords.{SumKeywords}
use Rattle.fits_passing.specs.declared.sum_said.SumSaid.{SumSaid}
use Rattle.fits_passing.specs.declared.sum_said.SumSaid.TheVariants.{Nothing, Number, Other}
use Rattle.fits_passing.specs.declared.verdict.Verdict.{Verdict}
use Rattle.fits_passing.specs.declared.verdict.Verdict.TheVariants.{Right, Missing, Wrong}
use Rattle.fits_passing.specs.declared.verdicts.Verdicts.{Verdicts}

-- the sum of a number of 32 bits
abbrev pub sum_of_number : ℕ → SumSaid
sum_of_number number = if nat_lt number 4294967296 then Number number else Other

-- a text without the spaces that it begins with
abbrev pub unspaced : List ℕ → List ℕ
unspaced text = drop (prefix_len is_space text) text

-- the sum that a text says in digits alone, with spaces before them or without; a text of spaces, or of nothing, says nothing
abbrev pub sum_of_text : List ℕ → SumSaid
sum_of_text text =
    if list_all is_space text then Nothing
    else if list_all is_digit (unspaced text) then sum_of_number (value_of (unspaced text))
    else Other

-- the sum that a value says: an undefined one says nothing
abbrev pub sum_of_value : Option Value → SumSaid
sum_of_value (Some Undefined) = Nothing
sum_of_value (Some (Str text)) = sum_of_text text
sum_of_value value = Other

-- the sum that a lead says, if there is one
abbrev pub sum_of_lead : Option (List ℕ) → SumSaid
sum_of_lead None = Nothing
sum_of_lead (Some card) = sum_of_value (value_said card)

-- what the leads of DATASUM and CHECKSUM say
unfoldable pub sum_keywords : List (List ℕ) → SumKeywords
sum_keywords cards = record {
  datasum = sum_of_lead (lead_card cards (codes "DATASUM "));
  checksum = sum_of_lead (lead_card cards (codes "CHECKSUM"));
}

-- the sum of the data unit, with its fill
unfoldable pub data_sum : HduParts → ℕ
data_sum hdu = ones_complement (word_total hdu.data_unit)

-- the sum of the whole HDU
unfoldable pub hdu_sum : HduParts → ℕ
hdu_sum hdu = ones_complement (word_total (hdu_bytes hdu))

-- whether something is so
abbrev pub right_if : Bool → Verdict
right_if true = Right
right_if false = Wrong

-- DATASUM says the sum of the data unit
abbrev pub datasum_verdict : SumSaid → ℕ → Verdict
datasum_verdict Nothing sum = Missing
datasum_verdict (Number number) sum = right_if (number == sum)
datasum_verdict Other sum = Wrong

-- CHECKSUM says that the sum of the HDU is all ones, whatever its text
abbrev pub checksum_verdict : SumSaid → ℕ → Verdict
checksum_verdict Nothing sum = Missing
checksum_verdict said sum = right_if (sum == 4294967295)

-- both verdicts, by what the keywords say, the sum of the data unit and that of the HDU
abbrev pub verdicts_by : SumKeywords → ℕ → ℕ → Verdicts
verdicts_by said unit whole = record { datasum = datasum_verdict said.datasum unit; checksum = checksum_verdict said.checksum whole }

-- both verdicts of an HDU
unfoldable pub verdicts_of : HduParts → Verdicts
verdicts_of hdu = verdicts_by (sum_keywords hdu.header.cards) (data_sum hdu) (hdu_sum hdu)

-- these are the sum of an HDU's data unit and its verdicts
pub record AreSumsOf (datasum : ℕ) (verdicts : Verdicts) (hdu : HduParts) : Type 0 where
  pub sum : datasum ≡ data_sum hdu
  pub right : verdicts ≡ verdicts_of hdu
