-- What lines print of pixels and sums (own).
use Rattle.std.specs.Prelude.{ℕ, ℤ, List, [], ◌∷◌, ◌++◌, codes, Option, None, Some}
use Rattle.std.specs.Fmt.{decimal, signed_decimal}
use Rattle.std.specs.List.{flat_map}
use Rattle.fits_passing.specs.Stats.{Stats}
use Rattle.fits_passing.specs.declared.verdict.Verdict.{Verdict}
use Rattle.fits_passing.specs.declared.verdict.Verdict.TheVariants.{Right, Missing, Wrong}
use Rattle.fits_passing.specs.declared.verdicts.Verdicts.{Verdicts}

-- a number, or a hyphen where there is none
abbrev pub number_or_hyphen : Option ℤ → List ℕ
number_or_hyphen None = codes "-"
number_or_hyphen (Some number) = signed_decimal number

-- how many pixels are defined and blank
abbrev pub counts_text : Stats → List ℕ
counts_text stats = codes "defined " ++ (decimal stats.defined ++ (codes " blank " ++ decimal stats.blank))

-- the least and the greatest value, and the sum of all
abbrev pub values_text : Stats → List ℕ
values_text stats =
    codes " min " ++ (number_or_hyphen stats.least ++ (codes " max " ++ (number_or_hyphen stats.greatest ++ (codes " sum " ++ signed_decimal stats.sum))))

-- `defined D blank B min X max Y sum S`
abbrev pub statistics_line : Stats → List ℕ
statistics_line stats = counts_text stats ++ (values_text stats ++ codes "\n")

-- a verdict as a number: right, nothing said, or wrong
abbrev pub verdict_text : Verdict → List ℕ
verdict_text Right = codes "1"
verdict_text Missing = codes "0"
verdict_text Wrong = codes "-1"

-- `datasum N verdicts A B`: DATASUM's verdict, then CHECKSUM's
abbrev pub sums_line : ℕ → Verdicts → List ℕ
sums_line sum verdicts =
    codes "datasum " ++ (decimal sum ++ (codes " verdicts " ++ (verdict_text verdicts.datasum ++ (codes " " ++ (verdict_text verdicts.checksum ++ codes "\n")))))

-- numbers, each after a space
abbrev pub numbers_spaced : List ℤ → List ℕ
numbers_spaced numbers = flat_map (λ number. codes " " ++ signed_decimal number) numbers

-- values, a space between
abbrev pub values_line : List ℤ → List ℕ
values_line [] = codes "\n"
values_line (value ∷ values) = signed_decimal value ++ (numbers_spaced values ++ codes "\n")
