-- What `sum` prints (own; FITS Standard 4.0, section 4.4.2.7 and Appendix J).
use Rattle.std.specs.Prelude.{ℕ, ◌+◌, Bool, true, false, ◌||◌, List, [], ◌∷◌, ◌++◌, codes, if◌then◌else◌}
use Rattle.std.specs.Fmt.{decimal}
use Rattle.std.specs.List.{list_any}
use Rattle.fits_passing.specs.Hdu.{HduParts}
use Rattle.fits_passing.specs.Sums.{data_sum, verdicts_of}
use Rattle.fits_passing.specs.declared.hdu_sums.HduSums.{HduSums}
use Rattle.fits_passing.specs.declared.verdict.Verdict.{Verdict}
use Rattle.fits_passing.specs.declared.verdict.Verdict.TheVariants.{Right, Missing, Wrong}
use Rattle.fits_passing.specs.declared.verdicts.Verdicts.{Verdicts}
use Rattle.fits_passing.specs.File.{FileParts}
use Rattle.fits_tell.specs.Numbered.{numbered}
use Rattle.fits_tell.specs.PixelLines.{verdict_text}

-- `N DATASUM A B`: the HDU, the sum of its data unit, DATASUM's verdict, then CHECKSUM's
unfoldable pub summed_line : ℕ → ℕ → Verdicts → List ℕ
summed_line number sum verdicts =
    decimal number ++ (codes " " ++ (decimal sum ++ (codes " " ++ (verdict_text verdicts.datasum ++ (codes " " ++ (verdict_text verdicts.checksum ++ codes "\n"))))))

-- the lines of HDUs from this number on
abbrev pub summed_from : ℕ → List HduParts → List ℕ
summed_from number [] = []
summed_from number (hdu ∷ hdus) = summed_line number (data_sum hdu) (verdicts_of hdu) ++ summed_from (number + 1) hdus

-- one line for each HDU of a file
unfoldable pub summing : FileParts → List ℕ
summing file = summed_from 1 file.hdus

-- the lines of HDUs from this number on, by their sums
abbrev pub summed_lines : ℕ → List HduSums → List ℕ
summed_lines number [] = []
summed_lines number (it ∷ sums) = summed_line number it.datasum it.verdicts ++ summed_lines (number + 1) sums

-- a verdict is that something is wrong
abbrev pub is_wrong : Verdict → Bool
is_wrong Right = false
is_wrong Missing = false
is_wrong Wrong = true

-- one of two is
abbrev pub any_wrong : Verdicts → Bool
any_wrong verdicts = is_wrong verdicts.datasum || is_wrong verdicts.checksum

-- the line of an HDU of which a sum is wrong
abbrev pub wrong_line : ℕ → ℕ → Verdicts → List ℕ
wrong_line number sum verdicts = if any_wrong verdicts then summed_line number sum verdicts else []

-- those lines of a file
unfoldable pub wrong_summing : FileParts → List ℕ
wrong_summing file = numbered (λ h (hdu : HduParts). wrong_line h (data_sum hdu) (verdicts_of hdu)) 1 file.hdus

-- 1 where a sum of a file is wrong, else 0
abbrev pub status_of_sums : FileParts → ℕ
status_of_sums file = if list_any (λ (hdu : HduParts). any_wrong (verdicts_of hdu)) file.hdus then 1 else 0

-- the lines of HDUs of which a sum is wrong, by their sums
abbrev pub wrong_lines : List HduSums → List ℕ
wrong_lines sums = numbered (λ h (it : HduSums). wrong_line h it.datasum it.verdicts) 1 sums

-- whether one is
abbrev pub has_wrong : List HduSums → Bool
has_wrong sums = list_any (λ (it : HduSums). any_wrong it.verdicts) sums
