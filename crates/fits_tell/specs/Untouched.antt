-- What is said of wrong sums before a run that keeps right ones right (own; FITS Standard 4.0, section 4.4.2.7).
use Rattle.std.specs.Prelude.{ℕ, List, [], ◌++◌, codes, if◌then◌else◌}
use Rattle.std.specs.Fmt.{decimal}
use Rattle.fits_passing.specs.Hdu.{HduParts}
use Rattle.fits_passing.specs.Sums.{verdicts_of}
use Rattle.fits_passing.specs.declared.hdu_sums.HduSums.{HduSums}
use Rattle.fits_passing.specs.declared.verdict.Verdict.{Verdict}
use Rattle.fits_passing.specs.declared.verdicts.Verdicts.{Verdicts}
use Rattle.fits_passing.specs.File.{FileParts}
use Rattle.fits_tell.specs.Numbered.{numbered}
use Rattle.fits_tell.specs.Summing.{is_wrong}

-- the line on a card of a sum, where that is wrong
abbrev pub untouched_line : ℕ → List ℕ → Verdict → List ℕ
untouched_line number name verdict =
    if is_wrong verdict then codes "hdu " ++ (decimal number ++ (codes ": " ++ (name ++ codes " was wrong before, and isn't touched\n"))) else []

-- those on the two cards of an HDU
abbrev pub untouched_lines : ℕ → Verdicts → List ℕ
untouched_lines number verdicts = untouched_line number (codes "DATASUM") verdicts.datasum ++ untouched_line number (codes "CHECKSUM") verdicts.checksum

-- those of a file
unfoldable pub untouched : FileParts → List ℕ
untouched file = numbered (λ h (hdu : HduParts). untouched_lines h (verdicts_of hdu)) 1 file.hdus

-- the same by the sums of its HDUs
abbrev pub untouched_by : List HduSums → List ℕ
untouched_by sums = numbered (λ h (it : HduSums). untouched_lines h it.verdicts) 1 sums
