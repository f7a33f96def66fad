-- What a run of `edit` writes and answers: functions of its terms, the file and the script (own).
use Rattle.std.specs.Prelude.{◌≡◌, ◌⊎◌, ℕ, nat_le, List, [], ◌∷◌, ◌++◌, ◌==◌, ◌&&◌, not, length, take, Option, Some, None, if◌then◌else◌}
use Rattle.fits_passing.specs.File.{FileParts, file_bytes, IsFileOf}
use Rattle.fits_passing.specs.Opening.{HasOpenFault}
use Rattle.fits_passing.specs.declared.open_fault.OpenFault.{OpenFault}
use Rattle.fits_cli.specs.declared.limits.TheConstants.{SCRIPT_LIMIT}
use Rattle.fits_cli.specs.Script.{IsCutInLines, script_lines}
use Rattle.fits_cli.specs.Answer.{Standing, answer_to, at_first_line, left_after}
use Rattle.fits_cli.specs.declared.terms.Terms.{Terms}
use Rattle.fits_tell.specs.declared.fault.Fault.{Fault}
use Rattle.fits_tell.specs.declared.fault.Fault.TheVariants.{Refused, ScriptTooLong}

-- what lines print, one after another
unfoldable pub answers : Standing → List (List ℕ) → List ℕ
answers standing [] = []
answers standing (line ∷ lines) = answer_to standing line ++ answers (left_after standing line) lines

-- how things stand after them
unfoldable pub standing_after : Standing → List (List ℕ) → Standing
standing_after standing [] = standing
standing_after standing (line ∷ lines) = standing_after (left_after standing line) lines

-- 1 where a line was refused or bad, else 0
abbrev pub status_of : Standing → ℕ
status_of standing = if standing.refused == 0 then 0 else 1

-- what is saved: nothing where no edit was accepted and such a file is spared, else the file
abbrev pub saved_bytes : Terms → Standing → List ℕ
saved_bytes terms standing = if terms.spare && not standing.edited then [] else file_bytes standing.marked.file

-- what a run prints, what its script makes of the file, what is saved, how many lines were refused or bad, its status, and the fault
-- that ended it
pub record Output : Type 0 where
  pub text : List ℕ
  pub made : List ℕ
  pub saved : List ℕ
  pub undone : ℕ
  pub status : ℕ
  pub fault : Option Fault

-- a file that doesn't open
abbrev pub output_unopened : OpenFault → Output
output_unopened why = record { text = []; made = []; saved = []; undone = 0; status = 2; fault = Some (Refused why) }

-- all lines of a script, and then the file is saved or spared
abbrev pub output_of_lines : Terms → FileParts → List (List ℕ) → Output
output_of_lines terms file lines = record {
  text = answers (at_first_line terms file) lines;
  made = file_bytes (standing_after (at_first_line terms file) lines).marked.file;
  saved = saved_bytes terms (standing_after (at_first_line terms file) lines);
  undone = (standing_after (at_first_line terms file) lines).refused;
  status = status_of (standing_after (at_first_line terms file) lines);
  fault = None;
}

-- the whole lines within the limit of a script that is too long
abbrev pub output_too_long : Terms → FileParts → List (List ℕ) → Output
output_too_long terms file lines = record {
  text = answers (at_first_line terms file) lines;
  made = [];
  saved = [];
  undone = (standing_after (at_first_line terms file) lines).refused;
  status = 2;
  fault = Some ScriptTooLong;
}

-- the output of a script of this length, cut into lines and a last piece without a line feed
abbrev pub output_of_cut : Terms → FileParts → ℕ → List (List ℕ) → List ℕ → Output
output_of_cut terms file size lines last =
    if nat_le size SCRIPT_LIMIT then output_of_lines terms file (script_lines lines last) else output_too_long terms file lines

-- the output of a file that doesn't open
pub record IsUnopened (file : List ℕ) (output : Output) : Type 0 where
  pub why : OpenFault
  pub fails : HasOpenFault file why
  pub is : output ≡ output_unopened why

-- the output of a file that opens, and a script
pub record IsAnswered (terms : Terms) (file script : List ℕ) (output : Output) : Type 0 where
  pub parts : FileParts
  pub lines : List (List ℕ)
  pub last : List ℕ
  pub opens : IsFileOf file parts
  pub cut : IsCutInLines (take SCRIPT_LIMIT script) lines last
  pub is : output ≡ output_of_cut terms parts (length script) lines last

-- the output of a file and a script, on these terms
abbrev pub IsOutputOf : Terms → List ℕ → List ℕ → Output → Type 0
IsOutputOf terms file script output = IsUnopened file output ⊎ IsAnswered terms file script output
