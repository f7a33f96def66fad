-- The report of a file: what is wrong, HDU after HDU (own).
use Rattle.std.specs.Prelude.{◌≡◌, ◌⊎◌, ℕ, ◌+◌, ◌<◌, nat_le, Bool, false, List, [], ◌∷◌, ◌++◌, length, map, Option, None, Some, Result, Ok, Err}
use Rattle.std.specs.List.{filter}
use Rattle.fits_rules.specs.Shape.{shape_of}
use Rattle.fits_rules.specs.declared.array_shape.Shape.{Shape}
use Rattle.fits_codes.specs.Code.{number}
use Rattle.fits_codes.specs.declared.code.Code.TheVariants.{TrailingBytes}
use Rattle.fits_header.specs.Findings.{counts_of, found_at}
use Rattle.fits_header.specs.declared.counts.Counts.{Counts}
use Rattle.fits_header.specs.declared.finding.Finding.{Finding}
use Rattle.fits_passing.specs.ExtensionName.{extension_name, is_same_name, name_codes}
use Rattle.fits_passing.specs.Findings.{hdu_findings}
use Rattle.fits_passing.specs.Hdu.{HduParts}
use Rattle.fits_passing.specs.declared.called.ExtensionName.{ExtensionName}
use Rattle.fits_passing.specs.declared.findings.Findings.{Findings}
use Rattle.fits_passing.specs.File.{FileParts, IsFileOf, is_primary_hdu}
use Rattle.fits_passing.specs.Headers.{cards_of}
use Rattle.fits_passing.specs.declared.problem.Problem.{Problem}

-- a finding in HDU h
abbrev pub in_hdu : ℕ → Finding → Problem
in_hdu h found = record { hdu = h; place = found.place; code = found.code }

-- what an HDU is called
abbrev pub name_in : ℕ → HduParts → Option ExtensionName
name_in h hdu = extension_name (is_primary_hdu h) hdu.header.cards

-- what HDUs from number h on are called
abbrev pub names_from : ℕ → List HduParts → List (Option ExtensionName)
names_from h [] = []
names_from h (hdu ∷ hdus) = name_in h hdu ∷ names_from (h + 1) hdus

-- whether an HDU is called so
abbrev pub is_called : ExtensionName → Option ExtensionName → Bool
is_called name None = false
is_called name (Some other) = is_same_name name other

-- how many are called so
abbrev pub called_count : ExtensionName → List (Option ExtensionName) → ℕ
called_count name names = length (filter (is_called name) names)

-- an HDU with this name isn't the only one of all that is called so (4.4.2.6)
unfoldable pub is_repeated : List (Option ExtensionName) → Option ExtensionName → Bool
is_repeated names None = false
is_repeated names (Some name) = nat_le 2 (called_count name names)

-- what is wrong in HDU h, whose cards describe a shape, and which is called as another is or isn't
abbrev pub wrong_in : ℕ → HduParts → Bool → Result Shape ℕ → List Problem
wrong_in h hdu repeated (Ok shape) = map (in_hdu h) (hdu_findings shape hdu repeated)
wrong_in h hdu repeated (Err place) = []

-- what is wrong in HDUs from number h on, among all that are called so
abbrev pub wrong_from : List (Option ExtensionName) → ℕ → List HduParts → List Problem
wrong_from names h [] = []
wrong_from names h (hdu ∷ hdus) =
    wrong_in h hdu (is_repeated names (name_in h hdu)) (shape_of (is_primary_hdu h) hdu.header.cards) ++ wrong_from names (h + 1) hdus

-- that bytes follow the last HDU, and would be HDU h (3.5)
abbrev pub trails : ℕ → Problem
trails h = record { hdu = h; place = 0; code = TrailingBytes }

-- said where any do
abbrev pub trailing : ℕ → List ℕ → List Problem
trailing h [] = []
trailing h (byte ∷ bytes) = trails h ∷ []

-- the report: by HDU, by place, by the code's number
unfoldable pub report_of : FileParts → List Problem
report_of file = wrong_from (names_from 1 file.hdus) 1 file.hdus ++ trailing (length file.hdus + 1) file.tail

-- how many errors and warnings a report has
abbrev pub counts_in : List Problem → Counts
counts_in report = counts_of (map (λ (it : Problem). it.code) report)

-- a problem stands before another: by HDU, by place, by the code's number
abbrev pub IsListedBefore : Problem → Problem → Type 0
IsListedBefore problem other =
    (problem.hdu < other.hdu)
    ⊎ ((problem.hdu ≡ other.hdu) × ((problem.place < other.place) ⊎ ((problem.place ≡ other.place) × (number problem.code < number other.code))))

-- what findings call their HDUs
abbrev pub found_names : List Findings → List (Option ExtensionName)
found_names found = map (λ (it : Findings). it.name) found

-- what is wrong by what was found of HDUs from number h on, among all that are called so
abbrev pub found_from : List (Option ExtensionName) → ℕ → List Findings → List Problem
found_from names h [] = []
found_from names h (it ∷ found) =
    map (in_hdu h) (found_at 0 (it.whole ++ name_codes (is_repeated names it.name)) ++ it.of_cards.items) ++ found_from names (h + 1) found

-- the bytes are a file, and this is its report
pub record IsReportOf (report : List Problem) (bytes : List ℕ) : Type 0 where
  pub file : FileParts
  pub opened : IsFileOf bytes file
  pub all : report ≡ report_of file

-- the same, and these are the cards of its headers
pub record IsCardReportOf (report : List Problem) (cards : List (List (List ℕ))) (bytes : List ℕ) : Type 0 where
  pub file : FileParts
  pub opened : IsFileOf bytes file
  pub all : report ≡ report_of file
  pub cards_are : cards ≡ cards_of file.hdus
