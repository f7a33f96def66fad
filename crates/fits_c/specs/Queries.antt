-- What an HDU is and where it lies, its sums, and the problems of a file, in numbers (own).
use Rattle.std.specs.Prelude.{◌≡◌, ◌⊎◌, ℕ, ℤ, pos, negsuc, List, [], ◌∷◌, Result, Ok, Err}
use Rattle.std.specs.List.{flat_map}
use Rattle.fits_rules.specs.declared.array_shape.Shape.{Shape}
use Rattle.fits_rules.specs.declared.class.Class.{Class}
use Rattle.fits_rules.specs.declared.class.Class.TheVariants.{Primary, Groups, Image, Table, Other}
use Rattle.fits_image.specs.declared.kind.Kind.{Kind}
use Rattle.fits_image.specs.declared.kind.Kind.TheVariants.{U8, I8, I16, U16, I32, U32, I64, U64}
use Rattle.fits_codes.specs.Code.{number}
use Rattle.fits_passing.specs.File.{FileParts, offsets_from}
use Rattle.fits_passing.specs.Report.{report_of}
use Rattle.fits_passing.specs.declared.offsets.HduOffsets.{HduOffsets}
use Rattle.fits_passing.specs.declared.problem.Problem.{Problem}
use Rattle.fits_passing.specs.declared.verdict.Verdict.{Verdict}
use Rattle.fits_passing.specs.declared.verdict.Verdict.TheVariants.{Right, Missing, Wrong}
use Rattle.fits_passing.specs.declared.verdicts.Verdicts.{Verdicts}
use Rattle.fits_passing.specs.Stats.{Stats}
use Rattle.fits_session.specs.Query.{datasum_in, kind_in, shape_in, stats_in, verdicts_in}
use Rattle.fits_session.specs.Session.{file_of}
use Rattle.fits_making.specs.declared.refusal.Refusal.{Refusal}
use Rattle.fits_c.specs.Given.{NumbersLieIn}
use Rattle.fits_c.specs.Lines.{refusal_number}
use Rattle.fits_c.specs.Session.{QueryIsRefused, Stays}
use Rattle.fits_c.specs.declared.live.Live.{Live}
use Rattle.fits_c.specs.declared.numbers.Numbers.{Numbers}
use Rattle.fits_c.specs.declared.shaped.Shaped.{Shaped}
use Rattle.fits_c.specs.Wide.{IsWide, IsWideOrZero}
use Rattle.fits_c.specs.declared.summary.Summary.{Summary}
use Rattle.fits_c.specs.declared.sums.Sums.{Sums}

-- the number of a class
abbrev pub class_number : Class → ℕ
class_number Primary = 1
class_number Groups = 2
class_number Image = 3
class_number Table = 4
class_number Other = 5

-- that of the type of pixels, or 0 where it is no image of integers
abbrev pub kind_number : Result Kind Refusal → ℕ
kind_number (Ok U8) = 1
kind_number (Ok I8) = 2
kind_number (Ok I16) = 3
kind_number (Ok U16) = 4
kind_number (Ok I32) = 5
kind_number (Ok U32) = 6
kind_number (Ok I64) = 7
kind_number (Ok U64) = 8
kind_number (Err why) = 0

-- that of a verdict, as it is printed
abbrev pub verdict_number : Verdict → ℤ
verdict_number Right = pos 1
verdict_number Missing = pos 0
verdict_number Wrong = negsuc 0

-- this is what HDU h is, and where its axes lie in a session
pub record IsShapeOf (file : FileParts) (h : ℕ) (shaped : Shaped) (live : Live) : Type 0 where
  pub shape : Shape
  pub is : shape_in file h ≡ Ok shape
  pub axes_are : live.numbers.items ≡ shape.axes
  pub axes : NumbersLieIn shaped.axes live.numbers
  pub class_is : shaped.class ≡ class_number shape.class
  pub bitpix_is : shaped.bitpix ≡ shape.bitpix
  pub pixels_are : shaped.pixels ≡ kind_number (kind_in file h)

-- the sums of an HDU in numbers, or the first refusal of the two
abbrev pub sums_by : Result ℕ Refusal → Result Verdicts Refusal → Result Sums Refusal
sums_by (Err why) verdicts = Err why
sums_by (Ok sum) (Err why) = Err why
sums_by (Ok sum) (Ok verdicts) =
    Ok (record { datasum = sum; datasum_verdict = verdict_number verdicts.datasum; checksum_verdict = verdict_number verdicts.checksum })

-- those of HDU h
abbrev pub sums_of : FileParts → ℕ → Result Sums Refusal
sums_of file h = sums_by (datasum_in file h) (verdicts_in file h)

-- where an HDU begins, its data begin, and it ends
abbrev pub offset_numbers : HduOffsets → List ℕ
offset_numbers at = at.header_start ∷ at.data_start ∷ at.hdu_end ∷ []

-- a problem's code, its HDU, and its place
abbrev pub problem_numbers : Problem → List ℕ
problem_numbers it = number it.code ∷ it.hdu ∷ it.place ∷ []

-- what a query of that comes to
pub record ShapeComesTo (old : Live) (h number : ℕ) (shaped : Shaped) (new : Live) : Type 0 where
  pub stays : Stays old new
  pub given : ((number ≡ 0) × IsShapeOf (file_of old.session) h shaped new) ⊎ QueryIsRefused (shape_in (file_of old.session) h) number

-- what a query of sums does
abbrev pub SumsComeTo : Live → ℕ → ℕ → Sums → Type 0
SumsComeTo live h number sums =
    ((number ≡ 0) × (sums_of (file_of live.session) h ≡ Ok sums))
    ⊎ ((why : Refusal) × (number ≡ refusal_number why) × (sums_of (file_of live.session) h ≡ Err why))

-- statistics in numbers of C's
pub record IsSummaryOf (stats : Stats) (summary : Summary) : Type 0 where
  pub defined : summary.defined ≡ stats.defined
  pub blank : summary.blank ≡ stats.blank
  pub least : IsWideOrZero stats.least summary.least
  pub greatest : IsWideOrZero stats.greatest summary.greatest
  pub sum : IsWide stats.sum summary.sum

-- what a query of them does
abbrev pub StatsComeTo : Live → ℕ → ℕ → Summary → Type 0
StatsComeTo live h number summary =
    ((stats : Stats) × (number ≡ 0) × (stats_in (file_of live.session) h ≡ Ok stats) × IsSummaryOf stats summary)
    ⊎ ((why : Refusal) × (number ≡ refusal_number why) × (stats_in (file_of live.session) h ≡ Err why))

-- 0, or the number of refused memory
abbrev pub memory_number : {X E : Type 0} → Result X E → ℕ
memory_number (Ok done) = 0
memory_number (Err why) = 15

-- what one of offsets does: three numbers for each HDU, or memory is refused
pub record OffsetsComeTo (old : Live) (number : ℕ) (offsets : Numbers) (new : Live) : Type 0 where
  pub stays : Stays old new
  pub lie : NumbersLieIn offsets new.numbers
  pub given : (number ≡ 15) ⊎ ((number ≡ 0) × (new.numbers.items ≡ flat_map offset_numbers (offsets_from 0 (file_of old.session).hdus)))

-- what one of problems does: three numbers for each
pub record ProblemsComeTo (old : Live) (number : ℕ) (problems : Numbers) (new : Live) : Type 0 where
  pub stays : Stays old new
  pub lie : NumbersLieIn problems new.numbers
  pub given : (number ≡ 15) ⊎ ((number ≡ 0) × (new.numbers.items ≡ flat_map problem_numbers (report_of (file_of old.session))))
