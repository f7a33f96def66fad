-- What `stat` prints (own).
use Rattle.std.specs.Prelude.{ℕ, List, [], ◌++◌, codes, Option, None, Some, Result, Ok, Err}
use Rattle.std.specs.Fmt.{decimal}
use Rattle.fits_rules.specs.Shape.{shape_of}
use Rattle.fits_rules.specs.declared.array_shape.Shape.{Shape}
use Rattle.fits_passing.specs.Hdu.{HduParts}
use Rattle.fits_passing.specs.Stats.{Stats, stats_of}
use Rattle.fits_passing.specs.declared.hdu_stats.HduStats.{HduStats}
use Rattle.fits_passing.specs.File.{FileParts, is_primary_hdu}
use Rattle.fits_tell.specs.Numbered.{numbered}
use Rattle.fits_tell.specs.PixelLines.{statistics_line}

-- what is told of an HDU's pixels: their statistics, or a hyphen where it is no image of integers
abbrev pub stats_text : Option Stats → List ℕ
stats_text None = codes "-\n"
stats_text (Some stats) = statistics_line stats

-- the HDU, and that
unfoldable pub stat_line : ℕ → Option Stats → List ℕ
stat_line h stats = decimal h ++ (codes " " ++ stats_text stats)

-- the line of an HDU that has a shape
abbrev pub stat_line_by : ℕ → HduParts → Result Shape ℕ → List ℕ
stat_line_by h hdu (Ok shape) = stat_line h (stats_of shape hdu)
stat_line_by h hdu (Err place) = []

-- the line of HDU h
abbrev pub stat_line_of : ℕ → HduParts → List ℕ
stat_line_of h hdu = stat_line_by h hdu (shape_of (is_primary_hdu h) hdu.header.cards)

-- one line for each HDU of a file
unfoldable pub stating : FileParts → List ℕ
stating file = numbered stat_line_of 1 file.hdus

-- the same of statistics that were found
abbrev pub stat_lines : List HduStats → List ℕ
stat_lines stats = numbered (λ h (it : HduStats). stat_line h it.stats) 1 stats
