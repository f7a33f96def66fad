-- The lines of a script, made one after another.
use Rattle.std.proofs.Common.{◌≡◌, ℕ, List, [], ◌∷◌, ◌++◌, Option, Ok, Err, refl, ap, sym, ◌∙◌}
use Rattle.fits_making.specs.declared.refusal.Refusal.{Refusal}
use Rattle.fits_passing.specs.File.{FileParts}
use Rattle.fits_session.specs.Marked.{Marked, unmarked}
use Rattle.fits_script.specs.Cut.{HasNo}
use Rattle.fits_script.specs.Line.{reading_of}
use Rattle.fits_script.proofs.PartsLemmas.{parts-cut, parts-none}
use Rattle.fits_patch.specs.Making.{line_made, lines_made, lines_of, made_then, script_made, Made}
use Rattle.fits_patch.specs.Steps.{ScriptStops}
use Rattle.fits_patch.specs.declared.patch_fault.PatchFault.{PatchFault}
use Rattle.fits_patch.specs.declared.patch_fault.PatchFault.TheVariants as patch

-- what a line makes comes before what the others do
line_first : (it : Marked) (line more rest : List ℕ) → HasNo 10 line → rest ≡ line ++ 10 ∷ more → lines_made it (lines_of rest) ≡ made_then (line_made it line (reading_of line)) (λ next. lines_made next (lines_of more))
line_first it line more rest none cut = ap (λ t. lines_made it (lines_of t)) cut ∙ ap (lines_made it) (parts-cut 10 line more none)

-- a line is made
pub line_next : (it next : Marked) (line more rest : List ℕ) (all : Made) → HasNo 10 line → rest ≡ line ++ 10 ∷ more → lines_made it (lines_of rest) ≡ all → line_made it line (reading_of line) ≡ Ok next → lines_made next (lines_of more) ≡ all
line_next it next line more rest all none cut so_far made =
    sym (line_first it line more rest none cut ∙ ap (λ m. made_then m (λ left. lines_made left (lines_of more))) made) ∙ so_far

-- what is left after all lines
left_last : (made : Made) → made_then made (λ next. lines_made next []) ≡ made
left_last (Ok it) = refl
left_last (Err stop) = refl

-- the last one is all that is left
pub line_last : (it : Marked) (rest : List ℕ) (all : Made) → HasNo 10 rest → lines_made it (lines_of rest) ≡ all → all ≡ line_made it rest (reading_of rest)
line_last it rest all none so_far = sym so_far ∙ ap (lines_made it) (parts-none 10 rest none) ∙ left_last (line_made it rest (reading_of rest))

-- why one isn't is why all aren't
stops_so : (made all : Made) (fault : PatchFault) → ((stop : List ℕ × Option Refusal) → made ≡ Err stop → all ≡ Err stop) → ScriptStops made fault → ScriptStops all fault
stops_so made all (patch.Second why) so stops = absurd stops
stops_so made all patch.OtherCount so stops = absurd stops
stops_so made all (patch.Unmade line why) so stops = so (line.items, why) stops
stops_so made all patch.Unlike so stops = absurd stops
stops_so made all patch.Memory so stops = tt
stops_so made all patch.WriteFailed so stops = absurd stops

-- a line isn't made
pub line_stops : (it : Marked) (line more rest : List ℕ) (all : Made) (fault : PatchFault) → HasNo 10 line → rest ≡ line ++ 10 ∷ more → lines_made it (lines_of rest) ≡ all → ScriptStops (line_made it line (reading_of line)) fault → ScriptStops all fault
line_stops it line more rest all fault none cut so_far stops =
    stops_so (line_made it line (reading_of line)) all fault
    (λ stop is. sym so_far ∙ line_first it line more rest none cut ∙ ap (λ m. made_then m (λ left. lines_made left (lines_of more))) is) stops

-- what is made of the lines is what is made of the file
pub script_is : (file : FileParts) (it : Marked) (script text : List ℕ) → it ≡ unmarked file → script ≡ text → lines_made it (lines_of script) ≡ script_made file text
script_is file it script text first same = ap (λ m. lines_made m (lines_of script)) first ∙ ap (λ t. lines_made (unmarked file) (lines_of t)) same
