-- The run of `stat`: its lines as they are printed, from the statistics that were found.
use Rattle.std.proofs.Common.{◌≡◌, ℕ, ◌+◌, ◌<◌, Bool, true, false, List, [], ◌∷◌, ◌++◌, take, drop, refl, ap, sym, ◌∙◌, arith, rules, All}
use Rattle.std.specs.Prelude.{nat_le, Ok}
use Rattle.std.proofs.lemmas.List.Elements.{All-head, All-tail}
use Rattle.fits_stream.specs.Stream.{SourceState, SinkState, Prints, StaysQuiet}
use Rattle.fits_rules.specs.Class.{is_primary}
use Rattle.fits_rules.specs.Shape.{shape_of}
use Rattle.fits_passing.specs.Hdu.{HduParts, IsHdu}
use Rattle.fits_passing.specs.declared.hdu_stats.HduStats.{HduStats}
use Rattle.fits_passing.proofs.ShapeLemmas.{one_primary}
use Rattle.fits_passing.specs.File.{FileParts, IsFileOf, is_primary_hdu}
use Rattle.fits_passing.specs.Reading.{are_stats, AreStatisticsOfFile, GaveWhole, KeepsEach}
use Rattle.fits_tell.specs.Numbered.{numbered}
use Rattle.fits_tell.specs.Stating.{stat_line, stat_line_by, stat_line_of, stat_lines, stating}
use Rattle.fits_tell.specs.Telling.{PrintingStops, TextIsTold, TextStopsBy}
use Rattle.fits_tell.specs.declared.fault.Fault.{Fault}
use Rattle.fits_tell.specs.declared.telling.Telling.TheVariants as telling
use Rattle.fits_tell.proofs.TellingLemmas.{TextStopsBy-printing}

-- the line of an HDU is that of its statistics
line_same : (h : ℕ) (primary : Bool) (it : HduStats) (u : HduParts) → is_primary_hdu h ≡ primary → IsHdu primary u → are_stats it u → stat_line h it.stats ≡ stat_line_of h u
line_same h primary it u at whole found =
    let class : is_primary found.shape.class ≡ primary = one_primary (is_primary found.shape.class) primary u.header.cards found.shape whole.shape found.described whole.described in
    let described : shape_of (is_primary_hdu h) u.header.cards ≡ Ok found.shape = ap (λ b. shape_of b u.header.cards) (at ∙ sym class) ∙ found.described in
    ap (stat_line h) found.are ∙ ap (stat_line_by h u) (sym described)

-- HDU 2 and those after it aren't the primary one
past_one : (n : ℕ) → 1 < n → nat_le n 1 ≡ false
past_one n l = search rules

-- the lines of extensions
extension_lines : (k : ℕ) (stats : List HduStats) (us : List HduParts) → KeepsEach are_stats stats us → All (IsHdu false) us → numbered (λ h (it : HduStats). stat_line h it.stats) (2 + k) stats ≡ numbered stat_line_of (2 + k) us
extension_lines k [] [] p q = refl
extension_lines k [] (u ∷ us) p q = absurd p
extension_lines k (it ∷ stats) [] p q = absurd p
extension_lines k (it ∷ stats) (u ∷ us) p q =
    let next : 2 + k + 1 ≡ 2 + (k + 1) = omega arith in
    ap (λ t. t ++ numbered (λ h (i : HduStats). stat_line h i.stats) (2 + k + 1) stats) (line_same (2 + k) false it u (past_one (2 + k) (omega arith)) (All-head (IsHdu false) u us q) p.0)
    ∙ ap (λ t. stat_line_of (2 + k) u ++ t)
    (ap (λ n. numbered (λ h (i : HduStats). stat_line h i.stats) n stats) next ∙ extension_lines (k + 1) stats us p.1 (All-tail (IsHdu false) u us q) ∙ ap (λ n. numbered stat_line_of n us) (sym next))

-- the lines of the primary HDU and of extensions
front_lines : (stats : List HduStats) (us : List HduParts) → All (IsHdu true) (take 1 us) → All (IsHdu false) (drop 1 us) → KeepsEach are_stats stats us → stat_lines stats ≡ numbered stat_line_of 1 us
front_lines [] [] first others p = refl
front_lines [] (u ∷ us) first others p = absurd p
front_lines (it ∷ stats) [] first others p = absurd p
front_lines (it ∷ stats) (u ∷ us) first others p =
    ap (λ t. t ++ numbered (λ h (i : HduStats). stat_line h i.stats) 2 stats) (line_same 1 true it u refl (first 0 u (omega arith)) p.0)
    ∙ ap (λ t. stat_line_of 1 u ++ t) (extension_lines 0 stats us p.1 others)

-- the lines of a file's statistics are its text
stating-found : (stats : List HduStats) (bytes : List ℕ) (file : FileParts) → IsFileOf bytes file → KeepsEach are_stats stats file.hdus → stat_lines stats ≡ stating file
unfolding stating
stating-found stats bytes file p each = front_lines stats file.hdus p.front.first p.front.others each

-- the statistics that were found are told
pub stated : (file file_after : SourceState) (out out_after : SinkState) (stats : List HduStats) → GaveWhole file file_after (AreStatisticsOfFile stats) → StaysQuiet file file_after → Prints (stat_lines stats) out out_after
    → TextIsTold telling.Statistics file file_after out out_after 0
stated file file_after out out_after stats given quiet printed =
    let parts : FileParts = given.is.0 in
    record { parts = parts; opened = record { bytes = given.bytes; told = given.told; gave = given.gave; is = given.is.1 }; read = quiet; printed = rw (← stating-found stats given.bytes parts given.is.1 given.is.2) printed; status_is = refl }

-- or a prefix of them
pub TextStopsBy-stating : (file file_after : SourceState) (out out_after : SinkState) (stats : List HduStats) (fault : Fault) → GaveWhole file file_after (AreStatisticsOfFile stats) → StaysQuiet file file_after → PrintingStops (stat_lines stats) out out_after fault
    → TextStopsBy telling.Statistics file file_after out out_after fault
TextStopsBy-stating file file_after out out_after stats fault given quiet stops =
    let parts : FileParts = given.is.0 in
    TextStopsBy-printing telling.Statistics file file_after out out_after parts fault (record { bytes = given.bytes; told = given.told; gave = given.gave; is = given.is.1 }) quiet (rw (← stating-found stats given.bytes parts given.is.1 given.is.2) stops)
