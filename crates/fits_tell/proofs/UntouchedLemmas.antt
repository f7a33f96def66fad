-- The lines on wrong sums, from the sums that were found.
use Rattle.std.proofs.Common.{◌≡◌, ℕ, ◌+◌, List, [], ◌∷◌, ◌++◌, refl, ap, ◌∙◌}
use Rattle.fits_stream.specs.Stream.{SourceState, SinkState, Prints, StaysQuiet}
use Rattle.fits_passing.specs.Hdu.{HduParts}
use Rattle.fits_passing.specs.Sums.{verdicts_of}
use Rattle.fits_passing.specs.declared.hdu_sums.HduSums.{HduSums}
use Rattle.fits_passing.specs.File.{FileParts}
use Rattle.fits_passing.specs.Reading.{is_summed, AreSumsOfFile, GaveWhole, KeepsEach}
use Rattle.fits_tell.specs.Numbered.{numbered}
use Rattle.fits_tell.specs.Telling.{PrintingStops, TextIsTold, TextStopsBy}
use Rattle.fits_tell.specs.Untouched.{untouched, untouched_by, untouched_lines}
use Rattle.fits_tell.specs.declared.fault.Fault.{Fault}
use Rattle.fits_tell.specs.declared.telling.Telling.TheVariants as telling
use Rattle.fits_tell.proofs.TellingLemmas.{TextStopsBy-printing}

-- the lines by sums are those of their HDUs
untouched_same : (n : ℕ) (sums : List HduSums) (us : List HduParts) → KeepsEach is_summed sums us → numbered (λ h (it : HduSums). untouched_lines h it.verdicts) n sums ≡ numbered (λ h (hdu : HduParts). untouched_lines h (verdicts_of hdu)) n us
untouched_same n [] [] p = refl
untouched_same n [] (u ∷ us) p = absurd p
untouched_same n (it ∷ sums) [] p = absurd p
untouched_same n (it ∷ sums) (u ∷ us) p =
    let rest : List ℕ = numbered (λ h (i : HduSums). untouched_lines h i.verdicts) (n + 1) sums in
    ap (λ v. untouched_lines n v ++ rest) p.0.right
    ∙ ap (λ t. untouched_lines n (verdicts_of u) ++ t) (untouched_same (n + 1) sums us p.1)

-- of a file
untouched_found : (sums : List HduSums) (file : FileParts) → KeepsEach is_summed sums file.hdus → untouched_by sums ≡ untouched file
unfolding untouched
untouched_found sums file each = untouched_same 1 sums file.hdus each

-- they are told
pub told_untouched : (file file_after : SourceState) (out out_after : SinkState) (sums : List HduSums) → GaveWhole file file_after (AreSumsOfFile sums) → StaysQuiet file file_after → Prints (untouched_by sums) out out_after → TextIsTold telling.Untouched file file_after out out_after 0
told_untouched file file_after out out_after sums given quiet printed =
    let parts : FileParts = given.is.0 in
    record { parts = parts; opened = record { bytes = given.bytes; told = given.told; gave = given.gave; is = given.is.1 }; read = quiet; printed = rw (← untouched_found sums parts given.is.2) printed; status_is = refl }

-- or a prefix of them
pub TextStopsBy-untouched : (file file_after : SourceState) (out out_after : SinkState) (sums : List HduSums) (fault : Fault) → GaveWhole file file_after (AreSumsOfFile sums) → StaysQuiet file file_after → PrintingStops (untouched_by sums) out out_after fault
    → TextStopsBy telling.Untouched file file_after out out_after fault
TextStopsBy-untouched file file_after out out_after sums fault given quiet stops =
    let parts : FileParts = given.is.0 in
    TextStopsBy-printing telling.Untouched file file_after out out_after parts fault (record { bytes = given.bytes; told = given.told; gave = given.gave; is = given.is.1 }) quiet (rw (← untouched_found sums parts given.is.2) stops)
