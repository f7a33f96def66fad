-- The run of `sum`: its lines as they are printed, from the sums that were found.
use Rattle.std.proofs.Common.{◌≡◌, ℕ, ◌+◌, ◌<◌, Bool, ◌||◌, if◌then◌else◌, List, [], ◌∷◌, ◌++◌, length, take, drop, get_or, refl, ap, sym, ◌∙◌, append_assoc, arith}
use Rattle.std.specs.List.{list_any}
use Rattle.std.proofs.lemmas.List.{append-nil, take-append-drop, take_more, length-take-le}
use Rattle.fits_passing.specs.Hdu.{HduParts}
use Rattle.fits_passing.specs.Sums.{data_sum, verdicts_of}
use Rattle.fits_passing.specs.declared.hdu_sums.HduSums.{HduSums}
use Rattle.fits_passing.specs.File.{FileParts}
use Rattle.fits_passing.specs.Reading.{is_summed, AreSumsOfFile, GaveWhole, KeepsEach}
use Rattle.fits_stream.specs.Stream.{SourceState, SinkState, Prints, StaysQuiet}
use Rattle.fits_tell.specs.Summing.{any_wrong, has_wrong, summed_from, summed_line, summed_lines, summing, wrong_line, wrong_lines, wrong_summing}
use Rattle.fits_tell.specs.Numbered.{numbered}
use Rattle.fits_tell.specs.Telling.{PrintingStops, TextIsTold, TextStopsBy}
use Rattle.fits_tell.specs.declared.fault.Fault.{Fault}
use Rattle.fits_tell.specs.declared.fault.Fault.TheVariants.{Memory}
use Rattle.fits_tell.specs.declared.telling.Telling.TheVariants as telling
use Rattle.fits_stream.proofs.StreamLemmas.{Prints-more}
use Rattle.fits_tell.proofs.TellingLemmas.{TextStopsBy-printing}
use Rattle.fits_tell.proofs.VerifyingLemmas.{PrintingStops-longer, PrintingStops-more, PrintingStops-none}

-- the lines of HDUs are those of their sums
lines_same : (n : ℕ) (sums : List HduSums) (us : List HduParts) → KeepsEach is_summed sums us → summed_lines n sums ≡ summed_from n us
lines_same n [] [] p = refl
lines_same n [] (u ∷ us) p = absurd p
lines_same n (it ∷ sums) [] p = absurd p
lines_same n (it ∷ sums) (u ∷ us) p =
    ap (λ s. summed_line n s it.verdicts ++ summed_lines (n + 1) sums) p.0.sum
    ∙ ap (λ v. summed_line n (data_sum u) v ++ summed_lines (n + 1) sums) p.0.right
    ∙ ap (λ t. summed_line n (data_sum u) (verdicts_of u) ++ t) (lines_same (n + 1) sums us p.1)

-- the lines of a file's sums
summing-summed : (sums : List HduSums) (file : FileParts) → KeepsEach is_summed sums file.hdus → summed_lines 1 sums ≡ summing file
unfolding summing
summing-summed sums file each = lines_same 1 sums file.hdus each

-- lines of some HDUs, and of more
lines-append : (n : ℕ) (xs ys : List HduSums) → summed_lines n (xs ++ ys) ≡ summed_lines n xs ++ summed_lines (n + length xs) ys
lines-append n [] ys =
    let number : n ≡ n + 0 = omega arith in
    ap (λ m. summed_lines m ys) number
lines-append n (x ∷ xs) ys =
    let line : List ℕ = summed_line n x.datasum x.verdicts in
    let number : n + 1 + length xs ≡ n + length (x ∷ xs) = omega arith in
    ap (λ t. line ++ t) (lines-append (n + 1) xs ys ∙ ap (λ m. summed_lines (n + 1) xs ++ summed_lines m ys) number)
    ∙ sym (append_assoc line (summed_lines (n + 1) xs) (summed_lines (n + length (x ∷ xs)) ys))

-- lines of the first HDUs, and of one more
lines-more : (sums : List HduSums) (i : ℕ) (d : HduSums) → i < length sums → summed_lines 1 (take (i + 1) sums) ≡ summed_lines 1 (take i sums) ++ summed_line (i + 1) (get_or sums i d).datasum (get_or sums i d).verdicts
lines-more sums i d l =
    let it : HduSums = get_or sums i d in
    let number : 1 + length (take i sums) ≡ i + 1 = omega (arith, length-take-le i sums (omega (arith, l))) in
    ap (summed_lines 1) (take_more sums i d l)
    ∙ lines-append 1 (take i sums) (it ∷ [])
    ∙ ap (λ n. summed_lines 1 (take i sums) ++ summed_lines n (it ∷ [])) number
    ∙ ap (λ t. summed_lines 1 (take i sums) ++ t) (append-nil (summed_line (i + 1) it.datasum it.verdicts))

-- lines of the first HDUs, and of the others
lines-split : (sums : List HduSums) (i : ℕ) → summed_lines 1 sums ≡ summed_lines 1 (take i sums) ++ summed_lines (1 + length (take i sums)) (drop i sums)
lines-split sums i = ap (summed_lines 1) (sym (take-append-drop i sums)) ∙ lines-append 1 (take i sums) (drop i sums)

-- one more line
pub prints_line : (a b c : SinkState) (sums : List HduSums) (i : ℕ) (d : HduSums) → i < length sums → Prints (summed_lines 1 (take i sums)) a b → Prints (summed_line (i + 1) (get_or sums i d).datasum (get_or sums i d).verdicts) b c
    → Prints (summed_lines 1 (take (i + 1) sums)) a c
prints_line a b c sums i d l front line =
    let it : HduSums = get_or sums i d in
    rw (lines-more sums i d l) (Prints-more a b c (summed_lines 1 (take i sums)) (summed_line (i + 1) it.datasum it.verdicts) front line)

-- the next line stops the text
pub stops_at_line : (a b c : SinkState) (sums : List HduSums) (i : ℕ) (d : HduSums) (fault : Fault) → i < length sums → Prints (summed_lines 1 (take i sums)) a b → PrintingStops (summed_line (i + 1) (get_or sums i d).datasum (get_or sums i d).verdicts) b c fault
    → PrintingStops (summed_lines 1 sums) a c fault
stops_at_line a b c sums i d fault l front stops =
    let line : List ℕ = summed_line (i + 1) (get_or sums i d).datasum (get_or sums i d).verdicts in
    let rest : List ℕ = summed_lines (1 + length (take (i + 1) sums)) (drop (i + 1) sums) in
    let lines : summed_lines 1 sums ≡ (summed_lines 1 (take i sums) ++ line) ++ rest = lines-split sums (i + 1) ∙ ap (λ t. t ++ rest) (lines-more sums i d l) in
    rw lines (PrintingStops-longer a c (summed_lines 1 (take i sums) ++ line) rest fault (PrintingStops-more a b c (summed_lines 1 (take i sums)) line fault front stops))

-- memory is refused before the next line
pub stops_before_line : (a b : SinkState) (sums : List HduSums) (i : ℕ) → Prints (summed_lines 1 (take i sums)) a b → PrintingStops (summed_lines 1 sums) a b Memory
stops_before_line a b sums i front =
    let rest : List ℕ = summed_lines (1 + length (take i sums)) (drop i sums) in
    rw (lines-split sums i) (PrintingStops-more a b b (summed_lines 1 (take i sums)) rest Memory front (PrintingStops-none b rest))

-- the sums that were found are told
pub summed : (file file_after : SourceState) (out out_after : SinkState) (sums : List HduSums) → GaveWhole file file_after (AreSumsOfFile sums) → StaysQuiet file file_after → Prints (summed_lines 1 sums) out out_after
    → TextIsTold telling.Sums file file_after out out_after 0
summed file file_after out out_after sums given quiet printed =
    let parts : FileParts = given.is.0 in
    record { parts = parts; opened = record { bytes = given.bytes; told = given.told; gave = given.gave; is = given.is.1 }; read = quiet; printed = rw (← summing-summed sums parts given.is.2) printed; status_is = refl }

-- or a prefix of them
pub TextStopsBy-summing : (file file_after : SourceState) (out out_after : SinkState) (sums : List HduSums) (fault : Fault) → GaveWhole file file_after (AreSumsOfFile sums) → StaysQuiet file file_after → PrintingStops (summed_lines 1 sums) out out_after fault
    → TextStopsBy telling.Sums file file_after out out_after fault
TextStopsBy-summing file file_after out out_after sums fault given quiet stops =
    let parts : FileParts = given.is.0 in
    TextStopsBy-printing telling.Sums file file_after out out_after parts fault (record { bytes = given.bytes; told = given.told; gave = given.gave; is = given.is.1 }) quiet (rw (← summing-summed sums parts given.is.2) stops)

-- lines of wrong sums are those of their HDUs
wrong_same : (n : ℕ) (sums : List HduSums) (us : List HduParts) → KeepsEach is_summed sums us → numbered (λ h (it : HduSums). wrong_line h it.datasum it.verdicts) n sums ≡ numbered (λ h (hdu : HduParts). wrong_line h (data_sum hdu) (verdicts_of hdu)) n us
wrong_same n [] [] p = refl
wrong_same n [] (u ∷ us) p = absurd p
wrong_same n (it ∷ sums) [] p = absurd p
wrong_same n (it ∷ sums) (u ∷ us) p =
    let rest : List ℕ = numbered (λ h (i : HduSums). wrong_line h i.datasum i.verdicts) (n + 1) sums in
    ap (λ s. wrong_line n s it.verdicts ++ rest) p.0.sum
    ∙ ap (λ v. wrong_line n (data_sum u) v ++ rest) p.0.right
    ∙ ap (λ t. wrong_line n (data_sum u) (verdicts_of u) ++ t) (wrong_same (n + 1) sums us p.1)

-- of a file
wrong_summed : (sums : List HduSums) (file : FileParts) → KeepsEach is_summed sums file.hdus → wrong_lines sums ≡ wrong_summing file
unfolding wrong_summing
wrong_summed sums file each = wrong_same 1 sums file.hdus each

-- whether one is wrong
wrong_found : (sums : List HduSums) (us : List HduParts) → KeepsEach is_summed sums us → has_wrong sums ≡ list_any (λ (hdu : HduParts). any_wrong (verdicts_of hdu)) us
wrong_found [] [] p = refl
wrong_found [] (u ∷ us) p = absurd p
wrong_found (it ∷ sums) [] p = absurd p
wrong_found (it ∷ sums) (u ∷ us) p = ap (λ v. any_wrong v || has_wrong sums) p.0.right ∙ ap (λ b. any_wrong (verdicts_of u) || b) (wrong_found sums us p.1)

-- the wrong sums that were found are told
pub summed_wrong : (file file_after : SourceState) (out out_after : SinkState) (sums : List HduSums) (wrong : Bool) (status : ℕ) → GaveWhole file file_after (AreSumsOfFile sums) → StaysQuiet file file_after → Prints (wrong_lines sums) out out_after → wrong ≡ has_wrong sums
    → status ≡ (if wrong then 1 else 0) → TextIsTold telling.WrongSums file file_after out out_after status
summed_wrong file file_after out out_after sums wrong status given quiet printed is said =
    let parts : FileParts = given.is.0 in
    record { parts = parts; opened = record { bytes = given.bytes; told = given.told; gave = given.gave; is = given.is.1 }; read = quiet; printed = rw (← wrong_summed sums parts given.is.2) printed; status_is = said ∙ ap (λ b. if b then 1 else 0) (is ∙ wrong_found sums parts.hdus given.is.2) }

-- or a prefix of them
pub TextStopsBy-wrong : (file file_after : SourceState) (out out_after : SinkState) (sums : List HduSums) (fault : Fault) → GaveWhole file file_after (AreSumsOfFile sums) → StaysQuiet file file_after → PrintingStops (wrong_lines sums) out out_after fault
    → TextStopsBy telling.WrongSums file file_after out out_after fault
TextStopsBy-wrong file file_after out out_after sums fault given quiet stops =
    let parts : FileParts = given.is.0 in
    TextStopsBy-printing telling.WrongSums file file_after out out_after parts fault (record { bytes = given.bytes; told = given.told; gave = given.gave; is = given.is.1 }) quiet (rw (← wrong_summed sums parts given.is.2) stops)
