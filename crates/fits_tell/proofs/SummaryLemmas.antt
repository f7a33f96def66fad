-- How many of what a report lists have each code.
use Rattle.std.proofs.Common.{◌≡◌, ℕ, suc, ◌+◌, ◌<◌, ◌≤◌, true, false, Bool, List, ◌++◌, length, take, get_or, refl, ap, sym, ◌∙◌, append_assoc, arith}
use Rattle.std.specs.List.{find}
use Rattle.std.proofs.lemmas.List.{append-nil, take_all, length-take-le}
use Rattle.std.proofs.lemmas.List.Sums.{count_by-le-length, count_by_more_yes, count_by_more_no}
use Rattle.fits_stream.specs.Stream.{SourceState, SinkState, Prints, StaysQuiet}
use Rattle.fits_passing.specs.Reading.{GaveWhole}
use Rattle.fits_passing.specs.declared.problem.Problem.{Problem}
use Rattle.fits_tell.specs.Listed.{status_of_report}
use Rattle.fits_tell.specs.Summary.{code_line, code_lines, count_of, has_number, summary_text}
use Rattle.fits_tell.specs.TableReport.{listed_by}
use Rattle.fits_tell.specs.Telling.{IsToldReport, PrintingStops, TextIsTold, TextStopsBy}
use Rattle.fits_tell.specs.declared.fault.Fault.{Fault}
use Rattle.fits_tell.specs.declared.level.Level.{Level}
use Rattle.fits_tell.specs.declared.listed.Listed.{Listed}
use Rattle.fits_tell.specs.declared.telling.Telling.TheVariants as telling
use Rattle.fits_tell.proofs.TableReportLemmas.{report_read}
use Rattle.fits_tell.proofs.TellingLemmas.{TextStopsBy-printing}

-- none of nothing
pub counted-none : (number : ℕ) (report : List Listed) → 0 ≡ count_of number (take 0 report)
counted-none number report = refl

-- one more
pub counted-more : (number : ℕ) (report : List Listed) (i count : ℕ) (d : Listed) → i < length report → has_number number (get_or report i d) ≡ true → count ≡ count_of number (take i report) → count + 1 ≡ count_of number (take (i + 1) report)
counted-more number report i count d l e are = omega (arith, are, count_by_more_yes (has_number number) report i d l e)

-- no more
pub counted-same : (number : ℕ) (report : List Listed) (i count : ℕ) (d : Listed) → i < length report → has_number number (get_or report i d) ≡ false → count ≡ count_of number (take i report) → count ≡ count_of number (take (i + 1) report)
counted-same number report i count d l e are = are ∙ sym (count_by_more_no (has_number number) report i d l e)

-- no more than there are so far
pub counted-within : (number : ℕ) (report : List Listed) (i count : ℕ) → count ≡ count_of number (take i report) → i ≤ length report → count ≤ i
counted-within number report i count are l = omega (arith, are, count_by-le-length (has_number number) (take i report), length-take-le i report l)

-- all of them
pub counted-whole : (number : ℕ) (report : List Listed) (i count : ℕ) → count ≡ count_of number (take i report) → length report ≤ i → count ≡ count_of number report
counted-whole number report i count are l = are ∙ ap (count_of number) (take_all i report l)

-- no more than are listed
pub counted-few : (number : ℕ) (report : List Listed) (count : ℕ) → count ≡ count_of number report → count ≤ length report
counted-few number report count are = omega (arith, are, count_by-le-length (has_number number) report)

pub ruleset count_steps = (counted-none, counted-more, counted-same, counted-within, counted-whole, counted-few)

-- no line yet
pub code_lines-none : (level : Level) (report : List Listed) (text : List ℕ) → text ≡ text ++ code_lines level report 0
unfolding code_lines
code_lines-none level report text = sym (append-nil text)

-- the line of the next code is added
pub code_lines-more : (level : Level) (report : List Listed) (last : ℕ) (start text new : List ℕ) → text ≡ start ++ code_lines level report last → new ≡ text ++ code_line level (count_of (last + 1) report) (find (has_number (last + 1)) report)
    → new ≡ start ++ code_lines level report (last + 1)
unfolding code_lines
code_lines-more level report last start text new so_far added =
    let next : List ℕ = code_line level (count_of (last + 1) report) (find (has_number (last + 1)) report) in
    let number : suc last ≡ last + 1 = omega arith in
    added ∙ ap (λ t. t ++ next) so_far ∙ append_assoc start (code_lines level report last) next ∙ ap (λ n. start ++ code_lines level report n) number

-- the summary is printed
pub TextIsTold-summary : (file file_after : SourceState) (out out_after : SinkState) (level : Level) (strict tables : Bool) (report : List Problem) (headers : List (List (List ℕ))) (problems : List Listed) (status : ℕ)
    → GaveWhole file file_after (IsToldReport tables report headers) → StaysQuiet file file_after → problems ≡ listed_by tables headers report → Prints (summary_text level problems) out out_after
    → status ≡ status_of_report strict problems → TextIsTold (telling.Summary level strict tables) file file_after out out_after status
TextIsTold-summary file file_after out out_after level strict tables report headers problems status given quiet is printed status_is =
    let all = report_read file file_after false tables report headers problems given is in
    record {
      parts = given.is.file;
      opened = record { bytes = given.bytes; told = given.told; gave = given.gave; is = given.is.opened };
      read = quiet;
      printed = rw (← all) printed;
      status_is = rw (← all) status_is;
    }

-- or a prefix of it
pub TextStopsBy-summary : (file file_after : SourceState) (out out_after : SinkState) (level : Level) (strict tables : Bool) (report : List Problem) (headers : List (List (List ℕ))) (problems : List Listed) (fault : Fault)
    → GaveWhole file file_after (IsToldReport tables report headers) → StaysQuiet file file_after → problems ≡ listed_by tables headers report → PrintingStops (summary_text level problems) out out_after fault
    → TextStopsBy (telling.Summary level strict tables) file file_after out out_after fault
TextStopsBy-summary file file_after out out_after level strict tables report headers problems fault given quiet is stops =
    let all = report_read file file_after false tables report headers problems given is in
    TextStopsBy-printing (telling.Summary level strict tables) file file_after out out_after given.is.file fault (record { bytes = given.bytes; told = given.told; gave = given.gave; is = given.is.opened }) quiet (rw (← all) stops)
