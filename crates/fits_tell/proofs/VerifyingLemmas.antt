-- The run of `verify`: its lines as they are printed, from the problems that were found.
use Rattle.std.proofs.Common.{◌≡◌, ℕ, ◌+◌, ◌<◌, ◌≤◌, Bool, List, [], ◌++◌, length, take, drop, get_or, refl, ap, sym, subst, ◌∙◌}
use Rattle.std.specs.List.{flat_map}
use Rattle.std.proofs.lemmas.List.{take_all}
use Rattle.fits_stream.proofs.StreamLemmas.{Gains-none, Prints-more, PrintsFront-more, PrintsFront-longer, GainsFront-more, GainsFront-longer, GainsFront-whole}
use Rattle.fits_tell.specs.Faults.{PrintFails}
use Rattle.fits_stream.specs.Stream.{SinkState, Prints}
use Rattle.fits_tell.specs.Telling.{PrintingStops}
use Rattle.fits_tell.specs.declared.fault.Fault.{Fault}
use Rattle.fits_tell.specs.declared.fault.Fault.TheVariants.{Refused, ScriptTooLong, Memory, ReadFailed, WriteFailed, Reread as RereadFault}
use Rattle.fits_tell.proofs.ReportLemmas.{lines-more, lines-split}

-- a text of which nothing is printed, for want of memory
pub PrintingStops-none : (a : SinkState) (text : List ℕ) → PrintingStops text a a Memory
PrintingStops-none a text = (GainsFront-longer a.contents a.contents [] text (GainsFront-whole a.contents a.contents [] (Gains-none a.contents)), refl)

-- a text that a failed write stops
pub PrintingStops-print : (a b : SinkState) (text : List ℕ) (fault : Fault) → PrintFails text a b fault → PrintingStops text a b fault
PrintingStops-print a b text fault failed = subst (λ (f : Fault). PrintingStops text a b f) (sym failed.0) failed.1

-- what stops a text stops a longer one
pub PrintingStops-longer : (a b : SinkState) (xs ys : List ℕ) (fault : Fault) → PrintingStops xs a b fault → PrintingStops (xs ++ ys) a b fault
PrintingStops-longer a b xs ys (Refused why) stops = absurd stops
PrintingStops-longer a b xs ys ScriptTooLong stops = absurd stops
PrintingStops-longer a b xs ys Memory stops = (GainsFront-longer a.contents b.contents xs ys stops.0, stops.1)
PrintingStops-longer a b xs ys ReadFailed stops = absurd stops
PrintingStops-longer a b xs ys (RereadFault why) stops = absurd stops
PrintingStops-longer a b xs ys WriteFailed stops = PrintsFront-longer a b xs ys stops

-- what stops a text stops it after another
pub PrintingStops-more : (a b c : SinkState) (xs ys : List ℕ) (fault : Fault) → Prints xs a b → PrintingStops ys b c fault → PrintingStops (xs ++ ys) a c fault
PrintingStops-more a b c xs ys (Refused why) front stops = absurd stops
PrintingStops-more a b c xs ys ScriptTooLong front stops = absurd stops
PrintingStops-more a b c xs ys Memory front stops = (GainsFront-more a.contents b.contents c.contents xs ys front.bytes stops.0, stops.1 ∙ front.quiet)
PrintingStops-more a b c xs ys ReadFailed front stops = absurd stops
PrintingStops-more a b c xs ys (RereadFault why) front stops = absurd stops
PrintingStops-more a b c xs ys WriteFailed front stops = PrintsFront-more a b c xs ys front stops

-- a report of which each has this line, and its closing line
abbrev pub report_by : {X : Type 0} → (X → List ℕ) → List ℕ → List X → List ℕ
report_by line closing report = flat_map line report ++ closing

-- the next line stops the report
pub stops_at_line : {X : Type 0} (a b c : SinkState) (line : X → List ℕ) (closing : List ℕ) (report : List X) (i : ℕ) (d : X) (fault : Fault) → i < length report → Prints (flat_map line (take i report)) a b → PrintingStops (line (get_or report i d)) b c fault
    → PrintingStops (report_by line closing report) a c fault
stops_at_line a b c line closing report i d fault l front stops =
    let rest : List ℕ = flat_map line (drop (i + 1) report) in
    let next : List ℕ = line (get_or report i d) in
    let lines : flat_map line report ≡ (flat_map line (take i report) ++ next) ++ rest =
    lines-split line report (i + 1) ∙ ap (λ t. t ++ rest) (lines-more line report i d l) in
    PrintingStops-longer a c (flat_map line report) closing fault
    (rw lines (PrintingStops-longer a c (flat_map line (take i report) ++ next) rest fault (PrintingStops-more a b c (flat_map line (take i report)) next fault front stops)))

-- the closing line stops the report
pub stops_at_closing : {X : Type 0} (a b c : SinkState) (line : X → List ℕ) (closing : List ℕ) (report : List X) (i : ℕ) (fault : Fault) → length report ≤ i → Prints (flat_map line (take i report)) a b → PrintingStops closing b c fault
    → PrintingStops (report_by line closing report) a c fault
stops_at_closing a b c line closing report i fault l front stops =
    PrintingStops-more a b c (flat_map line report) closing fault (rw (take_all i report l) at front) stops

-- memory is refused before the closing line
pub stops_before_closing : {X : Type 0} (a b : SinkState) (line : X → List ℕ) (closing : List ℕ) (report : List X) (i : ℕ) → length report ≤ i → Prints (flat_map line (take i report)) a b → PrintingStops (report_by line closing report) a b Memory
stops_before_closing a b line closing report i l front = stops_at_closing a b b line closing report i Memory l front (PrintingStops-none b closing)

-- all lines, and the closing one
pub prints_report : {X : Type 0} (a b c : SinkState) (line : X → List ℕ) (closing : List ℕ) (report : List X) (i : ℕ) → length report ≤ i → Prints (flat_map line (take i report)) a b → Prints closing b c → Prints (report_by line closing report) a c
prints_report a b c line closing report i l front last = Prints-more a b c (flat_map line report) closing (rw (take_all i report l) at front) last

-- one more line
pub prints_line : {X : Type 0} (a b c : SinkState) (line : X → List ℕ) (report : List X) (i : ℕ) (d : X) → i < length report → Prints (flat_map line (take i report)) a b → Prints (line (get_or report i d)) b c
    → Prints (flat_map line (take (i + 1) report)) a c
prints_line a b c line report i d l front next =
    rw (lines-more line report i d l) (Prints-more a b c (flat_map line (take i report)) (line (get_or report i d)) front next)
