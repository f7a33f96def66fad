-- A run that prints a text of a file, from the bytes that were read to its end.
use Rattle.std.proofs.Common.{ℕ, List, refl, sym, subst, inr}
use Rattle.fits_passing.specs.declared.outline.Outline.{Outline}
use Rattle.fits_passing.specs.File.{FileParts}
use Rattle.fits_passing.specs.Reading.{GaveWhole, IsKeptOf, IsOutlineOf}
use Rattle.fits_tell.specs.Called.{IsCalled}
use Rattle.fits_tell.specs.Faults.{FlushFails}
use Rattle.fits_tell.specs.Listing.{called_len, called_line, outlined_len, plain_line}
use Rattle.fits_tell.specs.Placed.{placed_lines}
use Rattle.fits_stream.specs.Stream.{SourceState, SinkState, Flushes, Prints, StaysQuiet}
use Rattle.fits_tell.specs.Telling.{text_of, Opens, PrintingStops, TextIsPrinted, TextIsTold, TextStopsBy}
use Rattle.fits_tell.specs.declared.called_outline.CalledOutline.{CalledOutline}
use Rattle.fits_tell.specs.declared.fault.Fault.{Fault}
use Rattle.fits_tell.specs.declared.fault.Fault.TheVariants.{Refused, ScriptTooLong, Memory, ReadFailed, WriteFailed, Reread as RereadFault}
use Rattle.fits_tell.specs.declared.telling.Telling.{Telling}
use Rattle.fits_tell.specs.declared.telling.Telling.TheVariants as telling
use Rattle.fits_tell.proofs.ListingLemmas.{listing-called, listing-outlined}
use Rattle.fits_stream.proofs.StreamLemmas.{Prints-flushed, PrintsFront-unflushed}

-- a text that isn't printed to its end
pub TextStopsBy-printing : (kind : Telling) (file file_after : SourceState) (out out_after : SinkState) (parts : FileParts) (fault : Fault) → Opens file file_after parts → StaysQuiet file file_after
    → PrintingStops (text_of kind parts) out out_after fault → TextStopsBy kind file file_after out out_after fault
TextStopsBy-printing kind file file_after out out_after parts (Refused why) opened read stops = absurd stops
TextStopsBy-printing kind file file_after out out_after parts ScriptTooLong opened read stops = absurd stops
TextStopsBy-printing kind file file_after out out_after parts Memory opened read stops = record { read = read; quiet = stops.1; printed = inr (parts, opened, stops.0) }
TextStopsBy-printing kind file file_after out out_after parts ReadFailed opened read stops = absurd stops
TextStopsBy-printing kind file file_after out out_after parts (RereadFault why) opened read stops = absurd stops
TextStopsBy-printing kind file file_after out out_after parts WriteFailed opened read stops = record { parts = parts; opened = opened; read = read; printed = stops }

-- a text that can't be flushed
pub TextStopsBy-flush : (kind : Telling) (file file_after : SourceState) (out mid out_after : SinkState) (status : ℕ) (fault : Fault) → TextIsTold kind file file_after out mid status → FlushFails mid out_after fault → TextStopsBy kind file file_after out out_after fault
TextStopsBy-flush kind file file_after out mid out_after status fault told failed =
    subst (λ (f : Fault). TextStopsBy kind file file_after out out_after f) (sym failed.0)
    (record { parts = told.parts; opened = told.opened; read = told.read; printed = PrintsFront-unflushed out mid out_after (text_of kind told.parts) told.printed failed.1 })

-- a text that is flushed
pub TextIsPrinted-flushed : (kind : Telling) (file file_after : SourceState) (out mid out_after : SinkState) (status : ℕ) → TextIsTold kind file file_after out mid status → Flushes mid out_after → TextIsPrinted kind file file_after out out_after status
TextIsPrinted-flushed kind file file_after out mid out_after status told flush = record {
  parts = told.parts;
  opened = told.opened;
  read = told.read;
  printed = Prints-flushed out mid out_after (text_of kind told.parts) told.printed flush;
  flushed = flush.flushed;
  status_is = told.status_is;
}

-- the listing of outlines that were read
pub listed : (file file_after : SourceState) (out out_after : SinkState) (outlines : List Outline) → GaveWhole file file_after (IsOutlineOf outlines) → StaysQuiet file file_after → Prints (placed_lines plain_line outlined_len 1 0 outlines) out out_after → TextIsTold telling.List file file_after out out_after 0
listed file file_after out out_after outlines given quiet printed =
    let parts : FileParts = given.is.0 in
    record { parts = parts; opened = record { bytes = given.bytes; told = given.told; gave = given.gave; is = given.is.1 }; read = quiet; printed = rw (← listing-outlined outlines given.bytes parts given.is.1 given.is.2) printed; status_is = refl }

-- or a prefix of it
pub TextStopsBy-listing : (file file_after : SourceState) (out out_after : SinkState) (outlines : List Outline) (fault : Fault) → GaveWhole file file_after (IsOutlineOf outlines) → StaysQuiet file file_after → PrintingStops (placed_lines plain_line outlined_len 1 0 outlines) out out_after fault → TextStopsBy telling.List file file_after out out_after fault
TextStopsBy-listing file file_after out out_after outlines fault given quiet stops =
    let parts : FileParts = given.is.0 in
    TextStopsBy-printing telling.List file file_after out out_after parts fault (record { bytes = given.bytes; told = given.told; gave = given.gave; is = given.is.1 }) quiet
    (rw (← listing-outlined outlines given.bytes parts given.is.1 given.is.2) stops)

-- the same with what each HDU is called
pub listed_long : (file file_after : SourceState) (out out_after : SinkState) (outlines : List CalledOutline) → GaveWhole file file_after (IsKeptOf IsCalled outlines) → StaysQuiet file file_after → Prints (placed_lines called_line called_len 1 0 outlines) out out_after
    → TextIsTold telling.LongList file file_after out out_after 0
listed_long file file_after out out_after outlines given quiet printed =
    let parts : FileParts = given.is.0 in
    record { parts = parts; opened = record { bytes = given.bytes; told = given.told; gave = given.gave; is = given.is.1 }; read = quiet; printed = rw (← listing-called outlines given.bytes parts given.is.1 given.is.2) printed; status_is = refl }

-- or a prefix of that
pub TextStopsBy-long : (file file_after : SourceState) (out out_after : SinkState) (outlines : List CalledOutline) (fault : Fault) → GaveWhole file file_after (IsKeptOf IsCalled outlines) → StaysQuiet file file_after
    → PrintingStops (placed_lines called_line called_len 1 0 outlines) out out_after fault → TextStopsBy telling.LongList file file_after out out_after fault
TextStopsBy-long file file_after out out_after outlines fault given quiet stops =
    let parts : FileParts = given.is.0 in
    TextStopsBy-printing telling.LongList file file_after out out_after parts fault (record { bytes = given.bytes; told = given.told; gave = given.gave; is = given.is.1 }) quiet
    (rw (← listing-called outlines given.bytes parts given.is.1 given.is.2) stops)
