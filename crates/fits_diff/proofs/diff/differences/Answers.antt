use Rattle.std.proofs.Common.{◌++◌}
use Rattle.fits_stream.specs.Intake.{supply}
use Rattle.fits_stream.proofs.SightLemmas.{limited_source, takes_then_quiet}
use Rattle.fits_passing.specs.File.{joined_hdus}
use Rattle.fits_passing.specs.Reading.{WalkStops}
use Rattle.fits_passing.specs.declared.limits.TheConstants.{FILE_LIMIT}
use Rattle.fits_passing.proofs.WalkLemmas.{ends_before, fresh, read_stops, rest_gave}
use Rattle.fits_diff.proofs.FileLemmas.{file_ended, files_told}
use Rattle.fits_diff.proofs.diff.differences.Goals as goal

-- the first file isn't had
pub returns-in-Err-First-clause-err : goal.returns-in-Err-First-clause-err
returns-in-Err-First-clause-err g c =
    let a = g.F.Source.state c.args.a.now in
    let i = c.in_ok-first.first in
    let stops : WalkStops (supply a i) (supply (g.F.Source.state c.compare.new.a) c.compare.new.first) c.in-Err-First.why = rw c.in-Err-First.field-0-is at c.in-Err-First.ensures.err in (
      read_stops a (g.F.Source.state c.settled.new.source) i c.settled.result c.in_ok-first.ensures (c.settled.ensures.stops (supply a i) (limited_source FILE_LIMIT a i c.in_ok-first.ensures) stops),
      c.settled.ensures.gave (supply a i) (fresh a i c.in_ok-first.ensures) stops,
    )

-- the second isn't
pub returns-in-Err-Second-clause-err : goal.returns-in-Err-Second-clause-err
returns-in-Err-Second-clause-err g c =
    let b = g.F.Source.state c.args.b.now in
    let i = c.in_ok-second.second in
    let stops : WalkStops (supply b i) (supply (g.F.Source.state c.compare.new.b) c.compare.new.second) c.in-Err-Second.why = rw c.in-Err-Second.field-0-is at c.in-Err-Second.ensures.err in (
      read_stops b (g.F.Source.state c.settled-in-Err-Second.new.source) i c.settled-in-Err-Second.result c.in_ok-second.ensures (c.settled-in-Err-Second.ensures.stops (supply b i) (limited_source FILE_LIMIT b i c.in_ok-second.ensures) stops),
      c.settled-in-Err-Second.ensures.gave (supply b i) (fresh b i c.in_ok-second.ensures) stops,
    )

-- more of one came than may
pub returns-in-Err-end-clause-err : goal.returns-in-Err-end-clause-err
returns-in-Err-end-clause-err g c =
    let a = g.F.Source.state c.args.a.now in
    let i = c.in_ok-first.first in
    let p = c.in-Ok.ensures.ok in
    let now = supply (g.F.Source.state c.compare.new.a) c.compare.new.first in
    let z = g.F.Source.state c.end.new.source in
    let bytes = joined_hdus p.hdus ++ p.bytes in (
      read_stops a z i c.in-Err-end.why c.in_ok-first.ensures (ends_before (supply a i) now z bytes c.in-Err-end.why (limited_source FILE_LIMIT a i c.in_ok-first.ensures) p.passed.taken c.in-Err-end.ensures.err),
      rest_gave (supply a i) now z bytes c.in-Err-end.why (fresh a i c.in_ok-first.ensures) p.passed.taken c.in-Err-end.ensures.err,
    )

pub returns-in-Err-end-2-clause-err : goal.returns-in-Err-end-2-clause-err
returns-in-Err-end-2-clause-err g c =
    let b = g.F.Source.state c.args.b.now in
    let i = c.in_ok-second.second in
    let p = c.in-Ok.ensures.ok in
    let now = supply (g.F.Source.state c.compare.new.b) c.compare.new.second in
    let z = g.F.Source.state c.end-2.new.source in
    let bytes = joined_hdus p.others ++ p.bytes in (
      read_stops b z i c.in-Err-end-2.why c.in_ok-second.ensures (ends_before (supply b i) now z bytes c.in-Err-end-2.why (limited_source FILE_LIMIT b i c.in_ok-second.ensures) p.passed_other.taken c.in-Err-end-2.ensures.err),
      rest_gave (supply b i) now z bytes c.in-Err-end-2.why (fresh b i c.in_ok-second.ensures) p.passed_other.taken c.in-Err-end-2.ensures.err,
    )

pub returns-clause-ok : goal.returns-clause-ok
returns-clause-ok g c =
    let a = g.F.Source.state c.args.a.now in
    let b = g.F.Source.state c.args.b.now in
    let i = c.in_ok-first.first in
    let j = c.in_ok-second.second in
    let p = c.in-Ok.ensures.ok in
    let now = supply (g.F.Source.state c.compare.new.a) c.compare.new.first in
    let now_other = supply (g.F.Source.state c.compare.new.b) c.compare.new.second in
    let z = g.F.Source.state c.end.new.source in
    let z_other = g.F.Source.state c.end-2.new.source in
    let one = file_ended p.hdus p.bytes a i now z c.in_ok-first.ensures p.passed c.in-Ok-end.ensures.ok c.in-Ok-end.ensures.came c.in-Ok-end.ensures.over in
    let other = file_ended p.others p.bytes b j now_other z_other c.in_ok-second.ensures p.passed_other c.in-Ok-end-2.ensures.ok c.in-Ok-end-2.ensures.came c.in-Ok-end-2.ensures.over in
    record {
      file = record { hdus = p.hdus; tail = p.bytes ++ (now.ahead ++ one.rest) };
      other = record { hdus = p.others; tail = p.bytes ++ (now_other.ahead ++ other.rest) };
      opened = one.whole;
      opened_other = other.whole;
      read = takes_then_quiet (supply a i) now z (joined_hdus p.hdus ++ p.bytes) p.passed.taken c.in-Ok-end.ensures.quiet;
      read_other = takes_then_quiet (supply b j) now_other z_other (joined_hdus p.others ++ p.bytes) p.passed_other.taken c.in-Ok-end-2.ensures.quiet;
      told = files_told (supply a i) now (supply b j) now_other c.compare.new.text.items c.push_tail_line.new.text.items c.in-Ok.same one.rest other.rest p one.follows other.follows c.in_ok-push_tail_line.ensures;
    }
