use Rattle.fits_session.specs.Session.{marked_of}
use Rattle.fits_patch.specs.Making.{lines_made, lines_of}
use Rattle.fits_patch.proofs.MakingLemmas.{line_last, line_next, line_stops}
use Rattle.fits_patch.proofs.making.make_script.Goals as goal

pub returns-in-Err-clause-err : goal.returns-in-Err-clause-err
returns-in-Err-clause-err g c =
    line_stops (marked_of c.line.session) c.in-Some.line.now c.in-Some.more.now c.line.rest.now (lines_made (marked_of c.args.session.now) (lines_of c.args.script.now)) c.in-Err.why c.in-Some.ensures.some.0 c.in-Some.ensures.some.1 c.line.invariant.so_far
    c.in-Err.ensures.err

pub line-preserved : goal.line-preserved
line-preserved g c = record {
  so_far = line_next (marked_of c.line.session) (marked_of c.make_next.new.session) c.in-Some.line.now c.in-Some.more.now c.line.rest.now (lines_made (marked_of c.args.session.now) (lines_of c.args.script.now)) c.in-Some.ensures.some.0 c.in-Some.ensures.some.1
      c.line.invariant.so_far c.in-Ok.ensures.ok;
}

-- the last line
pub returns-clause-ok : goal.returns-clause-ok
returns-clause-ok g c = rw (line_last (marked_of c.line.session) c.line.rest.now (lines_made (marked_of c.args.session.now) (lines_of c.args.script.now)) c.in_default.ensures.none c.line.invariant.so_far) c.make_next-2.ensures.ok

pub returns-clause-err : goal.returns-clause-err
returns-clause-err g c = rw (line_last (marked_of c.line.session) c.line.rest.now (lines_made (marked_of c.args.session.now) (lines_of c.args.script.now)) c.in_default.ensures.none c.line.invariant.so_far) c.make_next-2.ensures.err
