use Rattle.std.proofs.Common.{true, false}
use Rattle.fits_stream.proofs.GaveLemmas.{overruns_so}
use Rattle.fits_stream.proofs.SightLemmas.{takes_then_fails, takes_then_quiet}
use Rattle.fits_passing.specs.Headers.{read_cards}
use Rattle.fits_passing.proofs.HeadersLemmas.{headers_over, headers_stay, over_when, within_when}
use Rattle.fits_passing.proofs.headers.read_headers.Goals as goal

-- more is left than may be taken
pub returns-in-Ok-true-clause-ok : goal.returns-in-Ok-true-clause-ok
returns-in-Ok-true-clause-ok g c =
    headers_over (g.R.Source.state c.args.source.now) _ _ c.in_ok-intake.intake (read_cards c.walk_headers.new.headers.items) c.in-Ok.fault c.in_ok-intake.ensures c.in-Ok.ensures.ok (over_when _ _ c.in-Ok-true.field-0 c.in-Ok-true.field-0-test c.in-Ok-true.ensures.more)
    (overruns_so _ _ _ c.in-Ok-true.field-0 true c.in-Ok-true.field-0-test c.in-Ok-true.ensures.came)

-- no more is
pub returns-in-Ok-false-clause-ok : goal.returns-in-Ok-false-clause-ok
returns-in-Ok-false-clause-ok g c =
    headers_stay (g.R.Source.state c.args.source.now) _ _ c.in_ok-intake.intake (read_cards c.walk_headers.new.headers.items) c.in-Ok.fault c.in_ok-intake.ensures c.in-Ok.ensures.ok (within_when _ _ c.in-Ok-false.field-0 c.in-Ok-false.field-0-test c.in-Ok-false.ensures.more)
    (overruns_so _ _ _ c.in-Ok-false.field-0 false c.in-Ok-false.field-0-test c.in-Ok-false.ensures.came) (c.in-Ok-false.ensures.over c.in-Ok-false.field-0-test)

pub returns-in-Ok-true-clause-quiet : goal.returns-in-Ok-true-clause-quiet
returns-in-Ok-true-clause-quiet g c = takes_then_quiet _ _ _ _ c.in-Ok.ensures.ok.taken c.in-Ok-true.ensures.quiet

pub returns-in-Ok-false-clause-quiet : goal.returns-in-Ok-false-clause-quiet
returns-in-Ok-false-clause-quiet g c = takes_then_quiet _ _ _ _ c.in-Ok.ensures.ok.taken c.in-Ok-false.ensures.quiet

pub returns-in-Err-overruns-clause-err : goal.returns-in-Err-overruns-clause-err
returns-in-Err-overruns-clause-err g c = takes_then_fails _ _ _ _ c.in-Ok.ensures.ok.taken c.in-Err-overruns.ensures.err
