use Rattle.std.proofs.Common.{◌+◌, length, ap, arith, refl}
use Rattle.fits_stream.specs.Intake.{IntakeState, supply}
use Rattle.fits_stream.proofs.SightLemmas.{limited_source, takes_then_quiet}
use Rattle.fits_passing.specs.declared.limits.TheConstants.{FILE_LIMIT}
use Rattle.fits_passing.specs.Reading.{IsWalkOf}
use Rattle.fits_passing.proofs.WalkLemmas.{fresh, kept_alone, kept_before, kept_given, read_given, read_stops, rest_gave}
use Rattle.fits_tell.specs.Called.{IsCalled}
use Rattle.fits_tell.proofs.long_listing.read_called.Goals as goal

pub returns-in-Ok-end-clause-ok : goal.returns-in-Ok-end-clause-ok
returns-in-Ok-end-clause-ok g c =
    let old = g.R.Source.state c.args.source.now in
    let new = g.R.Source.state c.end.new.source in
    let kept = c.in-Ok.outlines.items in
    kept_alone IsCalled kept _ old new
    (read_given (IsWalkOf IsCalled kept _) old new c.in_ok-intake.intake c.in_ok-intake.ensures
    (kept_given IsCalled kept _ _ _ new (ap (λ (i : IntakeState). i.ahead) c.in_ok-intake.ensures) c.in-Ok.ensures.walked
    (omega (arith, ap (λ (i : IntakeState). length i.ahead + i.left) c.in_ok-intake.ensures)) refl c.in-Ok.ensures.some c.in-Ok.ensures.few c.in-Ok.ensures.ends c.in-Ok.ensures.short c.in-Ok-end.ensures.ok
    c.in-Ok-end.ensures.came c.in-Ok-end.ensures.over))

pub returns-in-Err-end-clause-err : goal.returns-in-Err-end-clause-err
returns-in-Err-end-clause-err g c =
    read_stops (g.R.Source.state c.args.source.now) (g.R.Source.state c.end.new.source) c.in_ok-intake.intake c.in-Err-end.fault c.in_ok-intake.ensures
    (kept_before IsCalled c.in-Ok.outlines.items _ _ (g.R.Source.state c.end.new.source) c.in-Err-end.fault (limited_source FILE_LIMIT (g.R.Source.state c.args.source.now) c.in_ok-intake.intake c.in_ok-intake.ensures) c.in-Ok.ensures.walked c.in-Err-end.ensures.err)

pub returns-in-Err-clause-err : goal.returns-in-Err-clause-err
returns-in-Err-clause-err g c =
    read_stops (g.R.Source.state c.args.source.now) (g.R.Source.state c.settled.new.source) c.in_ok-intake.intake c.settled.result c.in_ok-intake.ensures
    (c.settled.ensures.stops (supply (g.R.Source.state c.args.source.now) c.in_ok-intake.intake) (limited_source FILE_LIMIT (g.R.Source.state c.args.source.now) c.in_ok-intake.intake c.in_ok-intake.ensures) c.in-Err.ensures.err)

-- nothing failed
pub returns-in-Ok-end-clause-quiet : goal.returns-in-Ok-end-clause-quiet
returns-in-Ok-end-clause-quiet g c = takes_then_quiet _ _ _ _ c.in-Ok.ensures.walked.taken c.in-Ok-end.ensures.quiet

-- the fault is one of what came
pub returns-in-Err-clause-gave : goal.returns-in-Err-clause-gave
returns-in-Err-clause-gave g c = c.settled.ensures.gave _ (fresh (g.R.Source.state c.args.source.now) c.in_ok-intake.intake c.in_ok-intake.ensures) c.in-Err.ensures.err

pub returns-in-Err-end-clause-gave : goal.returns-in-Err-end-clause-gave
returns-in-Err-end-clause-gave g c =
    rest_gave _ _ (g.R.Source.state c.end.new.source) _ c.in-Err-end.fault (fresh (g.R.Source.state c.args.source.now) c.in_ok-intake.intake c.in_ok-intake.ensures) c.in-Ok.ensures.walked.taken c.in-Err-end.ensures.err
