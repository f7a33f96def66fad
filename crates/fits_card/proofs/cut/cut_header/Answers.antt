use Rattle.std.proofs.Common.{ap}
use Rattle.fits_stream.specs.Intake.{IntakeState}
use Rattle.fits_card.proofs.CutLemmas.{cut_taken, not_missing}
use Rattle.fits_card.proofs.cut.cut_header.Goals as goal

-- the header that was read is the one that stands at the front
pub returns-in-Ok-clause-found : goal.returns-in-Ok-clause-found
returns-in-Ok-clause-found c =
    (cut_taken c.args.bytes.now _ _ c.in-Some.len c.in-Ok.header.header (ap (λ (i : IntakeState). i.ahead) c.of-intake.ensures) (ap (λ (i : IntakeState). i.left) c.of-intake.ensures) c.in-Ok.ensures.ok c.in-Ok.ensures.whole c.in-Some.ensures.found).0

pub returns-in-Ok-clause-len : goal.returns-in-Ok-clause-len
returns-in-Ok-clause-len c =
    (cut_taken c.args.bytes.now _ _ c.in-Some.len c.in-Ok.header.header (ap (λ (i : IntakeState). i.ahead) c.of-intake.ensures) (ap (λ (i : IntakeState). i.left) c.of-intake.ensures) c.in-Ok.ensures.ok c.in-Ok.ensures.whole c.in-Some.ensures.found).1

-- a header is there
pub unreachable-requires : goal.unreachable-requires
unreachable-requires c =
    not_missing c.args.bytes.now _ _ c.in-Some.len (ap (λ (i : IntakeState). i.ahead) c.of-intake.ensures) (ap (λ (i : IntakeState). i.left) c.of-intake.ensures) c.in-Some.ensures.found
    (rw c.in-Err-NoEnd.field-0-is at c.in-Err-NoEnd.ensures.err)
