use Rattle.std.proofs.Common.{ap, refl}
use Rattle.fits_stream.specs.Intake.{IntakeState}
use Rattle.fits_rules.proofs.LawLemmas.{shape_primary}
use Rattle.fits_hdu.specs.State.{parts_of}
use Rattle.fits_hdu.proofs.OpenLemmas.{hdu_opened, open_fails}
use Rattle.fits_hdu.proofs.hdu.Hdu.open.Goals as goal

pub returns-in-Ok-clause-found : goal.returns-in-Ok-clause-found
returns-in-Ok-clause-found c =
    (hdu_opened c.args.primary c.args.bytes.now _ _ (parts_of c.in-Ok.hdu) c.left.result _ (ap (λ (i : IntakeState). i.ahead) c.of-intake.ensures) (ap (λ (i : IntakeState). i.left) c.of-intake.ensures) c.in-Ok.ensures.taken c.in-Ok.ensures.whole c.left.ensures refl).0

pub returns-in-Ok-clause-len : goal.returns-in-Ok-clause-len
returns-in-Ok-clause-len c =
    (hdu_opened c.args.primary c.args.bytes.now _ _ (parts_of c.in-Ok.hdu) c.left.result _ (ap (λ (i : IntakeState). i.ahead) c.of-intake.ensures) (ap (λ (i : IntakeState). i.left) c.of-intake.ensures) c.in-Ok.ensures.taken c.in-Ok.ensures.whole c.left.ensures refl).1

pub returns-in-Ok-clause-class : goal.returns-in-Ok-clause-class
returns-in-Ok-clause-class c = shape_primary c.args.primary _ c.in-Ok.hdu.header.shape c.in-Ok.ensures.described

pub returns-in-Err-Hdu-clause-fault : goal.returns-in-Err-Hdu-clause-fault
returns-in-Err-Hdu-clause-fault c =
    open_fails c.args.primary c.args.bytes.now _ _ c.in-Err-Hdu.fault (ap (λ (i : IntakeState). i.ahead) c.of-intake.ensures) (ap (λ (i : IntakeState). i.left) c.of-intake.ensures) (rw c.in-Err-Hdu.field-0-is at c.in-Err-Hdu.ensures.err)
