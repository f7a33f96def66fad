use Rattle.std.proofs.Common.{◌≡◌, ◌+◌, ◌-◌, ◌<◌, ◌∙◌, ap, arith, length, refl}
use Rattle.std.proofs.lemmas.Grind.{common_steps}
use Rattle.fits_stream.specs.Intake.{IntakeState}
use Rattle.fits_unit.specs.Again.{Follows}
use Rattle.fits_passing.specs.Met.{reads_of, StandsAt}
use Rattle.fits_passing.proofs.StoredLemmas.{held_within, none_held, stands_fresh, stands_held, stands_passed, turned_follows}
use Rattle.fits_passing.proofs.stored_walk.pass_over.Goals as goal

pub returns-in_default-clause-err : goal.returns-in_default-clause-err
returns-in_default-clause-err g c = refl

-- a call failed
pub returns-in_default-hold-clause-err : goal.returns-in_default-hold-clause-err
returns-in_default-hold-clause-err g c = c.in_default-hold.ensures.err.failed ∙ ap (λ n. n + 1) c.turn_to.ensures.failures

pub returns-in_default-hold-clause-follows : goal.returns-in_default-hold-clause-follows
returns-in_default-hold-clause-follows g c = turned_follows c.args.source.now c.turn_to.new.source c.hold.new.source c.turn_to.ensures.came c.turn_to.ensures.ends c.in_default-hold.ensures.err.log

-- there is no such byte
pub returns-then-is_empty-clause-err : goal.returns-then-is_empty-clause-err
returns-then-is_empty-clause-err g c =
    let fresh : IntakeState = c.in-Ok.fresh in
    let none : length c.hold.new.self.ahead ≡ 0 = grind (arith, common_steps) in
    let begun : length fresh.ahead ≡ 0 = ap (λ (i : IntakeState). length i.ahead) c.in-Ok.ensures in
    let room : 0 < fresh.left = omega (arith, ap (λ (i : IntakeState). i.left) c.in-Ok.ensures, c.requires.within, c.requires.some) in (
      λ told is.
          let end = none_held (g.F.Stored.bytes c.turn_to.new.source.file) (g.F.Stored.bytes c.hold.new.source.file) c.turn_to.new.source c.hold.new.source fresh c.hold.new.self told c.in-Ok-hold.ensures.ok begun none room (c.in-Ok-hold.ensures.ends (omega (arith, none))) is in
          omega (arith, end, c.turn_to.ensures.at, c.requires.some),
      c.in-Ok-hold.ensures.ok.drawn.read.quiet ∙ c.turn_to.ensures.failures,
    )

pub returns-clause-follows : goal.returns-clause-follows
returns-clause-follows g c = turned_follows c.args.source.now c.turn_to.new.source c.hold.new.source c.turn_to.ensures.came c.turn_to.ensures.ends (record { bytes = c.in-Ok-hold.ensures.ok.more; logs = c.in-Ok-hold.ensures.ok.drawn.read.log })

pub returns-clause-stands : goal.returns-clause-stands
returns-clause-stands g c = λ told is.
    let fresh : IntakeState = c.in-Ok.fresh in
    let follows : Follows (reads_of c.args.source.now) (reads_of c.hold.new.source) = turned_follows c.args.source.now c.turn_to.new.source c.hold.new.source c.turn_to.ensures.came c.turn_to.ensures.ends (record { bytes = c.in-Ok-hold.ensures.ok.more; logs = c.in-Ok-hold.ensures.ok.drawn.read.log }) in
    let size = c.requires.limited told (follows told is) in
    let first : StandsAt told (c.args.end - 1) fresh c.turn_to.new.source = stands_fresh c.turn_to.new.source fresh told (c.args.end - 1) (ap (λ (i : IntakeState). i.ahead) c.in-Ok.ensures) c.turn_to.ensures.at (omega (arith, size, ap (λ (i : IntakeState). i.left) c.in-Ok.ensures, c.requires.within, c.requires.some)) in
    let held = stands_held (g.F.Stored.bytes c.turn_to.new.source.file) (g.F.Stored.bytes c.hold.new.source.file) c.turn_to.new.source c.hold.new.source fresh c.hold.new.self told (c.args.end - 1) c.in-Ok-hold.ensures.ok is first in
    let some : 0 < length c.hold.new.self.ahead = grind (arith, common_steps) in
    stands_passed c.hold.new.source c.hold.new.self c.pass.new.self told (c.args.end - 1) c.args.end held (omega (arith, c.requires.some)) some c.pass.ensures.ahead c.pass.ensures.left

pub returns-clause-there : goal.returns-clause-there
returns-clause-there g c = λ told is.
    let fresh : IntakeState = c.in-Ok.fresh in
    let follows : Follows (reads_of c.args.source.now) (reads_of c.hold.new.source) = turned_follows c.args.source.now c.turn_to.new.source c.hold.new.source c.turn_to.ensures.came c.turn_to.ensures.ends (record { bytes = c.in-Ok-hold.ensures.ok.more; logs = c.in-Ok-hold.ensures.ok.drawn.read.log }) in
    let size = c.requires.limited told (follows told is) in
    let first : StandsAt told (c.args.end - 1) fresh c.turn_to.new.source = stands_fresh c.turn_to.new.source fresh told (c.args.end - 1) (ap (λ (i : IntakeState). i.ahead) c.in-Ok.ensures) c.turn_to.ensures.at (omega (arith, size, ap (λ (i : IntakeState). i.left) c.in-Ok.ensures, c.requires.within, c.requires.some)) in
    let held = stands_held (g.F.Stored.bytes c.turn_to.new.source.file) (g.F.Stored.bytes c.hold.new.source.file) c.turn_to.new.source c.hold.new.source fresh c.hold.new.self told (c.args.end - 1) c.in-Ok-hold.ensures.ok is first in
    let some : 0 < length c.hold.new.self.ahead = grind (arith, common_steps) in
    omega (arith, held_within c.hold.new.source c.hold.new.self told (c.args.end - 1) held some, c.requires.some)
