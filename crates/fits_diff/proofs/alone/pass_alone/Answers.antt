use Rattle.std.proofs.Common.{◌≡◌, ◌+◌, ◌<◌, refl, arith}
use Rattle.std.specs.Prelude.{true}
use Rattle.std.proofs.lemmas.Grind.{common_steps}
use Rattle.fits_stream.specs.Intake.{supply}
use Rattle.fits_stream.proofs.SightLemmas.{takes_fewer}
use Rattle.fits_passing.specs.File.{begins_extension}
use Rattle.fits_passing.specs.declared.limits.TheConstants.{HDU_LIMIT}
use Rattle.fits_passing.proofs.WalkLemmas.{walk_shorter}
use Rattle.fits_diff.proofs.AloneLemmas.{on_failed, on_full, on_memory, on_more, on_none, on_stopped}
use Rattle.fits_diff.proofs.alone.pass_alone.Goals as goal

pub hdu-init : goal.hdu-init
hdu-init g c = record { so_far = on_none c.args.label.now c.args.count _ c.args.text.now.items; few = c.requires.few; seen = c.requires.seen }

-- there are too many
pub returns-then-number-eq-HDU_LIMIT-clause-err : goal.returns-then-number-eq-HDU_LIMIT-clause-err
returns-then-number-eq-HDU_LIMIT-clause-err g c =
    let begins : begins_extension c.hdu.intake.ahead ≡ true = grind (arith, common_steps) in
    let all : c.hdu.number ≡ HDU_LIMIT = grind (arith, common_steps) in
    on_full c.args.label.now c.args.count c.hdu.number _ _ _ _ c.requires.some c.hdu.invariant.so_far begins all

pub read-requires : goal.read-requires
read-requires g c = omega (arith, takes_fewer _ _ _ c.hdu.invariant.so_far.taken, c.requires.limit)

-- the next one isn't read
pub returns-in-Err-clause-err : goal.returns-in-Err-clause-err
returns-in-Err-clause-err g c =
    let begins : begins_extension c.hdu.intake.ahead ≡ true = grind (arith, common_steps) in
    let few : c.hdu.number < HDU_LIMIT = grind (arith, common_steps) in
    rw c.file_fault.ensures (on_stopped c.args.label.now c.args.count c.hdu.number (c.hdu.number + 1) _ _ _ _ _ c.in-Err.why c.requires.some c.hdu.invariant.so_far begins few refl c.in-Err.ensures.err)

-- memory was refused
pub returns-in_default-clause-err : goal.returns-in_default-clause-err
returns-in_default-clause-err g c = on_memory _ c.args.label.now c.args.count c.hdu.number _ _ _ c.args.text.now.items c.hdu.text.items c.hdu.invariant.so_far c.in-Ok.ensures.ok

pub hdu-smaller : goal.hdu-smaller
hdu-smaller g c = walk_shorter _ _ _ _ _ c.in-Ok.ensures.ok c.in-Ok-hold.ensures.ok

pub hdu-preserved : goal.hdu-preserved
hdu-preserved g c =
    let begins : begins_extension c.hdu.intake.ahead ≡ true = grind (arith, common_steps) in
    let few : c.hdu.number < HDU_LIMIT = grind (arith, common_steps) in
    record {
      so_far = on_more _ c.args.label.now c.args.count c.hdu.number (c.hdu.number + 1) _ _ _ _ c.args.text.now.items c.hdu.text.items _ c.hdu.invariant.so_far begins c.in-Ok.ensures.ok c.in-Ok-hold.ensures.ok refl c.in-Ok-push_alone_line.ensures;
      few = omega (arith, few);
      seen = c.in-Ok-hold.ensures.ends;
    }

-- a call failed
pub returns-in_default-hold-clause-err : goal.returns-in_default-hold-clause-err
returns-in_default-hold-clause-err g c = on_failed _ c.args.label.now c.args.count c.hdu.number _ _ _ (supply (g.F.Source.state c.hold.new.source) c.hold.new.self) c.args.text.now.items c.hdu.text.items c.hdu.invariant.so_far c.in-Ok.ensures.ok c.in_default-hold.ensures.err
