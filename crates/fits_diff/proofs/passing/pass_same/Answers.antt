use Rattle.std.proofs.Common.{◌≡◌, ◌<◌, ◌≤◌, ◌∙◌, length, refl, ap, arith}
use Rattle.std.proofs.lemmas.Grind.{common_steps}
use Rattle.fits_stream.proofs.IntakeLemmas.{takes_passed}
use Rattle.fits_stream.proofs.SightLemmas.{takes_and_holds, takes_then_fails}
use Rattle.fits_diff.specs.Differences.{common_len}
use Rattle.fits_diff.proofs.PassingLemmas.{part_of, same_held, same_more, same_none}
use Rattle.fits_diff.proofs.passing.pass_same.Goals as goal

pub loop-count-init : goal.loop-count-init
loop-count-init g c = record { so_far = same_none _ _; within = omega arith }

-- a call failed
pub returns-in_default-clause-err : goal.returns-in_default-clause-err
returns-in_default-clause-err g c = takes_then_fails _ _ _ _ c.loop-count.invariant.so_far.taken c.in_default.ensures.err

pub returns-in_default-hold-clause-err : goal.returns-in_default-hold-clause-err
returns-in_default-hold-clause-err g c = takes_then_fails _ _ _ _ c.loop-count.invariant.so_far.taken_other c.in_default-hold.ensures.err

-- one of them ended
pub returns-then-ahead-most-clause-err : goal.returns-then-ahead-most-clause-err
returns-then-ahead-most-clause-err g c =
    let it = c.loop-count.invariant.so_far in
    let short : length c.hold.new.self.ahead < c.min-most.result = omega (arith, ap length c.ahead.ensures) in
    record {
      bytes = it.bytes;
      taken = takes_and_holds _ _ _ it.bytes it.taken c.in-Ok.ensures.ok;
      short = grind (arith, common_steps);
      spent = c.in-Ok.ensures.ends short;
    }

pub returns-then-ahead-most-2-clause-err : goal.returns-then-ahead-most-2-clause-err
returns-then-ahead-most-2-clause-err g c =
    let it = c.loop-count.invariant.so_far in
    let short : length c.hold-in-loop-count.new.self.ahead < c.min-most.result = omega (arith, ap length c.ahead-in-loop-count.ensures) in
    record {
      bytes = it.bytes;
      taken = takes_and_holds _ _ _ it.bytes it.taken_other c.in-Ok-hold.ensures.ok;
      short = grind (arith, common_steps);
      spent = c.in-Ok-hold.ensures.ends short;
    }

-- the next bytes differ
pub returns-then-same-eq0-clause-ok : goal.returns-then-same-eq0-clause-ok
returns-then-same-eq0-clause-ok g c =
    let xs = c.hold.new.self.ahead in
    let ys = c.hold-in-loop-count.new.self.ahead in
    let held = same_held c.loop-count.count _ _ _ _ _ _ c.loop-count.invariant.so_far c.in-Ok.ensures.ok c.in-Ok-hold.ensures.ok in
    let is : c.common_len.result ≡ common_len xs ys = c.common_len.ensures ∙ ap (λ t. common_len t c.ahead-in-loop-count-3.result.now) c.ahead-in-loop-count-2.ensures ∙ ap (common_len xs) c.ahead-in-loop-count-3.ensures in
    let few : c.min-most.result ≤ length xs = omega (arith, ap length c.ahead.ensures) in
    let few_other : c.min-most.result ≤ length ys = omega (arith, ap length c.ahead-in-loop-count.ensures) in
    let some : 0 < c.min-most.result = grind (arith, common_steps) in
    let none : common_len xs ys ≡ 0 = grind (arith, common_steps) in
    record {
      bytes = held.bytes;
      taken = held.taken;
      taken_other = held.taken_other;
      size = held.size;
      within = c.loop-count.invariant.within;
      stops = λ less. part_of xs ys (omega (arith, few, some)) (omega (arith, few_other, some)) none;
    }

pub loop-count-preserved : goal.loop-count-preserved
loop-count-preserved g c =
    let xs = c.hold.new.self.ahead in
    let ys = c.hold-in-loop-count.new.self.ahead in
    let same = c.min-same.result in
    let is : c.common_len.result ≡ common_len xs ys = c.common_len.ensures ∙ ap (λ t. common_len t c.ahead-in-loop-count-3.result.now) c.ahead-in-loop-count-2.ensures ∙ ap (common_len xs) c.ahead-in-loop-count-3.ensures in
    let few : same ≤ common_len xs ys = grind (arith, common_steps) in
    record {
      so_far = same_more c.loop-count.count same _ _ _ _ _ _ _ _ c.loop-count.invariant.so_far c.in-Ok.ensures.ok c.in-Ok-hold.ensures.ok few (takes_passed _ _ same refl c.pass.ensures.ahead c.pass.ensures.left)
          (takes_passed _ _ same refl c.pass-in-loop-count.ensures.ahead c.pass-in-loop-count.ensures.left);
      within = grind (arith, common_steps);
    }
