use Rattle.std.proofs.Common.{◌≡◌, ◌<◌, ◌∙◌, length, replicate, take, refl, ap, arith}
use Rattle.std.proofs.lemmas.Grind.{common_steps}
use Rattle.std.proofs.lemmas.List.{length-replicate}
use Rattle.fits_stream.proofs.IntakeLemmas.{takes_passed}
use Rattle.fits_stream.proofs.SightLemmas.{takes_and_holds, takes_more, takes_none, takes_then_fails}
use Rattle.fits_pixels.specs.declared.layout.Layout.{Layout}
use Rattle.fits_passing.proofs.passing.pass_unit.Goals as goal

-- a layout that fits so many bytes is one of whole pixels
pub new-unit-requires-clause-width : goal.new-unit-requires-clause-width
new-unit-requires-clause-width g c = (c.requires (replicate c.args.len 0) (length-replicate c.args.len 0)).width

pub new-unit-requires-clause-no_pixels : goal.new-unit-requires-clause-no_pixels
new-unit-requires-clause-no_pixels g c = (c.requires (replicate c.args.len 0) (length-replicate c.args.len 0)).no_pixels

-- no byte passed by yet
pub loop-unit-init : goal.loop-unit-init
loop-unit-init g c =
    let long = length-replicate c.args.len 0 in
    let fits = c.requires (replicate c.args.len 0) long in
    rw c.new-unit.ensures (record { even = omega (arith, fits.whole, long); few = omega (arith, fits.limit, long); within = omega arith; whole = refl; layout = refl; taken = takes_none _ })

-- the source ended within a piece
pub returns-then-ahead-most-clause-err : goal.returns-then-ahead-most-clause-err
returns-then-ahead-most-clause-err g c =
    let inv = c.loop-unit.invariant in
    let short : length c.hold.new.self.ahead < c.min-most.result = omega (arith, ap length c.ahead-ahead.ensures) in
    record {
      bytes = c.loop-unit.unit.bytes;
      taken = takes_and_holds _ _ _ c.loop-unit.unit.bytes inv.taken c.in-Ok.ensures.ok;
      short = grind (arith, common_steps);
      spent = c.in-Ok.ensures.ends short;
    }

pub loop-unit-preserved : goal.loop-unit-preserved
loop-unit-preserved g c =
    let inv = c.loop-unit.invariant in
    let most = c.min-most.result in
    let piece = c.split_at.result.0.now in
    let is : piece ≡ take most c.hold.new.self.ahead = c.split_at.ensures.front ∙ ap (take most) c.ahead-ahead.ensures in
    rw c.add.ensures (record {
      even = inv.even;
      few = inv.few;
      within = grind (arith, common_steps);
      whole = grind (arith, common_steps);
      layout = inv.layout;
      taken = takes_more _ _ _ c.loop-unit.unit.bytes piece (takes_and_holds _ _ _ c.loop-unit.unit.bytes inv.taken c.in-Ok.ensures.ok) (rw is (takes_passed _ _ most refl c.pass.ensures.ahead c.pass.ensures.left));
    })

pub end-requires : goal.end-requires
end-requires g c = rw c.loop-unit.invariant.layout (c.requires c.loop-unit.unit.bytes (omega (arith, c.loop-unit.invariant.within, c.loop-unit-test.false)))

pub returns-clause-ok : goal.returns-clause-ok
returns-clause-ok g c = rw c.end.ensures c.loop-unit.invariant.taken

pub returns-clause-size : goal.returns-clause-size
returns-clause-size g c = rw c.end.ensures (omega (arith, c.loop-unit.invariant.within, c.loop-unit-test.false))

pub returns-clause-layout : goal.returns-clause-layout
returns-clause-layout g c = rw c.end.ensures c.loop-unit.invariant.layout

pub returns-clause-blank : goal.returns-clause-blank
returns-clause-blank g c = rw c.end.ensures (ap (λ (l : Layout). l.blank) c.loop-unit.invariant.layout)

-- a call failed
pub returns-in_default-clause-err : goal.returns-in_default-clause-err
returns-in_default-clause-err g c = takes_then_fails _ _ _ _ c.loop-unit.invariant.taken c.in_default.ensures.err
