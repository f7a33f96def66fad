use Rattle.std.proofs.Common.{◌≡◌, ◌-◌, ◌%◌, length, replicate, arith, ap, refl}
use Rattle.std.proofs.lemmas.List.{length-append, length-replicate}
use Rattle.fits_pixels.specs.declared.layout.Layout.{Layout}
use Rattle.fits_stream.proofs.StreamLemmas.{reads_fails, Reads-none}
use Rattle.fits_unit.proofs.AgainLemmas.{came_more, least_blocks, next_fewer}
use Rattle.fits_unit.proofs.again.pass_next.Goals as goal

-- a layout that fits so many bytes is one of whole pixels
pub new-unit-requires-clause-width : goal.new-unit-requires-clause-width
new-unit-requires-clause-width g c = (c.requires.fits (replicate c.args.len 0) (length-replicate c.args.len 0)).width

pub new-unit-requires-clause-no_pixels : goal.new-unit-requires-clause-no_pixels
new-unit-requires-clause-no_pixels g c = (c.requires.fits (replicate c.args.len 0) (length-replicate c.args.len 0)).no_pixels

pub loop-unit-init : goal.loop-unit-init
loop-unit-init g c =
    let long = length-replicate c.args.len 0 in
    let fits = c.requires.fits (replicate c.args.len 0) long in
    rw c.new-unit.ensures (record { even = omega (arith, fits.whole, long); few = omega (arith, fits.limit, long); within = omega arith; blocks = refl; layout = refl; wide = refl; read = Reads-none _ })

-- a read failed
pub returns-in_default-clause-err : goal.returns-in_default-clause-err
returns-in_default-clause-err g c = (reads_fails _ _ _ _ c.loop-unit.invariant.read c.in_default.ensures.err).log

-- there are fewer
pub returns-then-n-most-clause-err : goal.returns-then-n-most-clause-err
returns-then-n-most-clause-err g c =
    let inv = c.loop-unit.invariant in
    let long : length c.fill.new.room ≡ c.min-most.result = omega (arith, c.fill.ensures.size, c.split_at_mut-piece.ensures.front_len, c.min-most.ensures) in
    next_fewer _ _ _ _ c.in-Ok.n c.loop-unit.unit.bytes c.fill.new.room inv.read c.in-Ok.ensures.ok (c.in-Ok.ensures.ends (omega (arith, long, c.if-n-most.true))) (omega (arith, long, c.if-n-most.true)) (omega (arith, c.if-n-most.true, c.min-most.ensures, c.byte_len-in-loop-unit.ensures, inv.within))

pub loop-unit-preserved : goal.loop-unit-preserved
loop-unit-preserved g c =
    let inv = c.loop-unit.invariant in
    let piece = c.fill.new.room in
    let long : length piece ≡ c.min-most.result = omega (arith, c.fill.ensures.size, c.split_at_mut-piece.ensures.front_len, c.min-most.ensures, c.in-Ok.ensures.within, c.if-n-most.false) in
    let left : c.min-most.result % 2880 ≡ 0 = least_blocks c.min-most.result _ (c.args.len - c.byte_len-in-loop-unit.result) c.min-most.ensures (omega arith) (omega (arith, inv.even, inv.blocks, inv.within, c.byte_len-in-loop-unit.ensures)) in
    rw c.add.ensures (record {
      even = inv.even;
      few = inv.few;
      within = omega (arith, length-append c.loop-unit.unit.bytes piece, long, c.min-most.ensures, c.byte_len-in-loop-unit.ensures, inv.within);
      blocks = omega (arith, length-append c.loop-unit.unit.bytes piece, long, left, inv.blocks);
      layout = inv.layout;
      wide = omega (arith, length-append piece c.split_at_mut-piece.result.1.now, c.fill.ensures.size, c.split_at_mut-piece.ensures.front_len, c.split_at_mut-piece.ensures.back_len, inv.wide);
      read = came_more (g.R.Source.state c.args.source.now) _ _ c.loop-unit.unit.bytes piece c.in-Ok.n inv.read c.in-Ok.ensures.ok (omega (arith, long, c.if-n-most.false));
    })

pub end-requires : goal.end-requires
end-requires g c = rw c.loop-unit.invariant.layout (c.requires.fits c.loop-unit.unit.bytes (omega (arith, c.loop-unit.invariant.within, c.loop-unit-test.false)))

pub returns-clause-are : goal.returns-clause-are
returns-clause-are g c = rw c.end.ensures c.loop-unit.invariant.read

pub returns-clause-len : goal.returns-clause-len
returns-clause-len g c = rw c.end.ensures (omega (arith, c.loop-unit.invariant.within, c.loop-unit-test.false))

pub returns-clause-layout : goal.returns-clause-layout
returns-clause-layout g c = rw c.end.ensures c.loop-unit.invariant.layout

pub returns-clause-blank : goal.returns-clause-blank
returns-clause-blank g c = rw c.end.ensures (ap (λ (l : Layout). l.blank) c.loop-unit.invariant.layout)
