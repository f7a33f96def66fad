use Rattle.std.proofs.Common.{◌≡◌, length, replicate, arith, refl, sym, ap, ◌∙◌, subst, false}
use Rattle.std.proofs.lemmas.List.{length-append, length-replicate}
use Rattle.fits_stream.specs.Stream.{Reads}
use Rattle.fits_stream.proofs.StreamLemmas.{quiet_read, reads_fails, Reads-none}
use Rattle.fits_pieces.specs.Piece.{pieces_in}
use Rattle.fits_unit.proofs.AgainLemmas.{came_more, next_fewer}
use Rattle.fits_unit.proofs.again.pass_next_pieces.Goals as goal

-- a layout that fits so many bytes fits zeros
pub new-requires : goal.new-requires
new-requires g c = c.requires.fits (replicate c.args.len 0) (length-replicate c.args.len 0)

pub loop-count-init : goal.loop-count-init
loop-count-init g c = rw c.in-Ok.ensures (record { within = omega arith; long = refl; len = refl; layout = refl; wide = refl; read = Reads-none _ })

-- a read failed
pub returns-in_default-fill-clause-err : goal.returns-in_default-fill-clause-err
returns-in_default-fill-clause-err g c = (reads_fails _ _ _ _ c.loop-count.invariant.read c.in_default-fill.ensures.err).log

-- there are fewer
pub returns-then-n-most-clause-err : goal.returns-then-n-most-clause-err
returns-then-n-most-clause-err g c =
    let inv = c.loop-count.invariant in
    let long : length c.fill.new.room ≡ c.min-most.result = omega (arith, c.fill.ensures.size, c.split_at_mut-piece.ensures.front_len, c.min-most.ensures) in
    next_fewer _ _ _ _ c.in-Ok-fill.n c.loop-count.unit.bytes c.fill.new.room inv.read c.in-Ok-fill.ensures.ok (c.in-Ok-fill.ensures.ends (omega (arith, long, c.if-n-most.true))) (omega (arith, long, c.if-n-most.true)) (omega (arith, c.if-n-most.true, c.min-most.ensures, inv.long, inv.within))

pub add-requires-clause-more : goal.add-requires-clause-more
add-requires-clause-more g c = omega (arith, c.loop-count.invariant.long, c.loop-count.invariant.len, c.loop-count-test.true)

pub add-requires-clause-size : goal.add-requires-clause-size
add-requires-clause-size g c = omega (arith, c.fill.ensures.size, c.split_at_mut-piece.ensures.front_len, c.min-most.ensures, c.loop-count.invariant.long, c.loop-count.invariant.len)

pub loop-count-preserved : goal.loop-count-preserved
loop-count-preserved g c =
    let inv = c.loop-count.invariant in
    let piece = c.fill.new.room in
    let long : length piece ≡ c.min-most.result = omega (arith, c.fill.ensures.size, c.split_at_mut-piece.ensures.front_len, c.min-most.ensures) in
    rw c.add.ensures (record {
      within = omega (arith, c.min-most.ensures, inv.within);
      long = omega (arith, length-append c.loop-count.unit.bytes piece, long, inv.long);
      len = inv.len;
      layout = inv.layout;
      wide = omega (arith, length-append piece c.split_at_mut-piece.result.1.now, c.fill.ensures.size, c.split_at_mut-piece.ensures.front_len, c.split_at_mut-piece.ensures.back_len, inv.wide);
      read = came_more (g.R.Source.state c.args.source.now) _ _ c.loop-count.unit.bytes piece c.in-Ok-fill.n inv.read c.in-Ok-fill.ensures.ok (omega (arith, long, c.if-n-most.false));
    })

pub end-requires : goal.end-requires
end-requires g c = omega (arith, c.loop-count.invariant.long, c.loop-count.invariant.within, c.loop-count.invariant.len, c.loop-count-test.false)

pub returns-in-Ok-end-clause-are : goal.returns-in-Ok-end-clause-are
returns-in-Ok-end-clause-are g c = subst (λ t. Reads t (g.R.Source.state c.args.source.now) (g.R.Source.state c.loop-count.source)) (sym c.in-Ok-end.ensures.bytes) c.loop-count.invariant.read

pub returns-in-Ok-end-clause-len : goal.returns-in-Ok-end-clause-len
returns-in-Ok-end-clause-len g c = omega (arith, ap length c.in-Ok-end.ensures.bytes, c.loop-count.invariant.long, c.loop-count.invariant.within, c.loop-count-test.false)

pub returns-in-Ok-end-clause-layout : goal.returns-in-Ok-end-clause-layout
returns-in-Ok-end-clause-layout g c = c.in-Ok-end.ensures.layout ∙ c.loop-count.invariant.layout

pub returns-in-Ok-end-clause-held : goal.returns-in-Ok-end-clause-held
returns-in-Ok-end-clause-held g c = c.in-Ok-end.ensures.held ∙ ap (λ n. replicate (pieces_in n) false) c.loop-count.invariant.len

-- memory was refused
pub returns-in-Err-clause-err : goal.returns-in-Err-clause-err
returns-in-Err-clause-err g c = (quiet_read _ _ _ c.loop-count.invariant.read).log
