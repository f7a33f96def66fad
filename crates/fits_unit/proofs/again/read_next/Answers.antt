use Rattle.std.proofs.Common.{◌≡◌, ◌++◌, length, arith, subst, sym, ap}
use Rattle.std.proofs.lemmas.List.{length-append}
use Rattle.fits_stream.specs.Stream.{Reads}
use Rattle.fits_stream.proofs.StreamLemmas.{quiet_read, reads_fails}
use Rattle.fits_unit.proofs.AgainLemmas.{came_more, next_fewer}
use Rattle.fits_unit.proofs.again.read_next.Goals as goal

-- a read failed
pub returns-in_default-fill-clause-err : goal.returns-in_default-fill-clause-err
returns-in_default-fill-clause-err g c = (reads_fails _ _ _ _ c.loop-bytes.invariant.read c.in_default-fill.ensures.err).log

-- there are fewer
pub returns-then-n-most-clause-err : goal.returns-then-n-most-clause-err
returns-then-n-most-clause-err g c =
    let inv = c.loop-bytes.invariant in
    let long : length c.fill.new.room ≡ c.min-most.result = omega (arith, c.fill.ensures.size, c.split_at_mut-piece.ensures.front_len, c.min-most.ensures) in
    next_fewer _ _ _ _ c.in-Ok-fill.n c.loop-bytes.bytes.items c.fill.new.room inv.read c.in-Ok-fill.ensures.ok (c.in-Ok-fill.ensures.ends (omega (arith, long, c.if-n-most.true))) (omega (arith, long, c.if-n-most.true)) (omega (arith, c.if-n-most.true, c.min-most.ensures, c.len-in-loop-bytes.ensures, c.loop-bytes.bytes.ok.0))

-- memory was refused
pub returns-in_default-extend_from_slice-clause-err : goal.returns-in_default-extend_from_slice-clause-err
returns-in_default-extend_from_slice-clause-err g c =
    let long : length c.fill.new.room ≡ c.min-most.result = omega (arith, c.fill.ensures.size, c.split_at_mut-piece.ensures.front_len, c.min-most.ensures) in
    (quiet_read _ _ _ (came_more (g.R.Source.state c.args.source.now) _ _ c.loop-bytes.bytes.items c.fill.new.room c.in-Ok-fill.n c.loop-bytes.invariant.read c.in-Ok-fill.ensures.ok (omega (arith, long, c.if-n-most.false)))).log

pub loop-bytes-preserved : goal.loop-bytes-preserved
loop-bytes-preserved g c =
    let inv = c.loop-bytes.invariant in
    let piece = c.fill.new.room in
    let long : length piece ≡ c.min-most.result = omega (arith, c.fill.ensures.size, c.split_at_mut-piece.ensures.front_len, c.min-most.ensures) in
    let more : c.extend_from_slice.new.self.items ≡ c.loop-bytes.bytes.items ++ piece = c.in-Ok-extend_from_slice.ensures.items in
    record {
      within = omega (arith, ap length more, length-append c.loop-bytes.bytes.items piece, long, c.min-most.ensures, c.len-in-loop-bytes.ensures, c.loop-bytes.bytes.ok.0, inv.within);
      wide = omega (arith, length-append piece c.split_at_mut-piece.result.1.now, c.fill.ensures.size, c.split_at_mut-piece.ensures.front_len, c.split_at_mut-piece.ensures.back_len, inv.wide);
      read = subst (λ t. Reads t (g.R.Source.state c.args.source.now) (g.R.Source.state c.fill.new.source)) (sym more) (came_more (g.R.Source.state c.args.source.now) _ _ c.loop-bytes.bytes.items piece c.in-Ok-fill.n inv.read c.in-Ok-fill.ensures.ok (omega (arith, long, c.if-n-most.false)));
    }
