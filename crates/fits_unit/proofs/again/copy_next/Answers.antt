use Rattle.std.proofs.Common.{◌≡◌, ◌-◌, ◌%◌, ◌++◌, length, arith, [], refl}
use Rattle.std.proofs.lemmas.List.{length-append}
use Rattle.fits_stream.proofs.StreamLemmas.{Prints-more, Prints-none, PrintsFront-more, Reads-none}
use Rattle.fits_unit.proofs.AgainLemmas.{came_more, copied_more, least_blocks, next_failed, next_short, next_stopped}
use Rattle.fits_unit.proofs.again.copy_next.Goals as goal

pub loop-count-init : goal.loop-count-init
loop-count-init g c = record {
  done = [];
  size = refl;
  blocks = refl;
  within = omega arith;
  read = Reads-none _;
  written = Prints-none _;
  total_is = refl;
  bounded = omega arith;
  wide = refl;
  looked = omega arith;
}

pub returns-in_default-write_all-clause-err : goal.returns-in_default-write_all-clause-err
returns-in_default-write_all-clause-err g c =
    let inv = c.loop-count.invariant in
    let piece = c.fill.new.room in
    let long : length piece ≡ c.min-most.result = omega (arith, c.fill.ensures.size, c.split_at_mut-piece.ensures.front_len, c.min-most.ensures, c.in-Ok.ensures.within, c.if-n-most.false) in
    let read = came_more (g.R.Source.state c.args.source.now) _ _ inv.done piece c.in-Ok.n inv.read c.in-Ok.ensures.ok (omega (arith, long, c.if-n-most.false)) in
    next_stopped _ _ _ (inv.done ++ piece) _ read (omega (arith, length-append inv.done piece, inv.size, long, c.min-most.ensures, inv.within)) (PrintsFront-more _ _ _ inv.done piece inv.written c.in_default-write_all.ensures.err)

pub loop-count-preserved : goal.loop-count-preserved
loop-count-preserved g c =
    let inv = c.loop-count.invariant in
    let piece = c.fill.new.room in
    let long : length piece ≡ c.min-most.result = omega (arith, c.fill.ensures.size, c.split_at_mut-piece.ensures.front_len, c.min-most.ensures, c.in-Ok.ensures.within, c.if-n-most.false) in
    let blocks : c.min-most.result % 2880 ≡ 0 = least_blocks c.min-most.result _ (c.args.len - c.loop-count.count) c.min-most.ensures (omega arith) (omega (arith, c.requires.whole, inv.blocks, inv.within)) in
    record {
      done = inv.done ++ piece;
      size = omega (arith, length-append inv.done piece, inv.size, long);
      blocks = omega (arith, inv.blocks, blocks);
      within = omega (arith, c.min-most.ensures, inv.within);
      read = came_more (g.R.Source.state c.args.source.now) _ _ inv.done piece c.in-Ok.n inv.read c.in-Ok.ensures.ok (omega (arith, long, c.if-n-most.false));
      written = Prints-more _ _ _ inv.done piece inv.written c.in-Ok-write_all.ensures.ok;
      total_is = copied_more inv.done piece _ _ inv.total_is c.total_of-total.ensures.value (omega (arith, inv.size, inv.blocks));
      bounded = omega (arith, inv.bounded, c.total_of-total.ensures.within, long, inv.blocks, blocks);
      wide = omega (arith, length-append piece c.split_at_mut-piece.result.1.now, c.fill.ensures.size, c.split_at_mut-piece.ensures.front_len, c.split_at_mut-piece.ensures.back_len, inv.wide);
      looked = omega (arith, c.total_of-total.ensures.looked, inv.looked, long, inv.blocks, blocks);
    }

pub returns-clause-ok : goal.returns-clause-ok
returns-clause-ok g c =
    let inv = c.loop-count.invariant in
    record {
      bytes = inv.done;
      read = inv.read;
      size = omega (arith, inv.size, inv.within, c.loop-count-test.false);
      total_is = inv.total_is;
      written = inv.written;
    }

-- a read failed
pub returns-in_default-clause-err : goal.returns-in_default-clause-err
returns-in_default-clause-err g c =
    let inv = c.loop-count.invariant in
    next_failed _ _ _ _ inv.done _ inv.read c.in_default.ensures.err (omega (arith, inv.size, inv.within)) inv.written

-- there are fewer
pub returns-then-n-most-clause-err : goal.returns-then-n-most-clause-err
returns-then-n-most-clause-err g c =
    let inv = c.loop-count.invariant in
    let long : length c.fill.new.room ≡ c.min-most.result = omega (arith, c.fill.ensures.size, c.split_at_mut-piece.ensures.front_len, c.min-most.ensures) in
    next_short _ _ _ _ c.in-Ok.n inv.done c.fill.new.room _ inv.read c.in-Ok.ensures.ok (c.in-Ok.ensures.ends (omega (arith, long, c.if-n-most.true))) (omega (arith, long, c.if-n-most.true)) (omega (arith, inv.size, c.if-n-most.true, c.min-most.ensures)) inv.written
