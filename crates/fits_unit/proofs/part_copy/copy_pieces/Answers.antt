use Rattle.std.proofs.Common.{◌≡◌, ◌<◌, ◌∙◌, arith, length, refl, sym}
use Rattle.std.proofs.lemmas.Result.{err_from_is_err_and}
use Rattle.fits_stream.proofs.StreamLemmas.{Prints-none}
use Rattle.fits_pieces.specs.Piece.{pieces_in}
use Rattle.fits_unit.proofs.PartCopyLemmas.{copies_begin, copies_end, copies_step, front_fails, front_step, writes_on}
use Rattle.fits_unit.proofs.part_copy.copy_pieces.Goals as goal

pub loop-j-init : goal.loop-j-init
loop-j-init g c = record {
  up = copies_begin c.args.place c.args.unit.now c.args.log.now (g.W.Sink.state c.args.sink.now);
  same = λ xs is lies. Prints-none (g.W.Sink.state c.args.sink.now);
  follows = λ xs is. is;
  quiet = refl;
  more = omega arith;
  wide = refl;
}

pub loop-j-preserved : goal.loop-j-preserved
loop-j-preserved g c =
    let inv = c.loop-j.invariant in
    let p = c.in_ok-copy_piece.ensures in
    let within : c.loop-j.j < length c.args.unit.now.held = omega (arith, c.loop-j-test.true, c.piece_count-j-end.ensures.held) in
    let many : length c.args.unit.now.held ≡ pieces_in (length c.args.unit.now.plane.bytes) = sym c.piece_count-j-end.ensures.held ∙ c.piece_count-j-end.ensures.count in
    record {
      up = copies_step c.args.place c.loop-j.j c.args.unit.now c.args.log.now c.loop-j.log c.copy_piece.new.log _ _ _ within many inv.up p.copied;
      same = λ xs is lies. front_step c.args.unit.now.plane.bytes c.loop-j.j _ _ _ (inv.same xs (p.follows xs is) lies) (p.ok xs is lies);
      follows = λ xs is. inv.follows xs (p.follows xs is);
      quiet = p.quiet ∙ inv.quiet;
      more = omega (arith, inv.more, p.looks.more);
      wide = p.size ∙ inv.wide;
    }

pub returns-in_err-copy_piece-clause-err : goal.returns-in_err-copy_piece-clause-err
returns-in_err-copy_piece-clause-err g c = λ xs is lies.
    let exit = err_from_is_err_and c.from_residual.result c.from_residual.ensures.1 in
    let p = c.in_err-copy_piece.ensures in
    rw (exit.1, exit.2) (front_fails c.args.unit.now.plane.bytes c.loop-j.j _ (g.W.Sink.state c.loop-j.sink) _ c.in_err-copy_piece.field-0.0 (c.loop-j.invariant.same xs (p.follows xs is) lies) (p.err xs is lies))

pub returns-in_err-copy_piece-clause-writes : goal.returns-in_err-copy_piece-clause-writes
returns-in_err-copy_piece-clause-writes g c =
    let exit = err_from_is_err_and c.from_residual.result c.from_residual.ensures.1 in
    let up = c.loop-j.invariant.up in
    rw (exit.1, exit.2) (writes_on up.done _ (g.W.Sink.state c.loop-j.sink) _ c.in_err-copy_piece.field-0.0 up.written c.in_err-copy_piece.ensures.writes)

pub returns-in_err-copy_piece-clause-follows : goal.returns-in_err-copy_piece-clause-follows
returns-in_err-copy_piece-clause-follows g c = λ xs is. c.loop-j.invariant.follows xs (c.in_err-copy_piece.ensures.follows xs is)

pub returns-clause-copied : goal.returns-clause-copied
returns-clause-copied g c =
    let all : c.loop-j.j ≡ length c.args.unit.now.held = omega (arith, c.loop-j-test.false, c.loop-j.auto.j-end, c.piece_count-j-end.ensures.held) in
    let many : length c.args.unit.now.held ≡ pieces_in (length c.args.unit.now.plane.bytes) = sym c.piece_count-j-end.ensures.held ∙ c.piece_count-j-end.ensures.count in
    copies_end c.args.place c.loop-j.j c.args.unit.now.plane.layout.blank c.args.unit.now c.args.log.now c.loop-j.log _ _ all many c.loop-j.invariant.up
