use Rattle.std.proofs.Common.{◌∙◌, ap, length, subst, sym}
use Rattle.std.proofs.lemmas.Result.{err_from_is_err_and}
use Rattle.fits_stream.specs.Stream.{Prints}
use Rattle.fits_sum.specs.Words.{word_total}
use Rattle.fits_pieces.specs.Piece.{piece_of}
use Rattle.fits_unit.proofs.AgainLemmas.{copy_follows, follows_on}
use Rattle.fits_unit.proofs.PartCopyLemmas.{copied_held, piece_fails, piece_read}
use Rattle.fits_unit.proofs.part_copy.copy_piece.Goals as goal

pub returns-in-Ok-clause-copied : goal.returns-in-Ok-clause-copied
returns-in-Ok-clause-copied g c = copied_held c.args.place c.args.j c.args.unit.now c.args.log.now _ _ (sym c.is_held.ensures.value ∙ c.if-is_held.true) c.in-Ok.ensures.ok

pub returns-in_err-total-clause-err : goal.returns-in_err-total-clause-err
returns-in_err-total-clause-err g c = λ xs is lies.
    let exit = err_from_is_err_and c.from_residual.result c.from_residual.ensures.1 in
    let at = c.piece_at-at in
    let unit = c.args.unit.now in
    rw (exit.1, exit.2) (piece_fails xs unit.passed (piece_of unit.plane.bytes c.args.j) c.args.place (length unit.plane.bytes) at.result.0 at.result.1 c.args.j c.args.log.now c.copy_again.new.log _ _ c.in_err-total.field-0.0 is lies
    (c.is_held.ensures.away c.if-is_held.false) at.ensures.place at.ensures.size at.ensures.passed c.in_err-total.ensures.err)

pub returns-in_err-total-clause-follows : goal.returns-in_err-total-clause-follows
returns-in_err-total-clause-follows g c = copy_follows c.piece_at-at.result.0 c.piece_at-at.result.1 _ _ (g.W.Sink.state c.args.sink.now) (g.W.Sink.state c.copy_again.new.sink) c.in_err-total.field-0.0 c.in_err-total.ensures.err

-- what was copied has another total than passed by
pub returns-then-total-piece_total-clause-err : goal.returns-then-total-piece_total-clause-err
returns-then-total-piece_total-clause-err g c = λ xs is lies.
    let at = c.piece_at-at in
    let unit = c.args.unit.now in
    let p = c.in_ok-total.ensures.ok in
    let same = piece_read xs unit.passed (piece_of unit.plane.bytes c.args.j) p.bytes c.args.place (length unit.plane.bytes) at.result.0 at.result.1 c.args.j c.args.log.now c.copy_again.new.log is lies
    (c.is_held.ensures.away c.if-is_held.false) at.ensures.place at.ensures.size at.ensures.passed p.read p.size in
    c.if-total-piece_total.true (p.total_is ∙ ap word_total same ∙ sym c.piece_total.ensures)

pub returns-then-total-piece_total-clause-follows : goal.returns-then-total-piece_total-clause-follows
returns-then-total-piece_total-clause-follows g c = follows_on c.piece_at-at.result.0 _ _ _ c.in_ok-total.ensures.ok.read

pub returns-clause-ok : goal.returns-clause-ok
returns-clause-ok g c = λ xs is lies.
    let at = c.piece_at-at in
    let unit = c.args.unit.now in
    let p = c.in_ok-total.ensures.ok in
    let same = piece_read xs unit.passed (piece_of unit.plane.bytes c.args.j) p.bytes c.args.place (length unit.plane.bytes) at.result.0 at.result.1 c.args.j c.args.log.now c.copy_again.new.log is lies
    (c.is_held.ensures.away c.if-is_held.false) at.ensures.place at.ensures.size at.ensures.passed p.read p.size in
    subst (λ t. Prints t (g.W.Sink.state c.args.sink.now) (g.W.Sink.state c.copy_again.new.sink)) same p.written

pub returns-clause-follows : goal.returns-clause-follows
returns-clause-follows g c = follows_on c.piece_at-at.result.0 _ _ _ c.in_ok-total.ensures.ok.read
