use Rattle.std.proofs.Common.{rules, ◌≡◌, ◌<◌, ◌≤◌, length, arith}
use Rattle.fits_extended.specs.Stands.{lines_in}
use Rattle.fits_extended.proofs.HistoryLemmas.{history-done, history-last, history-more}
use Rattle.fits_extended.proofs.history.history_after.Goals as goal

pub returns-then-is_empty : goal.returns-then-is_empty
returns-then-is_empty c =
    let long : 72 < length c.pieces.rest.now = search rules in
    let none : length c.cut_piece.result.1.now ≡ 0 = search rules in
    history-done c.args.hdu c.args.count c.pieces.place c.pieces.invariant.more c.pieces.rest.now c.cut_piece.result.0.now c.cut_piece.result.1.now (lines_in c.pieces.lines.items) _ _
    c.pieces.invariant.so_far long c.pieces.invariant.enough c.cut_piece.ensures.piece c.cut_piece.ensures.after none c.in_ok-push_history.ensures

pub pieces-preserved : goal.pieces-preserved
pieces-preserved c =
    let long : 72 < length c.pieces.rest.now = search rules in
    let some : 0 < length c.cut_piece.result.1.now = search rules in
    let next =
    history-more c.args.hdu c.args.count c.pieces.place c.pieces.invariant.more c.pieces.rest.now c.cut_piece.result.0.now c.cut_piece.result.1.now (lines_in c.pieces.lines.items) (lines_in c.push_history.new.lines.items) _
    c.pieces.invariant.so_far long c.pieces.invariant.enough c.cut_piece.ensures.piece c.cut_piece.ensures.after some c.cut_piece.ensures.shorter c.in_ok-push_history.ensures in
    record { more = next.0; enough = next.1; so_far = next.2; within = omega (arith, c.pieces.invariant.within, c.cut_piece.ensures.shorter) }

pub returns : goal.returns
returns c =
    let short : length c.pieces.rest.now ≤ 72 = search rules in
    history-last c.args.hdu c.args.count c.pieces.place c.pieces.invariant.more c.pieces.rest.now (lines_in c.pieces.lines.items) _ _ c.pieces.invariant.so_far short c.in_ok-push_history-2.ensures
