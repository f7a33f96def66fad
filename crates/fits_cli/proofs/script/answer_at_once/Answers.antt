use Rattle.fits_tell.proofs.ExitLemmas.{last_err, last_ok}
use Rattle.fits_cli.proofs.ScriptLemmas.{Continues-flushed, PieceStops-unflushed}
use Rattle.fits_cli.proofs.FrameLemmas.{line_unflushed, some_flushed}
use Rattle.fits_cli.proofs.script.answer_at_once.Goals as goal

pub returns-clause-ok : goal.returns-clause-ok
returns-clause-ok g c told by = last_ok _ c.flush.ensures.ok (Continues-flushed _ _ _ _ _ _ _ _ _ (c.in_ok-answer_piece.ensures.ok told by))

pub returns-clause-err : goal.returns-clause-err
returns-clause-err g c told by = last_err _ c.flush.ensures.err (λ why failed. PieceStops-unflushed _ _ _ _ _ _ _ _ _ why (c.in_ok-answer_piece.ensures.ok told by) failed)

pub returns-clause-said : goal.returns-clause-said
returns-clause-said g c = last_ok _ c.flush.ensures.ok (λ flush. some_flushed _ _ _ c.in_ok-answer_piece.ensures.said flush)

pub returns-clause-leaves : goal.returns-clause-leaves
returns-clause-leaves g c = last_err _ c.flush.ensures.err (λ why failed. line_unflushed _ _ _ why c.in_ok-answer_piece.ensures.said failed)
