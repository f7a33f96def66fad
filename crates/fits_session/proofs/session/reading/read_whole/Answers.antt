use Rattle.std.proofs.Common.{arith}
use Rattle.std.proofs.lemmas.List.{length-append}
use Rattle.fits_passing.specs.File.{joined_hdus}
use Rattle.fits_session.proofs.WalkLemmas.{all_passed, gave_of_read, hdus_length, tail_stops, walked_whole}
use Rattle.fits_passing.proofs.WalkLemmas.{ends_before, rest_gave}
use Rattle.fits_stream.proofs.SightLemmas.{takes_then_quiet}
use Rattle.fits_session.proofs.session.reading.read_whole.Goals as goal

pub overflow_sub-hdus_len : goal.overflow_sub-hdus_len
overflow_sub-hdus_len g c = omega (arith, c.left-all.ensures, c.left.ensures, hdus_length g.K.Kept.keeps c.in-Ok.hdus.items _ _ c.in-Ok.ensures.walked)

pub returns-in-Ok-end-clause-ok : goal.returns-in-Ok-end-clause-ok
returns-in-Ok-end-clause-ok g c =
    walked_whole g.K.Kept.keeps c.in-Ok.hdus.items c.in-Ok-read_tail.tail.items _ _ _ _ _ c.in-Ok.ensures.walked c.requires.few c.in-Ok-read_tail.ensures.ok c.in-Ok.ensures.some c.in-Ok.ensures.few c.in-Ok-read_tail.ensures.ends
    c.in-Ok-read_tail.ensures.over c.in-Ok-end.ensures.ok
    (omega (
      arith,
      c.left-all.ensures,
      c.left.ensures,
      c.len.ensures,
      hdus_length g.K.Kept.keeps c.in-Ok.hdus.items _ _ c.in-Ok.ensures.walked,
      length-append (joined_hdus c.in-Ok.ensures.walked.hdus) c.in-Ok-read_tail.tail.items,
    ))
    c.in-Ok-end.ensures.came c.in-Ok-end.ensures.over

pub returns-in-Err-end-clause-err : goal.returns-in-Err-end-clause-err
returns-in-Err-end-clause-err g c =
    ends_before _ _ (g.R.Source.state c.end.new.source) _ c.in-Err-end.fault c.requires.limited
    (all_passed g.K.Kept.keeps c.in-Ok.hdus.items c.in-Ok-read_tail.tail.items _ _ _ c.in-Ok.ensures.walked c.in-Ok-read_tail.ensures.ok)
    c.in-Err-end.ensures.err

-- the tail wasn't read
pub returns-in-Err-read_tail-clause-err : goal.returns-in-Err-read_tail-clause-err
returns-in-Err-read_tail-clause-err g c = tail_stops g.K.Kept.keeps c.in-Ok.hdus.items _ _ _ c.in-Err-read_tail.fault _ c.in-Ok.ensures.walked c.in-Err-read_tail.ensures.err c.from.ensures

-- nothing failed
pub returns-in-Ok-end-clause-quiet : goal.returns-in-Ok-end-clause-quiet
returns-in-Ok-end-clause-quiet g c = takes_then_quiet _ _ _ _ c.in-Ok.ensures.walked.taken (takes_then_quiet _ _ _ _ c.in-Ok-read_tail.ensures.ok c.in-Ok-end.ensures.quiet)

-- the fault is one of what came
pub returns-in-Err-clause-gave : goal.returns-in-Err-clause-gave
returns-in-Err-clause-gave g c = λ begun. c.settled.ensures.gave _ begun c.in-Err.ensures.err

pub returns-in-Err-read_tail-clause-gave : goal.returns-in-Err-read_tail-clause-gave
returns-in-Err-read_tail-clause-gave g c = λ begun. gave_of_read _ _ c.in-Err-read_tail.fault _ c.from.ensures

pub returns-in-Err-end-clause-gave : goal.returns-in-Err-end-clause-gave
returns-in-Err-end-clause-gave g c = λ begun.
    rest_gave _ _ (g.R.Source.state c.end.new.source) _ c.in-Err-end.fault begun
    (all_passed g.K.Kept.keeps c.in-Ok.hdus.items c.in-Ok-read_tail.tail.items _ _ _ c.in-Ok.ensures.walked c.in-Ok-read_tail.ensures.ok)
    c.in-Err-end.ensures.err
