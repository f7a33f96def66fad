use Rattle.std.proofs.Common.{arith}
use Rattle.std.proofs.lemmas.Grind.{common_steps}
use Rattle.std.proofs.lemmas.Result.{err_from_is_err_and}
use Rattle.fits_stream.proofs.SightLemmas.{takes_fewer, takes_quiet, takes_then_fails, takes_then_quiet}
use Rattle.fits_passing.proofs.WalkLemmas.{stops_at_first, stops_by_hdu, stops_full, walk_shorter, walked_more}
use Rattle.fits_passing.proofs.walking.walk.Goals as goal

pub returns-then-not-begins_file-clause-err : goal.returns-then-not-begins_file-clause-err
returns-then-not-begins_file-clause-err g c = stops_at_first _ _ c.requires c.in-Ok.ensures.ok c.in-Ok.ensures.ends (grind (arith, common_steps))

pub read_next-requires : goal.read_next-requires
read_next-requires g c = omega (arith, takes_fewer _ _ _ c.hdu.invariant.walked.taken, c.requires)

pub returns-in-Err-clause-err : goal.returns-in-Err-clause-err
returns-in-Err-clause-err g c = rw c.file_fault.ensures
    (stops_by_hdu g.K.Kept.keeps c.hdu.kept.items _ _ _ _ c.is_empty.result c.in-Err.fault c.requires c.hdu.invariant.walked c.hdu.invariant.begins c.hdu.invariant.few
    (grind (arith, common_steps)) (grind (arith, common_steps)) c.in-Err.ensures.err)

pub returns-then-len-eq-HDU_LIMIT-clause-err : goal.returns-then-len-eq-HDU_LIMIT-clause-err
returns-then-len-eq-HDU_LIMIT-clause-err g c =
    stops_full g.K.Kept.keeps c.push.new.self.items _ _
    (walked_more g.K.Kept.keeps c.hdu.kept.items c.push.new.self.items c.in-Ok-read_next.next _ _ _ _ c.is_empty.result c.hdu.invariant.walked c.in-Ok-read_next.ensures.ok (grind (arith, common_steps)) c.in_ok-push-in-Ok-read_next.ensures.items c.in-Ok-hold.ensures.ok)
    (grind (arith, common_steps)) (grind (arith, common_steps))

-- less is left with each HDU
pub hdu-smaller : goal.hdu-smaller
hdu-smaller g c = walk_shorter (g.K.Kept.keeps c.in-Ok-read_next.next) c.is_empty.result _ _ _ c.in-Ok-read_next.ensures.ok c.in-Ok-hold.ensures.ok

-- memory was refused after an HDU
pub returns-in_err-push-in-Ok-read_next-clause-err : goal.returns-in_err-push-in-Ok-read_next-clause-err
returns-in_err-push-in-Ok-read_next-clause-err g c =
    let p = err_from_is_err_and c.from_residual.result c.from_residual.ensures.1 in
    rw (p.1, p.2) (takes_then_quiet _ _ _ _ c.hdu.invariant.walked.taken (takes_quiet _ _ _ c.in-Ok-read_next.ensures.ok.taken))

-- a call failed after one
pub returns-in_default-hold-clause-err : goal.returns-in_default-hold-clause-err
returns-in_default-hold-clause-err g c = takes_then_fails _ _ _ _ c.hdu.invariant.walked.taken (takes_then_fails _ _ _ _ c.in-Ok-read_next.ensures.ok.taken c.in_default-hold.ensures.err)
