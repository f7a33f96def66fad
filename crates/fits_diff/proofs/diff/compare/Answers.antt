use Rattle.fits_stream.specs.Intake.{supply}
use Rattle.fits_diff.proofs.FileLemmas.{passes_files}
use Rattle.fits_diff.proofs.PairLemmas.{walk_failed_then}
use Rattle.fits_diff.proofs.diff.compare.Goals as goal

pub returns-in-Ok-compare_tails-clause-ok : goal.returns-in-Ok-compare_tails-clause-ok
returns-in-Ok-compare_tails-clause-ok g c =
    passes_files _ _ _ _ _ _ c.walk_both.new.text.items c.in-Ok-compare_tails.same c.in-Ok.ensures.ok c.in-Ok.ensures.ends c.in-Ok.ensures.ends_other c.in-Ok-compare_tails.ensures.ok

-- a call failed
pub returns-in-Err-compare_tails-clause-err : goal.returns-in-Err-compare_tails-clause-err
returns-in-Err-compare_tails-clause-err g c =
    walk_failed_then (supply (g.F.Source.state c.args.a.now) c.args.first.now) (supply (g.F.Source.state c.walk_both.new.a) c.walk_both.new.first) (supply (g.F.Source.state c.compare_tails.new.a) c.compare_tails.new.first)
    (supply (g.F.Source.state c.args.b.now) c.args.second.now) (supply (g.F.Source.state c.walk_both.new.b) c.walk_both.new.second) (supply (g.F.Source.state c.compare_tails.new.b) c.compare_tails.new.second) c.walk_both.new.text.items c.in-Err-compare_tails.why c.in-Ok.ensures.ok
    c.in-Err-compare_tails.ensures.err
