use Rattle.std.proofs.Common.{◌≡◌, ◌∙◌, length, sym, arith}
use Rattle.fits_stream.specs.Intake.{supply}
use Rattle.fits_stream.proofs.SightLemmas.{takes_fewer}
use Rattle.fits_diff.proofs.PairLemmas.{all_walked, pairs_length}
use Rattle.fits_diff.proofs.walking.walk_both.Goals as goal

pub pass_alone-requires-clause-limit : goal.pass_alone-requires-clause-limit
pass_alone-requires-clause-limit g c = omega (arith, takes_fewer _ _ _ c.in-Ok.ensures.ok.walked.taken, c.requires.limit)

pub returns-in-Err-pass_alone-clause-err : goal.returns-in-Err-pass_alone-clause-err
returns-in-Err-pass_alone-clause-err g c =
    let it = c.in-Ok.ensures.ok in
    c.in-Err-pass_alone.ensures.err (supply (g.F.Source.state c.args.a.now) c.args.first.now) it.hdus it.walked it.size c.requires.limit

pub pass_alone-requires-2-clause-limit : goal.pass_alone-requires-2-clause-limit
pass_alone-requires-2-clause-limit g c = omega (arith, takes_fewer _ _ _ c.in-Ok.ensures.ok.walked_other.taken, c.requires.limit_other)

pub returns-in-Ok-pass_alone-2-clause-ok : goal.returns-in-Ok-pass_alone-2-clause-ok
returns-in-Ok-pass_alone-2-clause-ok g c =
    all_walked c.in-Ok.count _ _ _ _ _ _ c.walk_pairs.new.text.items c.pass_alone.new.text.items c.pass_alone-2.new.text.items c.in-Ok.ensures.ok c.in-Ok.ensures.some c.in-Ok.ensures.ends c.in-Ok-pass_alone.ensures.ok c.in-Ok-pass_alone-2.ensures.ok

pub returns-in-Err-pass_alone-2-clause-err : goal.returns-in-Err-pass_alone-2-clause-err
returns-in-Err-pass_alone-2-clause-err g c =
    let it = c.in-Ok.ensures.ok in
    let size : length it.others ≡ c.in-Ok.count = sym (pairs_length 1 it.hdus it.others c.walk_pairs.new.text.items it.told) ∙ it.size in
    c.in-Err-pass_alone-2.ensures.err (supply (g.F.Source.state c.args.b.now) c.args.second.now) it.others it.walked_other size c.requires.limit_other
