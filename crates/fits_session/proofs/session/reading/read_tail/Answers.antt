use Rattle.std.proofs.Common.{◌≡◌, ◌∙◌, length, ap, arith, refl, rules, subst, sym, take}
use Rattle.std.proofs.lemmas.List.{take_all}
use Rattle.fits_stream.specs.Intake.{supply, Takes}
use Rattle.fits_stream.proofs.IntakeLemmas.{takes_passed}
use Rattle.fits_session.proofs.WalkLemmas.{tail_ends, taken_over}
use Rattle.fits_session.proofs.session.reading.read_tail.Goals as goal

pub returns-clause-ends : goal.returns-clause-ends
returns-clause-ends g c =
    let over = taken_over c.in_ok-tail-2.tail.items _ _ c.left-left.result c.in_ok-tail-2.ensures.ok c.left-left.ensures c.in_ok-tail-2.ensures.ends in
    tail_ends c.in_ok-tail-2.tail.items _ _ c.in_ok-tail-2.ensures.ok over.none (omega (arith, c.if-ahead-lt-BLOCK_LEN.false, ap length c.ahead-ahead.ensures)) ∙ c.requires.ends

pub returns-clause-over : goal.returns-clause-over
returns-clause-over g c = taken_over c.in_ok-tail-2.tail.items _ _ c.left-left.result c.in_ok-tail-2.ensures.ok c.left-left.ensures c.in_ok-tail-2.ensures.ends

-- all is ahead
pub returns-then-ahead-lt-BLOCK_LEN-clause-ok : goal.returns-then-ahead-lt-BLOCK_LEN-clause-ok
returns-then-ahead-lt-BLOCK_LEN-clause-ok g c =
    let ahead = c.args.intake.now.ahead in
    let same : c.in_ok-tail.tail.items ≡ ahead = search rules in
    let all : take c.len.result ahead ≡ c.in_ok-tail.tail.items = ap (take c.len.result) (sym same) ∙ take_all c.len.result c.in_ok-tail.tail.items (omega (arith, c.len.ensures)) in
    subst (Takes (supply (g.R.Source.state c.args.source.now) c.args.intake.now) (supply (g.R.Source.state c.args.source.now) c.pass.new.self)) all (takes_passed _ _ c.len.result refl c.pass.ensures.ahead c.pass.ensures.left)
