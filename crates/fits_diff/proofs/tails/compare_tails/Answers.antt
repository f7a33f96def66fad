use Rattle.std.proofs.Common.{◌≡◌, ◌⊎◌, ◌<◌, ◌≤◌, ◌∙◌, length, take, refl, ap, sym, arith, inl, inr}
use Rattle.std.specs.Prelude.{false, true}
use Rattle.std.specs.Str.{bytes_eq}
use Rattle.std.proofs.lemmas.Grind.{common_steps}
use Rattle.fits_stream.specs.Intake.{supply, Takes}
use Rattle.fits_stream.proofs.IntakeLemmas.{takes_passed}
use Rattle.fits_diff.proofs.PairLemmas.{fails_after}
use Rattle.fits_diff.proofs.TailLemmas.{tails_end, tails_more, tails_part}
use Rattle.fits_diff.proofs.tails.compare_tails.Goals.{then-ahead-lt-BLOCK_LEN-via-then-ahead-lt-BLOCK_LEN, then-ahead-lt-BLOCK_LEN-via-else-ahead-lt-BLOCK_LEN+then-other-lt-BLOCK_LEN}
use Rattle.fits_diff.proofs.tails.compare_tails.Goals as goal

-- less than a block is ahead of one
pub returns-then-ahead-lt-BLOCK_LEN-clause-ok : goal.returns-then-ahead-lt-BLOCK_LEN-clause-ok
returns-then-ahead-lt-BLOCK_LEN-clause-ok g c =
    let x = c.block.first.ahead in
    let y = c.block.second.ahead in
    let short : (length x < 2880) ⊎ (length y < 2880) = elim c.then-ahead-lt-BLOCK_LEN.branch [
      | then-ahead-lt-BLOCK_LEN-via-then-ahead-lt-BLOCK_LEN w ↦ inl (omega (arith, ap length c.ahead-ahead.ensures, w.if-ahead-lt-BLOCK_LEN.true))
      | then-ahead-lt-BLOCK_LEN-via-else-ahead-lt-BLOCK_LEN+then-other-lt-BLOCK_LEN w ↦ inr (omega (arith, ap length c.ahead-other.ensures, w.if-other-lt-BLOCK_LEN.true))
    ] in
    tails_end _ _ _ _ c.are_same.result c.block.invariant short (c.are_same.ensures ∙ ap (λ t. bytes_eq t c.ahead-other.result.now) c.ahead-ahead.ensures ∙ ap (bytes_eq x) c.ahead-other.ensures)

-- the next blocks differ
pub returns-then-not-are_same-clause-ok : goal.returns-then-not-are_same-clause-ok
returns-then-not-are_same-clause-ok g c =
    let x = c.block.first.ahead in
    let y = c.block.second.ahead in
    let many : 2880 ≤ length x = omega (arith, ap length c.ahead-ahead.ensures, c.if-ahead-lt-BLOCK_LEN.false) in
    let many_other : 2880 ≤ length y = omega (arith, ap length c.ahead-other.ensures, c.if-other-lt-BLOCK_LEN.false) in
    let block : c.split_at.result.0.now ≡ take 2880 x = c.split_at.ensures.front ∙ ap (take 2880) c.ahead-ahead.ensures in
    let other : c.split_at-in-block.result.0.now ≡ take 2880 y = c.split_at-in-block.ensures.front ∙ ap (take 2880) c.ahead-other.ensures in
    let is : c.are_same-in-block.result ≡ bytes_eq (take 2880 x) (take 2880 y) = c.are_same-in-block.ensures ∙ ap (λ t. bytes_eq t c.split_at-in-block.result.0.now) block ∙ ap (bytes_eq (take 2880 x)) other in
    let apart : c.are_same-in-block.result ≡ false = grind (arith, common_steps) in
    tails_part _ _ _ _ c.block.invariant many many_other (sym is ∙ apart)

pub block-preserved : goal.block-preserved
block-preserved g c =
    let x = c.block.first.ahead in
    let y = c.block.second.ahead in
    let many : 2880 ≤ length x = omega (arith, ap length c.ahead-ahead.ensures, c.if-ahead-lt-BLOCK_LEN.false) in
    let many_other : 2880 ≤ length y = omega (arith, ap length c.ahead-other.ensures, c.if-other-lt-BLOCK_LEN.false) in
    let block : c.split_at.result.0.now ≡ take 2880 x = c.split_at.ensures.front ∙ ap (take 2880) c.ahead-ahead.ensures in
    let other : c.split_at-in-block.result.0.now ≡ take 2880 y = c.split_at-in-block.ensures.front ∙ ap (take 2880) c.ahead-other.ensures in
    let is : c.are_same-in-block.result ≡ bytes_eq (take 2880 x) (take 2880 y) = c.are_same-in-block.ensures ∙ ap (λ t. bytes_eq t c.split_at-in-block.result.0.now) block ∙ ap (bytes_eq (take 2880 x)) other in
    let same : c.are_same-in-block.result ≡ true = grind (arith, common_steps) in
    tails_more _ _ _ _ _ _ _ _ c.block.invariant many many_other (sym is ∙ same) (takes_passed _ _ 2880 refl c.pass.ensures.ahead c.pass.ensures.left) (takes_passed _ _ 2880 refl c.pass-in-block.ensures.ahead c.pass-in-block.ensures.left) c.in-Ok.ensures.ok c.in-Ok.ensures.ok_other
    c.in-Ok.ensures.seen c.in-Ok.ensures.seen_other

-- a call failed
pub returns-in-Err-clause-err : goal.returns-in-Err-clause-err
returns-in-Err-clause-err g c =
    let it = c.block.invariant in
    let old = supply (g.F.Source.state c.args.a.now) c.args.first.now in
    let old_other = supply (g.F.Source.state c.args.b.now) c.args.second.now in
    let now = supply (g.F.Source.state c.block.a) c.block.first in
    let now_other = supply (g.F.Source.state c.block.b) c.block.second in
    let next = supply (g.F.Source.state c.block.a) c.pass.new.self in
    let next_other = supply (g.F.Source.state c.block.b) c.pass-in-block.new.self in
    let last = supply (g.F.Source.state c.hold_both.new.a) c.hold_both.new.first in
    let last_other = supply (g.F.Source.state c.hold_both.new.b) c.hold_both.new.second in
    let taken : Takes now next (take 2880 c.block.first.ahead) = takes_passed now next 2880 refl c.pass.ensures.ahead c.pass.ensures.left in
    let taken_other : Takes now_other next_other (take 2880 c.block.second.ahead) = takes_passed now_other next_other 2880 refl c.pass-in-block.ensures.ahead c.pass-in-block.ensures.left in
    fails_after old now last old_other now_other last_other it.bytes it.bytes c.in-Err.why it.taken it.taken_other
    (fails_after now next last now_other next_other last_other (take 2880 c.block.first.ahead) (take 2880 c.block.second.ahead) c.in-Err.why taken taken_other c.in-Err.ensures.err)
