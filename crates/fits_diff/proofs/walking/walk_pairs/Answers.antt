use Rattle.std.proofs.Common.{◌≡◌, ◌+◌, ◌∙◌, ◌&&◌, refl, ap, sym, arith}
use Rattle.std.specs.Prelude.{true}
use Rattle.std.proofs.lemmas.Grind.{common_steps}
use Rattle.fits_stream.specs.Intake.{supply}
use Rattle.fits_passing.specs.File.{begins_extension}
use Rattle.fits_passing.specs.declared.limits.TheConstants.{HDU_LIMIT}
use Rattle.fits_diff.proofs.PairLemmas.{both_so, later_begins, pairs_failed, pairs_full, pairs_more, pairs_shorter, pairs_stop}
use Rattle.fits_diff.proofs.walking.walk_pairs.Goals as goal

-- HDUs weren't compared
pub returns-in-Err-compare_hdus-clause-err : goal.returns-in-Err-compare_hdus-clause-err
returns-in-Err-compare_hdus-clause-err g c =
    let it = c.hdu.invariant in
    rw c.diff_fault.ensures
    (pairs_stop c.hdu.count (c.hdu.count + 1) (supply (g.F.Source.state c.args.a.now) c.args.first.now) (supply (g.F.Source.state c.hdu.a) c.hdu.first) (supply (g.F.Source.state c.compare_hdus.new.a) c.compare_hdus.new.first)
    (supply (g.F.Source.state c.args.b.now) c.args.second.now) (supply (g.F.Source.state c.hdu.b) c.hdu.second) (supply (g.F.Source.state c.compare_hdus.new.b) c.compare_hdus.new.second) c.hdu.text.items c.in-Err-compare_hdus.why c.requires.limit c.requires.limit_other
    it.walked it.begins it.begins_other it.few refl c.in-Err-compare_hdus.ensures.err)

-- a call failed
pub returns-in-Err-hold_both-clause-err : goal.returns-in-Err-hold_both-clause-err
returns-in-Err-hold_both-clause-err g c =
    pairs_failed c.hdu.count (c.hdu.count + 1) _ (supply (g.F.Source.state c.args.a.now) c.args.first.now) (supply (g.F.Source.state c.hdu.a) c.hdu.first) (supply (g.F.Source.state c.compare_hdus.new.a) c.compare_hdus.new.first)
    (supply (g.F.Source.state c.hold_both-in-hdu.new.a) c.hold_both-in-hdu.new.first) (supply (g.F.Source.state c.args.b.now) c.args.second.now) (supply (g.F.Source.state c.hdu.b) c.hdu.second) (supply (g.F.Source.state c.compare_hdus.new.b) c.compare_hdus.new.second)
    (supply (g.F.Source.state c.hold_both-in-hdu.new.b) c.hold_both-in-hdu.new.second) c.hdu.text.items c.hdu.text.items c.compare_hdus.new.text.items c.in-Err-hold_both.why c.hdu.invariant.walked c.in-Ok-compare_hdus.ensures.ok c.in-Err-hold_both.ensures.err

pub returns-then-not-both_begin-clause-ok : goal.returns-then-not-both_begin-clause-ok
returns-then-not-both_begin-clause-ok g c =
    pairs_more c.hdu.count (c.hdu.count + 1) _ _ _ _ _ _ _ _ c.hdu.text.items c.compare_hdus.new.text.items c.hdu.invariant.walked c.in-Ok-compare_hdus.ensures.ok refl c.in-Ok-hold_both.ensures.ok c.in-Ok-hold_both.ensures.ok_other

-- there are too many
pub returns-then-count-eq-HDU_LIMIT-clause-err : goal.returns-then-count-eq-HDU_LIMIT-clause-err
returns-then-count-eq-HDU_LIMIT-clause-err g c =
    let x = c.hold_both-in-hdu.new.first.ahead in
    let y = c.hold_both-in-hdu.new.second.ahead in
    let is : c.both_begin.result ≡ (begins_extension x && begins_extension y) =
    c.both_begin.ensures ∙ ap (λ t. begins_extension t && begins_extension c.ahead-in-hdu-2.result.now) c.ahead-in-hdu.ensures ∙ ap (λ t. begins_extension x && begins_extension t) c.ahead-in-hdu-2.ensures in
    let so : c.both_begin.result ≡ true = grind (arith, common_steps) in
    let all : c.hdu.count + 1 ≡ HDU_LIMIT = grind (arith, common_steps) in
    pairs_full (c.hdu.count + 1) _ _ _ _ c.compare_hdus.new.text.items
    (pairs_more c.hdu.count (c.hdu.count + 1) _ _ _ _ _ _ _ _ c.hdu.text.items c.compare_hdus.new.text.items c.hdu.invariant.walked c.in-Ok-compare_hdus.ensures.ok refl c.in-Ok-hold_both.ensures.ok c.in-Ok-hold_both.ensures.ok_other)
    all (both_so (begins_extension x) (begins_extension y) (sym is ∙ so)).0

pub hdu-smaller : goal.hdu-smaller
hdu-smaller g c = pairs_shorter (c.hdu.count + 1) _ _ _ _ _ _ _ _ c.in-Ok-compare_hdus.ensures.ok c.in-Ok-hold_both.ensures.ok

pub hdu-preserved : goal.hdu-preserved
hdu-preserved g c =
    let x = c.hold_both-in-hdu.new.first.ahead in
    let y = c.hold_both-in-hdu.new.second.ahead in
    let is : c.both_begin.result ≡ (begins_extension x && begins_extension y) =
    c.both_begin.ensures ∙ ap (λ t. begins_extension t && begins_extension c.ahead-in-hdu-2.result.now) c.ahead-in-hdu.ensures ∙ ap (λ t. begins_extension x && begins_extension t) c.ahead-in-hdu-2.ensures in
    let so : c.both_begin.result ≡ true = grind (arith, common_steps) in
    let both = both_so (begins_extension x) (begins_extension y) (sym is ∙ so) in
    record {
      walked = pairs_more c.hdu.count (c.hdu.count + 1) _ _ _ _ _ _ _ _ c.hdu.text.items c.compare_hdus.new.text.items c.hdu.invariant.walked c.in-Ok-compare_hdus.ensures.ok refl c.in-Ok-hold_both.ensures.ok c.in-Ok-hold_both.ensures.ok_other;
      begins = later_begins c.hdu.count x both.0;
      begins_other = later_begins c.hdu.count y both.1;
      few = grind (arith, common_steps);
    }
