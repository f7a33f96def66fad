use Rattle.std.proofs.Common.{◌≤◌, ◌<◌, length, ap, ◌∙◌, arith}
use Rattle.fits_passing.specs.Report.{names_from}
use Rattle.fits_session.specs.Session.{hdus_of}
use Rattle.fits_session.proofs.CountLemmas.{all_listed, hdu_small, listed_here}
use Rattle.fits_session.proofs.ReportLemmas.{hdus_stay, seen_here}
use Rattle.fits_session.proofs.session.queries.problems.Goals as goal

pub whole-whole-requires-clause-known : goal.whole-whole-requires-clause-known
whole-whole-requires-clause-known c =
    let l : c.loop-i.i < length c.loop-i.hdus.items = omega (arith, ap length c.loop-i.invariant.same) in
    seen_here c.loop-i.hdus.items _ c.loop-i.i c.index_mut-hdu.result.now c.loop-i.invariant.same c.requires.seen l c.index_mut-hdu.ensures.value

pub whole-whole-requires-clause-small : goal.whole-whole-requires-clause-small
whole-whole-requires-clause-small c =
    let l : c.loop-i.i < length c.loop-i.hdus.items = omega (arith, ap length c.loop-i.invariant.same) in
    hdu_small c.loop-i.hdus.items _ c.requires.named.tail c.loop-i.i c.index_mut-hdu.result.now c.loop-i.invariant.same c.requires.named.whole l c.index_mut-hdu.ensures.value

pub returns-in_err-of_cards-clause-same : goal.returns-in_err-of_cards-clause-same
returns-in_err-of_cards-clause-same c = hdus_stay c.loop-i.hdus.items _ c.loop-i.i c.index_mut-hdu.result.now _ c.loop-i.invariant.same (omega (arith, ap length c.loop-i.invariant.same)) c.index_mut-hdu.ensures.value c.findings.ensures.same

pub returns-in_err-push_problems-clause-same : goal.returns-in_err-push_problems-clause-same
returns-in_err-push_problems-clause-same c = hdus_stay c.loop-i.hdus.items _ c.loop-i.i c.index_mut-hdu.result.now _ c.loop-i.invariant.same (omega (arith, ap length c.loop-i.invariant.same)) c.index_mut-hdu.ensures.value c.findings.ensures.same

pub loop-i-preserved : goal.loop-i-preserved
loop-i-preserved c =
    let l : c.loop-i.i < length c.loop-i.hdus.items = omega (arith, ap length c.loop-i.invariant.same) in
    record {
      listed =
          listed_here c.loop-i.hdus.items c.args.hdus.now.items c.args.names.now.numbers.items c.loop-i.i c.index_mut-hdu.result.now c.is_repeated-repeated.result c.whole-whole.result c.in_ok-of_cards.of_cards.items c.loop-i.report.items c.push_problems.new.report.items
          c.loop-i.invariant.same c.requires.named l c.index_mut-hdu.ensures.value (rw c.entry.ensures at c.is_repeated-repeated.ensures) c.whole-whole.ensures c.in_ok-of_cards.ensures.found c.loop-i.invariant.listed (rw c.deref.ensures.value at c.in_ok-push_problems.ensures);
      same = hdus_stay c.loop-i.hdus.items _ c.loop-i.i c.index_mut-hdu.result.now _ c.loop-i.invariant.same l c.index_mut-hdu.ensures.value c.findings.ensures.same;
    }

pub returns-clause-value : goal.returns-clause-value
returns-clause-value c =
    let l : length c.args.hdus.now.items ≤ c.loop-i.i = omega (arith, c.loop-i-test.false) in
    c.loop-i.invariant.listed ∙ all_listed (names_from 1 (hdus_of c.args.hdus.now.items)) c.args.hdus.now.items c.loop-i.i l

pub returns-clause-same : goal.returns-clause-same
returns-clause-same c = c.loop-i.invariant.same
