use Rattle.std.proofs.Common.{◌≤◌, ◌<◌, length, ap, ◌∙◌, arith}
use Rattle.std.proofs.lemmas.List.{take_all}
use Rattle.fits_passing.specs.File.{joined_hdus}
use Rattle.fits_passing.specs.Report.{counts_in, names_from}
use Rattle.fits_session.specs.Session.{hdus_of}
use Rattle.fits_session.proofs.CountLemmas.{all_listed, counts_more, counts_small, hdu_small, within_more}
use Rattle.fits_session.proofs.ReportLemmas.{hdus_stay, seen_here}
use Rattle.fits_session.proofs.StateLemmas.{file_size, length-hdus_of}
use Rattle.fits_session.proofs.session.queries.counts_of.Goals as goal

pub counts-here-requires-clause-known : goal.counts-here-requires-clause-known
counts-here-requires-clause-known c =
    let l : c.loop-i.i < length c.loop-i.hdus.items = omega (arith, ap length c.loop-i.invariant.same) in
    seen_here c.loop-i.hdus.items _ c.loop-i.i c.index_mut-hdu.result.now c.loop-i.invariant.same c.requires.seen l c.index_mut-hdu.ensures.value

pub counts-here-requires-clause-small : goal.counts-here-requires-clause-small
counts-here-requires-clause-small c =
    let l : c.loop-i.i < length c.loop-i.hdus.items = omega (arith, ap length c.loop-i.invariant.same) in
    hdu_small c.loop-i.hdus.items _ c.requires.named.tail c.loop-i.i c.index_mut-hdu.result.now c.loop-i.invariant.same c.requires.named.whole l c.index_mut-hdu.ensures.value

pub plus-counts-requires-clause-errors : goal.plus-counts-requires-clause-errors
plus-counts-requires-clause-errors c =
    let l : c.loop-i.i < length c.loop-i.hdus.items = omega (arith, ap length c.loop-i.invariant.same) in
    omega (arith, counts_small c.loop-i.hdus.items _ c.requires.named.tail c.loop-i.i c.index_mut-hdu.result.now c.loop-i.counts c.counts-here.result c.loop-i.invariant.same c.requires.named.whole l c.index_mut-hdu.ensures.value c.loop-i.invariant.within c.counts-here.ensures.within)

pub plus-counts-requires-clause-warnings : goal.plus-counts-requires-clause-warnings
plus-counts-requires-clause-warnings c =
    let l : c.loop-i.i < length c.loop-i.hdus.items = omega (arith, ap length c.loop-i.invariant.same) in
    omega (arith, counts_small c.loop-i.hdus.items _ c.requires.named.tail c.loop-i.i c.index_mut-hdu.result.now c.loop-i.counts c.counts-here.result c.loop-i.invariant.same c.requires.named.whole l c.index_mut-hdu.ensures.value c.loop-i.invariant.within c.counts-here.ensures.within)

pub loop-i-preserved : goal.loop-i-preserved
loop-i-preserved c =
    let l : c.loop-i.i < length c.loop-i.hdus.items = omega (arith, ap length c.loop-i.invariant.same) in
    record {
      counts =
          counts_more c.loop-i.hdus.items c.args.hdus.now.items c.args.names.now.numbers.items c.loop-i.i c.index_mut-hdu.result.now c.is_repeated.result c.loop-i.counts c.counts-here.result c.plus-counts.result c.loop-i.invariant.same c.requires.named l c.index_mut-hdu.ensures.value
          (rw c.entry.ensures at c.is_repeated.ensures) c.loop-i.invariant.counts c.counts-here.ensures.value c.plus-counts.ensures;
      within = within_more c.loop-i.hdus.items _ c.loop-i.i c.index_mut-hdu.result.now c.loop-i.counts c.counts-here.result c.plus-counts.result c.loop-i.invariant.same l c.index_mut-hdu.ensures.value c.loop-i.invariant.within c.counts-here.ensures.within c.plus-counts.ensures;
      same = hdus_stay c.loop-i.hdus.items _ c.loop-i.i c.index_mut-hdu.result.now _ c.loop-i.invariant.same l c.index_mut-hdu.ensures.value c.counts-here.ensures.same;
    }

pub returns-clause-value : goal.returns-clause-value
returns-clause-value c =
    let l : length c.args.hdus.now.items ≤ c.loop-i.i = omega (arith, c.loop-i-test.false) in
    c.loop-i.invariant.counts ∙ ap counts_in (all_listed (names_from 1 (hdus_of c.args.hdus.now.items)) c.args.hdus.now.items c.loop-i.i l)

pub returns-clause-few : goal.returns-clause-few
returns-clause-few c =
    let all = take_all c.loop-i.i (hdus_of c.args.hdus.now.items) (omega (arith, c.loop-i-test.false, length-hdus_of c.args.hdus.now.items)) in
    omega (arith, c.loop-i.invariant.within, ap (λ us. length (joined_hdus us)) all, file_size c.args.hdus.now.items c.requires.named.tail c.requires.named.whole)
