use Rattle.std.proofs.Common.{Err, ◌≡◌, ◌+◌, ◌<◌, ◌≤◌, ◌∙◌, ap, sym, List, ℕ, length, map, take, arith, rules}
use Rattle.std.specs.Prelude.{IsErrOf}
use Rattle.std.proofs.lemmas.Grind.{common_steps}
use Rattle.std.proofs.lemmas.List.{length-append}
use Rattle.fits_card.specs.Header.{header_bytes}
use Rattle.fits_unit.specs.declared.again.LoadFault.{LoadFault}
use Rattle.fits_unit.specs.declared.again.LoadFault.TheVariants.{Changed}
use Rattle.fits_passing.specs.Hdu.{HduParts}
use Rattle.fits_passing.specs.File.{joined_hdus}
use Rattle.fits_hdu.specs.State.{HduState, hdu_at}
use Rattle.fits_hdu.proofs.StateLemmas.{parts_read}
use Rattle.fits_session.specs.Session.{hdus_of}
use Rattle.fits_session.proofs.HadLemmas.{had_set}
use Rattle.fits_session.proofs.KeptLemmas.{parts_same_at}
use Rattle.fits_session.proofs.OffsetLemmas.{ends_within, start_more}
use Rattle.fits_session.proofs.OverwritingLemmas.{front_next, length_next, lies_here, stays_rest}
use Rattle.fits_session.proofs.SaveLemmas.{hdus_kept, first_read_more, all_read, once_at_end, once_at_most}
use Rattle.fits_session.proofs.StateLemmas.{absences_of-same}
use Rattle.fits_session.proofs.session.overwriting.plan_hdus.Goals as goal

pub plan_hdu-requires-clause-few : goal.plan_hdu-requires-clause-few
plan_hdu-requires-clause-few g c =
    let inv = c.loop-i.invariant in
    let hdu : HduState = c.index_mut-hdu.result.now in
    let l : c.loop-i.i < length c.loop-i.hdus.items = omega (arith, inv.count) in
    let begin : c.loop-i.start ≡ length (joined_hdus (take c.loop-i.i (hdus_of c.loop-i.hdus.items))) = inv.start_is ∙ ap (λ (us : List HduParts). length (joined_hdus (take c.loop-i.i us))) (sym inv.same) in
    omega (arith, c.requires.few, ends_within c.loop-i.hdus.items c.loop-i.i c.loop-i.start hdu l c.index_mut-hdu.ensures.value begin, ap (λ (us : List HduParts). length (joined_hdus us)) inv.same, length-append (header_bytes hdu.header.header) hdu.plane.bytes)

pub returns-in_err-start-clause-follows : goal.returns-in_err-start-clause-follows
returns-in_err-start-clause-follows g c = λ xs is. c.loop-i.invariant.follows xs (c.plan_hdu.ensures.follows xs is)

pub returns-in_err-start-clause-work : goal.returns-in_err-start-clause-work
returns-in_err-start-clause-work g c =
    let l : c.loop-i.i < length c.loop-i.hdus.items = omega (arith, c.loop-i.invariant.count) in
    once_at_most _ c.loop-i.hdus.items c.loop-i.i c.index_mut-hdu.result.now _ c.loop-i.invariant.work l c.index_mut-hdu.ensures.value c.plan_hdu.ensures.work

pub returns-clause-work : goal.returns-clause-work
returns-clause-work g c =
    let l : length c.loop-i.hdus.items ≤ c.loop-i.i = omega (arith, c.loop-i.invariant.count) in
    once_at_end _ _ (all_read c.args.hdus.now.items c.loop-i.hdus.items c.loop-i.i c.loop-i.invariant.work c.loop-i.invariant.count l)

-- the file is long enough for this one
pub returns-in_err-start-clause-steady : goal.returns-in_err-start-clause-steady
returns-in_err-start-clause-steady g c told is long changed =
    let inv = c.loop-i.invariant in
    let hdu : HduState = c.index_mut-hdu.result.now in
    let l : c.loop-i.i < length c.loop-i.hdus.items = omega (arith, inv.count) in
    let begin : c.loop-i.start ≡ length (joined_hdus (take c.loop-i.i (hdus_of c.loop-i.hdus.items))) = inv.start_is ∙ ap (λ (us : List HduParts). length (joined_hdus (take c.loop-i.i us))) (sym inv.same) in
    let wrong : IsErrOf {T = ℕ} {E = LoadFault} (Err c.in_err-start.field-0.0) Changed = search rules in
    c.in_err-start.ensures.steady told is (omega (arith, long, ends_within c.loop-i.hdus.items c.loop-i.i c.loop-i.start hdu l c.index_mut-hdu.ensures.value begin, ap (λ (us : List HduParts). length (joined_hdus us)) inv.same, length-append (header_bytes hdu.header.header) hdu.plane.bytes)) wrong

pub loop-i-preserved : goal.loop-i-preserved
loop-i-preserved g c =
    let inv = c.loop-i.invariant in
    let i : ℕ = c.loop-i.i in
    let hdus : List HduState = c.loop-i.hdus.items in
    let hdu : HduState = c.index_mut-hdu.result.now in
    let e = c.index_mut-hdu.ensures.value in
    let l : i < length hdus = omega (arith, inv.count) in
    let begin : c.loop-i.start ≡ length (joined_hdus (take i (hdus_of hdus))) = inv.start_is ∙ ap (λ (us : List HduParts). length (joined_hdus (take i us))) (sym inv.same) in
    let header : ℕ = length (header_bytes hdu.header.header) in
    let ends : c.in_ok-start.start ≡ c.loop-i.start + header + length hdu.plane.bytes = omega (arith, c.in_ok-start.ensures.end, length-append (header_bytes hdu.header.header) hdu.plane.bytes) in
    record {
      start_is = start_more hdus i c.loop-i.start (c.loop-i.start + header) c.in_ok-start.start hdu l e begin (omega arith) ends ∙ ap (λ (us : List HduParts). length (joined_hdus (take (i + 1) us))) inv.same;
      begins = c.in_ok-start.ensures.blocks;
      stays = stays_rest hdus i c.loop-i.start c.in_ok-start.start hdu _ l e c.in_ok-start.ensures.end inv.stays;
      plan = λ told is all none.
          let us : List HduParts = hdus_of (map (hdu_at told) c.args.hdus.now.items) in
          front_next told hdus us i hdu _ (parts_same_at told _ _ inv.same inv.absences) l e
          (c.in_ok-start.ensures.plan told (joined_hdus (take i us)) is (lies_here told hdus i hdu (inv.lie told all) l e) (inv.place_is told all) (inv.plan told (c.plan_hdu.ensures.follows told is) all none));
      place_is = λ told all.
          let us : List HduParts = hdus_of (map (hdu_at told) c.args.hdus.now.items) in
          length_next told hdus us i c.loop-i.start c.in_ok-start.start hdu (parts_same_at told _ _ inv.same inv.absences) l e (lies_here told hdus i hdu (inv.lie told all) l e) c.in_ok-start.ensures.end (inv.place_is told all);
      len = c.plan_hdu.ensures.len ∙ inv.len;
      quiet = c.in_ok-start.ensures.quiet ∙ inv.quiet;
      follows = λ xs is. inv.follows xs (c.plan_hdu.ensures.follows xs is);
      lie = λ xs lie. had_set _ hdus i hdu _ _ l e c.plan_hdu.ensures.work (inv.lie xs lie);
      absences = absences_of-same hdus i hdu _ l e c.plan_hdu.ensures.work.absent ∙ inv.absences;
      same = hdus_kept hdus _ i hdu _ inv.same l e (parts_read _ _ _ c.plan_hdu.ensures.work);
      count = grind (arith, common_steps);
      work = first_read_more _ hdus i hdu _ _ inv.work l e c.plan_hdu.ensures.work c.in_ok-start.ensures.all_read;
    }
