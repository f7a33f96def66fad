use Rattle.std.proofs.Common.{None, ◌<◌, ◌≤◌, ◌∙◌, length, map, arith, subst, sym}
use Rattle.std.proofs.lemmas.Grind.{common_steps}
use Rattle.std.proofs.lemmas.Result.{err_from_is_err_and}
use Rattle.fits_hdu.proofs.StateLemmas.{parts_read}
use Rattle.fits_hdu.proofs.PassedLemmas.{writes_more}
use Rattle.fits_session.specs.Session.{hdus_of}
use Rattle.fits_making.specs.Making.{Holding, IsHad}
use Rattle.std.proofs.lemmas.List.{length-map}
use Rattle.fits_hdu.specs.State.{hdu_at}
use Rattle.fits_session.specs.Away.{IsTold}
use Rattle.fits_session.proofs.LoadedLemmas.{told_on}
use Rattle.fits_session.proofs.KeptLemmas.{parts_same_at}
use Rattle.fits_session.proofs.StateLemmas.{absences_of-same, length-hdus_of}
use Rattle.fits_session.proofs.HadLemmas.{had_set, told_before}
use Rattle.fits_session.proofs.SaveLemmas.{Prints-hdu_at, Prints-hdus, WritesHdus-all, WritesHdus-more, copy_hdu_at, like_hdu, words_hdu, hdus_kept, first_read_more, all_read, once_at_end, once_at_most}
use Rattle.fits_session.proofs.session.saving.write_hdus.Goals as goal

pub loop-i-preserved : goal.loop-i-preserved
loop-i-preserved g c =
    let l : c.loop-i.i < length c.loop-i.hdus.items = omega (arith, c.loop-i.invariant.count) in
    record {
      printed = λ told all.
          let now : IsTold g.H.Holder.whole told c.emit.new.log c.loop-i.hdus.items = λ away. let own = all away in (own.0, c.loop-i.invariant.lie told own.1) in
          Prints-hdu_at told _ _ _ c.loop-i.hdus.items _ c.loop-i.i c.index_mut-hdu.result.now (parts_same_at told _ _ c.loop-i.invariant.same c.loop-i.invariant.absences) l c.index_mut-hdu.ensures.value (c.loop-i.invariant.printed told (told_before _ told _ _ _ c.emit.ensures.follows all))
          (c.in_ok-emit.ensures.ok told (told_on _ told _ c.loop-i.hdus.items c.loop-i.i c.index_mut-hdu.result.now now l c.index_mut-hdu.ensures.value));
      like = like_hdu _ _ _ c.loop-i.hdus.items c.args.hdus.now.items _ c.loop-i.i c.index_mut-hdu.result.now c.loop-i.invariant.same c.loop-i.invariant.absences l c.index_mut-hdu.ensures.value c.loop-i.invariant.words c.loop-i.invariant.like c.in_ok-emit.ensures.like;
      copied = WritesHdus-more _ c.loop-i.hdus.items c.loop-i.i c.index_mut-hdu.result.now _ _ _ _ _ _ c.loop-i.invariant.work l c.index_mut-hdu.ensures.value c.loop-i.invariant.copied c.in_ok-emit.ensures.copied;
      words = words_hdu c.loop-i.hdus.items _ c.loop-i.i c.index_mut-hdu.result.now _ c.loop-i.invariant.same l c.index_mut-hdu.ensures.value c.card_count-whole.ensures.whole c.loop-i.invariant.words;
      quiet = c.in_ok-emit.ensures.quiet ∙ c.loop-i.invariant.quiet;
      same = hdus_kept c.loop-i.hdus.items _ c.loop-i.i c.index_mut-hdu.result.now _ c.loop-i.invariant.same l c.index_mut-hdu.ensures.value (parts_read _ _ _ c.emit.ensures.work);
      absences = absences_of-same c.loop-i.hdus.items c.loop-i.i c.index_mut-hdu.result.now _ l c.index_mut-hdu.ensures.value c.emit.ensures.work.absent ∙ c.loop-i.invariant.absences;
      count = grind (arith, common_steps);
      had = had_set _ c.loop-i.hdus.items c.loop-i.i c.index_mut-hdu.result.now _ _ l c.index_mut-hdu.ensures.value c.emit.ensures.work c.loop-i.invariant.had;
      follows = λ xs is. c.loop-i.invariant.follows xs (c.emit.ensures.follows xs is);
      lie = λ xs lie. had_set _ c.loop-i.hdus.items c.loop-i.i c.index_mut-hdu.result.now _ _ l c.index_mut-hdu.ensures.value c.emit.ensures.work (c.loop-i.invariant.lie xs lie);
      work = first_read_more _ c.loop-i.hdus.items c.loop-i.i c.index_mut-hdu.result.now _ _ c.loop-i.invariant.work l c.index_mut-hdu.ensures.value c.emit.ensures.work c.in_ok-emit.ensures.all_read;
    }

pub returns-in_err-emit-clause-err : goal.returns-in_err-emit-clause-err
returns-in_err-emit-clause-err g c told all =
    let l : c.loop-i.i < length c.loop-i.hdus.items = omega (arith, c.loop-i.invariant.count) in
    let now : IsTold g.H.Holder.whole told c.emit.new.log c.loop-i.hdus.items = λ away. let own = all away in (own.0, c.loop-i.invariant.lie told own.1) in
    let p = err_from_is_err_and c.from_residual.result c.from_residual.ensures.1 in
    rw (p.1, p.2) (copy_hdu_at told _ _ _ c.loop-i.hdus.items _ c.loop-i.i c.index_mut-hdu.result.now c.in_err-emit.field-0.0 (parts_same_at told _ _ c.loop-i.invariant.same c.loop-i.invariant.absences) l c.index_mut-hdu.ensures.value (c.loop-i.invariant.printed told (told_before _ told _ _ _ c.emit.ensures.follows all))
    (c.in_err-emit.ensures.err told (told_on _ told _ c.loop-i.hdus.items c.loop-i.i c.index_mut-hdu.result.now now l c.index_mut-hdu.ensures.value)))

pub returns-in_err-emit-clause-work : goal.returns-in_err-emit-clause-work
returns-in_err-emit-clause-work g c =
    let l : c.loop-i.i < length c.loop-i.hdus.items = omega (arith, c.loop-i.invariant.count) in
    once_at_most _ c.loop-i.hdus.items c.loop-i.i c.index_mut-hdu.result.now _ c.loop-i.invariant.work l c.index_mut-hdu.ensures.value c.emit.ensures.work

pub returns-clause-work : goal.returns-clause-work
returns-clause-work g c =
    let l : length c.loop-i.hdus.items ≤ c.loop-i.i = omega (arith, c.loop-i.invariant.count) in
    once_at_end _ _ (all_read c.args.hdus.now.items c.loop-i.hdus.items c.loop-i.i c.loop-i.invariant.work c.loop-i.invariant.count l)

pub returns-clause-all_read : goal.returns-clause-all_read
returns-clause-all_read g c =
    let l : length c.loop-i.hdus.items ≤ c.loop-i.i = omega (arith, c.loop-i.invariant.count) in
    all_read c.args.hdus.now.items c.loop-i.hdus.items c.loop-i.i c.loop-i.invariant.work c.loop-i.invariant.count l

pub emit-requires : goal.emit-requires
emit-requires g c =
    let l : c.loop-i.i < length c.loop-i.hdus.items = omega (arith, c.loop-i.invariant.count) in
    let holding : Holding = record { whole = g.H.Holder.whole; told = None } in
    (subst (IsHad holding) (sym c.index_mut-hdu.ensures.value) (c.loop-i.invariant.had c.loop-i.i c.index_mut-hdu.result.now l))

pub returns-in_err-emit-clause-follows : goal.returns-in_err-emit-clause-follows
returns-in_err-emit-clause-follows g c = λ xs is. c.loop-i.invariant.follows xs (c.emit.ensures.follows xs is)

pub returns-clause-ok : goal.returns-clause-ok
returns-clause-ok g c = λ told all.
    Prints-hdus _ _ (hdus_of (map (hdu_at told) c.args.hdus.now.items)) c.loop-i.i (omega (arith, length-hdus_of (map (hdu_at told) c.args.hdus.now.items), length-map c.args.hdus.now.items (hdu_at told), c.loop-i.invariant.count)) (c.loop-i.invariant.printed told all)

pub returns-in_err-emit-clause-writes : goal.returns-in_err-emit-clause-writes
returns-in_err-emit-clause-writes g c =
    let p = err_from_is_err_and c.from_residual.result c.from_residual.ensures.1 in
    rw (p.1, p.2) (writes_more c.loop-i.invariant.like.like _ _ _ c.in_err-emit.field-0.0 c.loop-i.invariant.like.written c.in_err-emit.ensures.writes)

pub returns-clause-copied : goal.returns-clause-copied
returns-clause-copied g c = WritesHdus-all c.args.hdus.now.items c.loop-i.i _ _ _ _ (omega (arith, c.loop-i.invariant.count)) c.loop-i.invariant.copied
