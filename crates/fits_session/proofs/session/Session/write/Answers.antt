use Rattle.fits_hdu.specs.State.{hdu_at}
use Rattle.std.specs.Prelude.{All}
use Rattle.std.proofs.Common.{◌++◌, subst, map, None}
use Rattle.fits_unit.specs.declared.again.CopyFault.TheVariants.{Write}
use Rattle.fits_hdu.proofs.PassedLemmas.{writes_more}
use Rattle.fits_stream.specs.Stream.{Prints, PrintsFront}
use Rattle.fits_passing.specs.File.{joined_hdus}
use Rattle.fits_session.specs.Away.{in_file, AllLie, IsTold}
use Rattle.fits_stream.proofs.StreamLemmas.{Prints-more, PrintsFront-more}
use Rattle.std.proofs.lemmas.Result.{err_from_is_err_and}
use Rattle.fits_session.specs.Session.{IsSeen, hdus_of}
use Rattle.fits_making.specs.Making.{Holding}
use Rattle.fits_session.proofs.KeptLemmas.{seen_same, absences_counted, marked_counted, kept_counted}
use Rattle.fits_session.proofs.HadLemmas.{kept_in}
use Rattle.fits_session.proofs.SaveLemmas.{copy_hdus, like_tail}
use Rattle.fits_session.proofs.session.Session.write.Goals as goal

-- the HDUs were read, and nothing else of them changes
pub invariant_of-self : goal.invariant_of-self
invariant_of-self g c =
    let holding : Holding = record { whole = g.H.Holder.whole; told = None } in
    (kept_counted holding c.self.inside.hdus.items c.write_hdus.new.hdus.items c.self.inside.tail.items c.self.inside.len c.self.inside.names.numbers.items c.self.inside.names.room c.write_hdus.ensures.work.hdus c.self.invariant)

pub invariant_of-self-2 : goal.invariant_of-self-2
invariant_of-self-2 g c =
    let holding : Holding = record { whole = g.H.Holder.whole; told = None } in
    (kept_counted holding c.self.inside.hdus.items c.write_hdus.new.hdus.items c.self.inside.tail.items c.self.inside.len c.self.inside.names.numbers.items c.self.inside.names.room c.write_hdus.ensures.work.hdus c.self.invariant)

pub returns-in_err-write_hdus-clause-err : goal.returns-in_err-write_hdus-clause-err
returns-in_err-write_hdus-clause-err g c told all =
    let own : IsTold g.H.Holder.whole told c.write_hdus.new.log c.self.inside.hdus.items = rw (← c.self.view_is) at all in
    let p = err_from_is_err_and c.from_residual.result c.from_residual.ensures.1 in
    rw (p.1, p.2, ← c.self.view_is) (copy_hdus (hdus_of (map (hdu_at told) c.self.inside.hdus.items)) c.self.inside.tail.items _ _ c.in_err-write_hdus.field-0.0 (c.in_err-write_hdus.ensures.err told own))

pub returns-in_err-write_hdus-clause-file : goal.returns-in_err-write_hdus-clause-file
returns-in_err-write_hdus-clause-file g c = rw (← c.self.view_is) (marked_counted c.self.inside.hdus.items c.write_hdus.new.hdus.items c.self.inside.tail.items c.write_hdus.ensures.work.hdus)

pub returns-clause-file : goal.returns-clause-file
returns-clause-file g c = rw (← c.self.view_is) (marked_counted c.self.inside.hdus.items c.write_hdus.new.hdus.items c.self.inside.tail.items c.write_hdus.ensures.work.hdus)

pub invariant_of-self-in_default : goal.invariant_of-self-in_default
invariant_of-self-in_default g c =
    let holding : Holding = record { whole = g.H.Holder.whole; told = None } in
    (kept_counted holding c.self.inside.hdus.items c.write_hdus.new.hdus.items c.self.inside.tail.items c.self.inside.len c.self.inside.names.numbers.items c.self.inside.names.room c.write_hdus.ensures.work.hdus c.self.invariant)

pub returns-in_default-clause-file : goal.returns-in_default-clause-file
returns-in_default-clause-file g c = rw (← c.self.view_is) (marked_counted c.self.inside.hdus.items c.write_hdus.new.hdus.items c.self.inside.tail.items c.write_hdus.ensures.work.hdus)

pub returns-in_default-clause-err : goal.returns-in_default-clause-err
returns-in_default-clause-err g c = λ told all.
    let own : IsTold g.H.Holder.whole told c.write_hdus.new.log c.self.inside.hdus.items = rw (← c.self.view_is) at all in
    let all = PrintsFront-more _ _ _ (joined_hdus (hdus_of (map (hdu_at told) c.self.inside.hdus.items))) _ (c.in_ok-write_hdus.ensures.ok told own) c.in_default.ensures.err in
    rw (← c.self.view_is) (subst (λ t. PrintsFront (joined_hdus (hdus_of (map (hdu_at told) c.self.inside.hdus.items)) ++ t) (g.W.Sink.state c.args.sink.now) (g.W.Sink.state c.write_all.new.sink)) c.deref.ensures.value all)

pub returns-clause-ok : goal.returns-clause-ok
returns-clause-ok g c = λ told all.
    let own : IsTold g.H.Holder.whole told c.write_hdus.new.log c.self.inside.hdus.items = rw (← c.self.view_is) at all in
    let all = Prints-more _ _ _ (joined_hdus (hdus_of (map (hdu_at told) c.self.inside.hdus.items))) _ (c.in_ok-write_hdus.ensures.ok told own) c.in-Ok.ensures.ok in
    rw (← c.self.view_is) (subst (λ t. Prints (joined_hdus (hdus_of (map (hdu_at told) c.self.inside.hdus.items)) ++ t) (g.W.Sink.state c.args.sink.now) (g.W.Sink.state c.write_all.new.sink)) c.deref.ensures.value all)

pub returns-in_err-write_hdus-clause-stays : goal.returns-in_err-write_hdus-clause-stays
returns-in_err-write_hdus-clause-stays g c = record {
  lie = λ bytes lie.
      let own : AllLie bytes c.self.inside.hdus.items = rw (← c.self.view_is) at lie in
      (kept_counted (in_file bytes) c.self.inside.hdus.items c.write_hdus.new.hdus.items c.self.inside.tail.items c.self.inside.len c.self.inside.names.numbers.items c.self.inside.names.room c.write_hdus.ensures.work.hdus (kept_in _ (in_file bytes) _ _ _ _ _ c.self.invariant own)).had;
  seen = λ all.
      let own : All IsSeen c.self.inside.hdus.items = rw (← c.self.view_is) at all in
      seen_same c.write_hdus.new.hdus.items c.self.inside.hdus.items (absences_counted c.self.inside.hdus.items c.write_hdus.new.hdus.items c.write_hdus.ensures.work.hdus) own;
}

pub returns-clause-stays : goal.returns-clause-stays
returns-clause-stays g c = record {
  lie = λ bytes lie.
      let own : AllLie bytes c.self.inside.hdus.items = rw (← c.self.view_is) at lie in
      (kept_counted (in_file bytes) c.self.inside.hdus.items c.write_hdus.new.hdus.items c.self.inside.tail.items c.self.inside.len c.self.inside.names.numbers.items c.self.inside.names.room c.write_hdus.ensures.work.hdus (kept_in _ (in_file bytes) _ _ _ _ _ c.self.invariant own)).had;
  seen = λ all.
      let own : All IsSeen c.self.inside.hdus.items = rw (← c.self.view_is) at all in
      seen_same c.write_hdus.new.hdus.items c.self.inside.hdus.items (absences_counted c.self.inside.hdus.items c.write_hdus.new.hdus.items c.write_hdus.ensures.work.hdus) own;
}

pub returns-in_default-clause-stays : goal.returns-in_default-clause-stays
returns-in_default-clause-stays g c = record {
  lie = λ bytes lie.
      let own : AllLie bytes c.self.inside.hdus.items = rw (← c.self.view_is) at lie in
      (kept_counted (in_file bytes) c.self.inside.hdus.items c.write_hdus.new.hdus.items c.self.inside.tail.items c.self.inside.len c.self.inside.names.numbers.items c.self.inside.names.room c.write_hdus.ensures.work.hdus (kept_in _ (in_file bytes) _ _ _ _ _ c.self.invariant own)).had;
  seen = λ all.
      let own : All IsSeen c.self.inside.hdus.items = rw (← c.self.view_is) at all in
      seen_same c.write_hdus.new.hdus.items c.self.inside.hdus.items (absences_counted c.self.inside.hdus.items c.write_hdus.new.hdus.items c.write_hdus.ensures.work.hdus) own;
}

-- headers and tail are exactly those of the file
pub returns-clause-copied : goal.returns-clause-copied
returns-clause-copied g c =
    let tail = subst (λ t. Prints t (g.W.Sink.state c.write_hdus.new.sink) (g.W.Sink.state c.write_all.new.sink)) c.deref.ensures.value c.in-Ok.ensures.ok in
    rw (← c.self.view_is) (record { mid = g.W.Sink.state c.write_hdus.new.sink; hdus = c.in_ok-write_hdus.ensures.copied; tail = tail })

-- the tail isn't written whole
pub returns-in_default-clause-writes : goal.returns-in_default-clause-writes
returns-in_default-clause-writes g c = let like = c.in_ok-write_hdus.ensures.like in writes_more like.like _ _ _ Write like.written (c.deref.result.now, c.in_default.ensures.err)

-- no data unit lies elsewhere
pub returns-in_err-write_hdus-clause-absences : goal.returns-in_err-write_hdus-clause-absences
returns-in_err-write_hdus-clause-absences g c = rw (← c.self.view_is) (absences_counted c.self.inside.hdus.items c.write_hdus.new.hdus.items c.write_hdus.ensures.work.hdus)

pub returns-clause-absences : goal.returns-clause-absences
returns-clause-absences g c = rw (← c.self.view_is) (absences_counted c.self.inside.hdus.items c.write_hdus.new.hdus.items c.write_hdus.ensures.work.hdus)

pub returns-in_default-clause-absences : goal.returns-in_default-clause-absences
returns-in_default-clause-absences g c = rw (← c.self.view_is) (absences_counted c.self.inside.hdus.items c.write_hdus.new.hdus.items c.write_hdus.ensures.work.hdus)

-- they are as many, and where all are known have the same total
pub returns-clause-like : goal.returns-clause-like
returns-clause-like g c =
    let tail = subst (λ t. Prints t (g.W.Sink.state c.write_hdus.new.sink) (g.W.Sink.state c.write_all.new.sink)) c.deref.ensures.value c.in-Ok.ensures.ok in
    rw (← c.self.view_is) (like_tail c.self.inside.hdus.items (hdus_of c.self.inside.hdus.items) c.self.inside.tail.items (g.W.Sink.state c.args.sink.now) (g.W.Sink.state c.write_hdus.new.sink) (g.W.Sink.state c.write_all.new.sink) c.in_ok-write_hdus.ensures.words c.in_ok-write_hdus.ensures.like tail)
