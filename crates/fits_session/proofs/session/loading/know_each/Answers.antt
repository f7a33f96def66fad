use Rattle.std.proofs.Common.{All, ◌+◌, ◌∙◌, ap, arith, refl, subst}
use Rattle.std.proofs.lemmas.List.{take_all}
use Rattle.std.proofs.lemmas.List.Elements.{All-nil}
use Rattle.std.proofs.lemmas.Result.{err_from_is_err_and}
use Rattle.fits_session.specs.Away.{IsTold}
use Rattle.fits_session.specs.Session.{marked_of, session_at, IsSeen, SessionState}
use Rattle.fits_session.proofs.LoadedLemmas.{all_more, each_count, each_none, first_more, rest_more, so_all}
use Rattle.fits_session.proofs.HadLemmas.{told_before}
use Rattle.fits_session.proofs.StateLemmas.{length-hdus_of}
use Rattle.fits_session.proofs.session.loading.know_each.Goals as goal

pub loop-i-init : goal.loop-i-init
loop-i-init g c = record {
  told = λ told all. all;
  same = λ told all. refl;
  each = record { tail = refl; each = each_none c.args.session.now.hdus };
  rest = refl;
  known = All-nil IsSeen;
  idle = λ all. refl;
  seen = λ all. all;
  quiet = refl;
  follows = λ told is. is;
  reads = refl;
}

pub loop-i-preserved : goal.loop-i-preserved
loop-i-preserved g c = record {
  told = λ told all.
      let before = told_before _ told _ _ _ c.know.ensures.follows all in
      let now : IsTold g.H.Holder.whole told c.know.new.log c.loop-i.session.hdus = λ away. let own = all away in let was = c.loop-i.invariant.told told before away in (own.0, was.1) in
      c.know.ensures.told told now;
  same = λ told all.
      let before = told_before _ told _ _ _ c.know.ensures.follows all in
      let now : IsTold g.H.Holder.whole told c.know.new.log c.loop-i.session.hdus = λ away. let own = all away in let was = c.loop-i.invariant.told told before away in (own.0, was.1) in
      c.in_ok-know.ensures.same told now ∙ c.loop-i.invariant.same told before;
  each = all_more c.args.session.now c.loop-i.session c.know.new.self c.loop-i.i c.loop-i.invariant.each c.loop-i.invariant.rest c.know.ensures.alone;
  rest = rest_more c.args.session.now.hdus c.loop-i.session c.know.new.self c.loop-i.i c.loop-i.invariant.rest c.know.ensures.alone;
  known = first_more c.loop-i.session c.know.new.self c.loop-i.i c.loop-i.invariant.known c.know.ensures.alone c.in_ok-know.ensures.known;
  idle = λ all. c.know.ensures.idle (so_all (c.loop-i.i + 1) c.loop-i.session.hdus (c.loop-i.invariant.seen all)) ∙ c.loop-i.invariant.idle all;
  seen = λ all. c.know.ensures.seen (c.loop-i.invariant.seen all);
  quiet = c.in_ok-know.ensures.quiet ∙ c.loop-i.invariant.quiet;
  follows = λ told is. c.loop-i.invariant.follows told (c.know.ensures.follows told is);
  reads = c.know.ensures.reads ∙ c.loop-i.invariant.reads;
}

-- it stopped at one: that one is as it was
pub returns-in_err-know-clause-same : goal.returns-in_err-know-clause-same
returns-in_err-know-clause-same g c = λ told all.
    let before = told_before _ told _ _ _ c.know.ensures.follows all in
    ap (λ (it : SessionState). marked_of (session_at told it)) c.in_err-know.ensures.err ∙ c.loop-i.invariant.same told before

pub returns-in_err-know-clause-each : goal.returns-in_err-know-clause-each
returns-in_err-know-clause-each g c = all_more c.args.session.now c.loop-i.session c.know.new.self c.loop-i.i c.loop-i.invariant.each c.loop-i.invariant.rest c.know.ensures.alone

pub returns-in_err-know-clause-idle : goal.returns-in_err-know-clause-idle
returns-in_err-know-clause-idle g c = λ all. c.in_err-know.ensures.err ∙ c.loop-i.invariant.idle all

pub returns-in_err-know-clause-at_once : goal.returns-in_err-know-clause-at_once
returns-in_err-know-clause-at_once g c = λ all. absurd (let no = c.in_err-know.ensures.at_once (so_all (c.loop-i.i + 1) c.loop-i.session.hdus (c.loop-i.invariant.seen all)) in cc)

pub returns-in_err-know-clause-whole : goal.returns-in_err-know-clause-whole
returns-in_err-know-clause-whole g c = λ whole. absurd (let no = c.in_err-know.ensures.whole whole in cc)

pub returns-in_err-know-clause-unchanged : goal.returns-in_err-know-clause-unchanged
returns-in_err-know-clause-unchanged g c = λ told all.
    let before = told_before _ told _ _ _ c.know.ensures.follows all in
    let now : IsTold g.H.Holder.whole told c.know.new.log c.loop-i.session.hdus = λ away. let own = all away in let was = c.loop-i.invariant.told told before away in (own.0, was.1) in
    let p = err_from_is_err_and c.from_residual.result c.from_residual.ensures.1 in
    rw (p.1, p.2) (c.in_err-know.ensures.unchanged told now)

pub returns-in_err-know-clause-told : goal.returns-in_err-know-clause-told
returns-in_err-know-clause-told g c = λ told all.
    let before = told_before _ told _ _ _ c.know.ensures.follows all in
    let now : IsTold g.H.Holder.whole told c.know.new.log c.loop-i.session.hdus = λ away. let own = all away in let was = c.loop-i.invariant.told told before away in (own.0, was.1) in
    c.know.ensures.told told now

pub returns-in_err-know-clause-follows : goal.returns-in_err-know-clause-follows
returns-in_err-know-clause-follows g c = λ told is. c.loop-i.invariant.follows told (c.know.ensures.follows told is)

pub returns-in_err-know-clause-seen : goal.returns-in_err-know-clause-seen
returns-in_err-know-clause-seen g c = λ all. c.know.ensures.seen (c.loop-i.invariant.seen all)

pub returns-in_err-know-clause-reads : goal.returns-in_err-know-clause-reads
returns-in_err-know-clause-reads g c = c.know.ensures.reads ∙ c.loop-i.invariant.reads

-- all are known
pub returns-clause-known : goal.returns-clause-known
returns-clause-known g c =
    let many = each_count c.args.session.now.hdus c.loop-i.session.hdus c.loop-i.invariant.each.each in
    subst (All IsSeen) (take_all c.loop-i.i c.loop-i.session.hdus (omega (arith, many, c.loop-i-test.false, c.hdus-count.ensures, length-hdus_of c.args.session.now.hdus))) c.loop-i.invariant.known
