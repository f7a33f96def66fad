use Rattle.std.proofs.Common.{◌≡◌, ◌∙◌, ℕ, List, ap, sym, subst, refl, [], length, true, false}
use Rattle.fits_extended.specs.Stands.{lines_in}
use Rattle.fits_extended.proofs.PlainsLemmas.{length-lines_in}
use Rattle.fits_tell.proofs.ExitLemmas.{at_exit}
use Rattle.fits_stream.specs.Stored.{ReadLogState}
use Rattle.fits_cli.specs.Answer.{Standing, done_last, is_last_done, plain_answer, plain_left, still_at, AtOne}
use Rattle.fits_cli.specs.Remark.{plain_remark}
use Rattle.fits_cli.specs.Reply.{reply_text}
use Rattle.fits_cli.specs.Running.{standing_at, IsToldBy, LacksOne, Progress}
use Rattle.fits_script.specs.Line.{reading_of}
use Rattle.fits_cli.proofs.PlainsLemmas.{at_first, at_later, at_none, done_last-none, last_after, last_of, stays_at, told_last}
use Rattle.fits_cli.proofs.RemarkLemmas.{remark_lines}
use Rattle.fits_cli.proofs.UnderWayLemmas.{follows_more, follows_none, told_before}
use Rattle.fits_cli.proofs.script.reply_to_last.Goals as goal

pub plains-init : goal.plains-init
plains-init g c = record { last = λ told by. refl; lacks = λ told by fault is. is; quiet = refl; here = refl; look = refl; follows = follows_none c.args.runner.now.log }

-- one of them has no answer
pub returns-in_err-reply-clause-err : goal.returns-in_err-reply-clause-err
returns-in_err-reply-clause-err g c told by =
    let inv = c.plains.invariant in
    let s : Standing = (standing_at told c.plains.runner) in
    let fault = c.in_err-reply.field-0.0 in
    let one = at_first (LacksOne fault) s c.in-Some.plain.now (lines_in c.in-Some.others.now) (c.in_err-reply.ensures.err told by) in
    at_exit _ _ _ c.from_residual.ensures.1
    (inv.lacks told (told_before g.H.Holder.whole told c.plains.runner.log c.reply.new.self.log c.reply.ensures.follows by) fault (subst (AtOne (LacksOne fault) s) (sym c.in-Some.ensures.some) one))

pub returns-then-is_last_done-clause-text : goal.returns-then-is_last_done-clause-text
returns-then-is_last_done-clause-text g c told by =
    let inv = c.plains.invariant in
    let s : Standing = (standing_at told c.plains.runner) in
    let last = told_last s (standing_at told c.reply.new.self) c.in-Some.plain.now (lines_in c.in-Some.others.now) (length c.in-Some.others.now) true c.refused-refused.result c.refused.result c.if-is_last_done.ensures (sym (length-lines_in c.in-Some.others.now)) c.refused-refused.ensures.value c.refused.ensures.value (c.in_ok-reply.ensures.left told by) in
    let is = last_of (standing_at told c.args.runner.now) s (lines_in c.args.plains.now) (lines_in c.plains.rest.now) (lines_in c.in-Some.others.now) c.in-Some.plain.now (inv.last told (told_before g.H.Holder.whole told c.plains.runner.log c.reply.new.self.log c.reply.ensures.follows by)) c.in-Some.ensures.some last in
    ap (λ (n : ℕ). reply_text n c.in_ok-reply.reply) (sym inv.here) ∙ c.in_ok-reply.ensures.text told by ∙ sym (ap plain_answer is)

pub returns-then-is_last_done-clause-remark : goal.returns-then-is_last_done-clause-remark
returns-then-is_last_done-clause-remark g c told by wanted =
    let inv = c.plains.invariant in
    let s : Standing = (standing_at told c.plains.runner) in
    let last = told_last s (standing_at told c.reply.new.self) c.in-Some.plain.now (lines_in c.in-Some.others.now) (length c.in-Some.others.now) true c.refused-refused.result c.refused.result c.if-is_last_done.ensures (sym (length-lines_in c.in-Some.others.now)) c.refused-refused.ensures.value c.refused.ensures.value (c.in_ok-reply.ensures.left told by) in
    let is = last_of (standing_at told c.args.runner.now) s (lines_in c.args.plains.now) (lines_in c.plains.rest.now) (lines_in c.in-Some.others.now) c.in-Some.plain.now (inv.last told (told_before g.H.Holder.whole told c.plains.runner.log c.reply.new.self.log c.reply.ensures.follows by)) c.in-Some.ensures.some last in
    remark_lines s c.in-Some.plain.now c.args.runner.now.line c.in_ok-reply.reply (sym inv.here) (c.in_ok-reply.ensures.remark told by wanted) ∙ sym (ap plain_remark is)

pub returns-then-is_last_done-clause-left : goal.returns-then-is_last_done-clause-left
returns-then-is_last_done-clause-left g c told by =
    let inv = c.plains.invariant in
    let s : Standing = (standing_at told c.plains.runner) in
    let last = told_last s (standing_at told c.reply.new.self) c.in-Some.plain.now (lines_in c.in-Some.others.now) (length c.in-Some.others.now) true c.refused-refused.result c.refused.result c.if-is_last_done.ensures (sym (length-lines_in c.in-Some.others.now)) c.refused-refused.ensures.value c.refused.ensures.value (c.in_ok-reply.ensures.left told by) in
    let is = last_of (standing_at told c.args.runner.now) s (lines_in c.args.plains.now) (lines_in c.plains.rest.now) (lines_in c.in-Some.others.now) c.in-Some.plain.now (inv.last told (told_before g.H.Holder.whole told c.plains.runner.log c.reply.new.self.log c.reply.ensures.follows by)) c.in-Some.ensures.some last in
    c.in_ok-reply.ensures.left told by ∙ sym (ap plain_left is)

-- it is done, and isn't the last
pub plains-preserved : goal.plains-preserved
plains-preserved g c =
    let inv = c.plains.invariant in
    let s : List ℕ → Standing = λ told. standing_at told c.plains.runner in
    let others : List (List ℕ) = lines_in c.in-Some.others.now in
    let own : (told : List ℕ) → IsToldBy g.H.Holder.whole told c.stay.new.self.log → IsToldBy g.H.Holder.whole told c.reply.new.self.log = λ told by. rw (ap (λ (r : Progress). r.log) c.stay.ensures) at by in
    let head : (told : List ℕ) → IsToldBy g.H.Holder.whole told c.stay.new.self.log → IsToldBy g.H.Holder.whole told c.plains.runner.log = λ told by. told_before g.H.Holder.whole told c.plains.runner.log c.reply.new.self.log c.reply.ensures.follows (own told by) in
    let more : (told : List ℕ) → IsToldBy g.H.Holder.whole told c.stay.new.self.log → is_last_done (s told) c.in-Some.plain.now others ≡ false = λ told by.
    told_last (s told) (standing_at told c.reply.new.self) c.in-Some.plain.now others (length c.in-Some.others.now) false c.refused-refused.result c.refused.result c.if-is_last_done.ensures (sym (length-lines_in c.in-Some.others.now)) c.refused-refused.ensures.value c.refused.ensures.value (c.in_ok-reply.ensures.left told (own told by)) in
    let next : (told : List ℕ) → IsToldBy g.H.Holder.whole told c.stay.new.self.log → (standing_at told c.stay.new.self) ≡ still_at (s told) (reading_of c.in-Some.plain.now) = λ told by.
    stays_at (s told) (standing_at told c.reply.new.self) (standing_at told c.stay.new.self) c.in-Some.plain.now c.line-number.result (c.in_ok-reply.ensures.left told (own told by)) (ap (standing_at told) c.stay.ensures) (c.line-number.ensures ∙ sym inv.here) in
    record {
      last = λ told by. last_after (standing_at told c.args.runner.now) (s told) (standing_at told c.stay.new.self) (lines_in c.args.plains.now) (lines_in c.plains.rest.now) others c.in-Some.plain.now (inv.last told (head told by)) c.in-Some.ensures.some (more told by) (next told by);
      lacks = λ told by fault is. inv.lacks told (head told by) fault
          (subst (AtOne (LacksOne fault) (s told)) (sym c.in-Some.ensures.some)
          (at_later (LacksOne fault) (s told) c.in-Some.plain.now others (more told by) (subst (λ (st : Standing). AtOne (LacksOne fault) st others) (next told by) is)));
      quiet = ap (λ (r : Progress). r.log.failures) c.stay.ensures ∙ c.in_ok-reply.ensures.quiet ∙ inv.quiet;
      here = ap (λ (r : Progress). r.line) c.stay.ensures ∙ c.line-number.ensures;
      look = ap (λ (r : Progress). r.look) c.stay.ensures ∙ c.reply.ensures.look ∙ c.plains.invariant.look;
      follows = follows_more c.args.runner.now.log c.plains.runner.log c.stay.new.self.log inv.follows (rw (ap (λ (r : Progress). r.log) c.stay.ensures) c.reply.ensures.follows);
    }

-- so too where its reply has something to drop
pub plains-preserved-else-is_last_done : goal.plains-preserved-else-is_last_done
plains-preserved-else-is_last_done g c =
    let inv = c.plains.invariant in
    let s : List ℕ → Standing = λ told. standing_at told c.plains.runner in
    let others : List (List ℕ) = lines_in c.in-Some.others.now in
    let own : (told : List ℕ) → IsToldBy g.H.Holder.whole told c.stay.new.self.log → IsToldBy g.H.Holder.whole told c.reply.new.self.log = λ told by. rw (ap (λ (r : Progress). r.log) c.stay.ensures) at by in
    let head : (told : List ℕ) → IsToldBy g.H.Holder.whole told c.stay.new.self.log → IsToldBy g.H.Holder.whole told c.plains.runner.log = λ told by. told_before g.H.Holder.whole told c.plains.runner.log c.reply.new.self.log c.reply.ensures.follows (own told by) in
    let more : (told : List ℕ) → IsToldBy g.H.Holder.whole told c.stay.new.self.log → is_last_done (s told) c.in-Some.plain.now others ≡ false = λ told by.
    told_last (s told) (standing_at told c.reply.new.self) c.in-Some.plain.now others (length c.in-Some.others.now) false c.refused-refused.result c.refused.result c.if-is_last_done.ensures (sym (length-lines_in c.in-Some.others.now)) c.refused-refused.ensures.value c.refused.ensures.value (c.in_ok-reply.ensures.left told (own told by)) in
    let next : (told : List ℕ) → IsToldBy g.H.Holder.whole told c.stay.new.self.log → (standing_at told c.stay.new.self) ≡ still_at (s told) (reading_of c.in-Some.plain.now) = λ told by.
    stays_at (s told) (standing_at told c.reply.new.self) (standing_at told c.stay.new.self) c.in-Some.plain.now c.line-number.result (c.in_ok-reply.ensures.left told (own told by)) (ap (standing_at told) c.stay.ensures) (c.line-number.ensures ∙ sym inv.here) in
    record {
      last = λ told by. last_after (standing_at told c.args.runner.now) (s told) (standing_at told c.stay.new.self) (lines_in c.args.plains.now) (lines_in c.plains.rest.now) others c.in-Some.plain.now (inv.last told (head told by)) c.in-Some.ensures.some (more told by) (next told by);
      lacks = λ told by fault is. inv.lacks told (head told by) fault
          (subst (AtOne (LacksOne fault) (s told)) (sym c.in-Some.ensures.some)
          (at_later (LacksOne fault) (s told) c.in-Some.plain.now others (more told by) (subst (λ (st : Standing). AtOne (LacksOne fault) st others) (next told by) is)));
      quiet = ap (λ (r : Progress). r.log.failures) c.stay.ensures ∙ c.in_ok-reply.ensures.quiet ∙ inv.quiet;
      here = ap (λ (r : Progress). r.line) c.stay.ensures ∙ c.line-number.ensures;
      look = ap (λ (r : Progress). r.look) c.stay.ensures ∙ c.reply.ensures.look ∙ c.plains.invariant.look;
      follows = follows_more c.args.runner.now.log c.plains.runner.log c.stay.new.self.log inv.follows (rw (ap (λ (r : Progress). r.log) c.stay.ensures) c.reply.ensures.follows);
    }

-- there is none, and so an empty line
pub returns-in_err-reply-2-clause-err : goal.returns-in_err-reply-2-clause-err
returns-in_err-reply-2-clause-err g c told by =
    let inv = c.plains.invariant in
    let s : Standing = (standing_at told c.plains.runner) in
    let fault = c.in_err-reply-2.field-0.0 in
    at_exit _ _ _ c.from_residual-in_err-reply-2.ensures.1
    (inv.lacks told (told_before g.H.Holder.whole told c.plains.runner.log c.reply-2.new.self.log c.reply-2.ensures.follows by) fault (subst (AtOne (LacksOne fault) s) (sym c.in_default.ensures.none) (at_none (LacksOne fault) s (c.in_err-reply-2.ensures.err told by))))

pub returns-clause-text : goal.returns-clause-text
returns-clause-text g c told by =
    let inv = c.plains.invariant in
    let s : Standing = (standing_at told c.plains.runner) in
    let is = inv.last told (told_before g.H.Holder.whole told c.plains.runner.log c.reply-2.new.self.log c.reply-2.ensures.follows by) ∙ ap (done_last s) c.in_default.ensures.none ∙ done_last-none s in
    ap (λ (n : ℕ). reply_text n c.in_ok-reply-2.field-0) (sym inv.here) ∙ c.in_ok-reply-2.ensures.text told by ∙ sym (ap plain_answer is)

pub returns-clause-remark : goal.returns-clause-remark
returns-clause-remark g c told by wanted =
    let inv = c.plains.invariant in
    let s : Standing = (standing_at told c.plains.runner) in
    let is = inv.last told (told_before g.H.Holder.whole told c.plains.runner.log c.reply-2.new.self.log c.reply-2.ensures.follows by) ∙ ap (done_last s) c.in_default.ensures.none ∙ done_last-none s in
    remark_lines s [] c.args.runner.now.line c.in_ok-reply-2.field-0 (sym inv.here) (c.in_ok-reply-2.ensures.remark told by wanted) ∙ sym (ap plain_remark is)

pub returns-clause-left : goal.returns-clause-left
returns-clause-left g c told by =
    let inv = c.plains.invariant in
    let s : Standing = (standing_at told c.plains.runner) in
    let is = inv.last told (told_before g.H.Holder.whole told c.plains.runner.log c.reply-2.new.self.log c.reply-2.ensures.follows by) ∙ ap (done_last s) c.in_default.ensures.none ∙ done_last-none s in
    c.in_ok-reply-2.ensures.left told by ∙ sym (ap plain_left is)

-- the log goes on
pub returns-in_err-reply-clause-follows : goal.returns-in_err-reply-clause-follows
returns-in_err-reply-clause-follows g c = follows_more c.args.runner.now.log c.plains.runner.log c.reply.new.self.log c.plains.invariant.follows c.reply.ensures.follows

pub returns-then-is_last_done-clause-follows : goal.returns-then-is_last_done-clause-follows
returns-then-is_last_done-clause-follows g c = follows_more c.args.runner.now.log c.plains.runner.log c.reply.new.self.log c.plains.invariant.follows c.reply.ensures.follows

pub returns-in_err-reply-2-clause-follows : goal.returns-in_err-reply-2-clause-follows
returns-in_err-reply-2-clause-follows g c = follows_more c.args.runner.now.log c.plains.runner.log c.reply-2.new.self.log c.plains.invariant.follows c.reply-2.ensures.follows

pub returns-clause-follows : goal.returns-clause-follows
returns-clause-follows g c = follows_more c.args.runner.now.log c.plains.runner.log c.reply-2.new.self.log c.plains.invariant.follows c.reply-2.ensures.follows
