use Rattle.std.proofs.Common.{rules, arith, ◌≡◌, ◌∙◌, ℕ, ◌+◌, List, ap, sym, subst, refl, [], length, true, false}
use Rattle.std.specs.Prelude.{not}
use Rattle.std.proofs.lemmas.List.{append-nil}
use Rattle.fits_extended.specs.Stands.{lines_in}
use Rattle.fits_tell.proofs.ExitLemmas.{at_exit}
use Rattle.fits_cli.specs.Answer.{Standing, all_refused, asked_again, at_next, first_line, held_after, held_at, plain_answer, plain_left, AtEach}
use Rattle.fits_cli.specs.Remark.{plain_remark, remark_by, remark_line}
use Rattle.fits_cli.specs.Reply.{reply_text}
use Rattle.fits_cli.specs.Running.{standing_at, IsToldBy, LacksOne, Progress}
use Rattle.fits_script.specs.Line.{reading_of}
use Rattle.fits_cli.proofs.EachLemmas.{LacksEach-at, answers_end, answers_on, asked_as, each_again, each_done, each_done_left, each_done_quiet, each_later, each_none, each_none_left, each_none_said, each_now, held_end, held_on, holds_at, refused_end, refused_on}
use Rattle.fits_cli.proofs.RemarkLemmas.{remark_lines}
use Rattle.fits_cli.proofs.UnderWayLemmas.{follows_more, follows_none, told_before}
use Rattle.fits_cli.proofs.script.reply_of_each.Goals as goal

pub plains-init : goal.plains-init
plains-init g c = record { text = λ told by. (rw c.new-text.ensures.items refl); any = λ told by. refl; held = λ told by. refl; lacks = λ told by fault is. is; within = omega arith; quiet = refl; here = refl; count = refl; look = refl; follows = follows_none c.args.runner.now.log }

-- one of them has no answer
pub returns-in_err-reply-clause-err : goal.returns-in_err-reply-clause-err
returns-in_err-reply-clause-err g c told by =
    let inv = c.plains.invariant in
    let s : Standing = standing_at told c.plains.runner in
    let all : List (List ℕ) = lines_in c.args.plains.now in
    let fault = c.in_err-reply.field-0.0 in
    let before = told_before g.H.Holder.whole told c.plains.runner.log c.reply.new.self.log c.reply.ensures.follows by in
    at_exit _ _ _ c.from_residual.ensures.1
    (LacksEach-at (standing_at told c.args.runner.now) all fault (inv.lacks told before fault (each_now (LacksOne fault) (first_line all) c.in-Some.plain.now s (lines_in c.plains.rest.now) (lines_in c.in-Some.others.now) c.in-Some.ensures.some (c.in_err-reply.ensures.err told by))))

-- memory was refused as its answer was put to the others
pub returns-in_err-done-clause-err : goal.returns-in_err-done-clause-err
returns-in_err-done-clause-err g c told by = at_exit _ _ _ c.from_residual-in_err-done.ensures.1 tt

pub plains-preserved : goal.plains-preserved
plains-preserved g c =
    let inv = c.plains.invariant in
    let s : List ℕ → Standing = λ told. standing_at told c.plains.runner in
    let now : List ℕ → Standing = λ told. standing_at told c.reply.new.self in
    let next : List ℕ → Standing = λ told. standing_at told c.hold.new.self in
    let plain : List ℕ = c.in-Some.plain.now in
    let rest : List (List ℕ) = lines_in c.plains.rest.now in
    let others : List (List ℕ) = lines_in c.in-Some.others.now in
    let first : List ℕ = first_line (lines_in c.args.plains.now) in
    let own : (told : List ℕ) → IsToldBy g.H.Holder.whole told c.hold.new.self.log → IsToldBy g.H.Holder.whole told c.reply.new.self.log = λ told by. rw (ap (λ (r : Progress). r.log) c.hold.ensures) at by in
    let head : (told : List ℕ) → IsToldBy g.H.Holder.whole told c.hold.new.self.log → IsToldBy g.H.Holder.whole told c.plains.runner.log = λ told by. told_before g.H.Holder.whole told c.plains.runner.log c.reply.new.self.log c.reply.ensures.follows (own told by) in
    let is : (told : List ℕ) → IsToldBy g.H.Holder.whole told c.hold.new.self.log → next told ≡ held_at (s told) (reading_of plain) = λ told by.
    holds_at (s told) (now told) (next told) plain c.line-number.result c.refused-refused.result (c.in_ok-reply.ensures.left told (own told by)) (ap (standing_at told) c.hold.ensures) (c.line-number.ensures ∙ sym inv.here) (c.refused-refused.ensures.value ∙ sym inv.count) in
    record {
      text = λ told by. answers_on (c.plains.hdu + 1) (s told) (now told) (next told) plain c.plains.text.items c.push_numbered.new.text.items _ rest others c.in_ok-reply.reply (inv.text told (head told by)) c.in-Some.ensures.some c.in_ok-done.ensures.text (c.in_ok-reply.ensures.text told (own told by)) (c.in_ok-reply.ensures.left told (own told by)) c.in_ok-reply.ensures.counts (is told by);
      any = λ told by. refused_on (s told) (now told) (next told) plain rest others c.in_ok-reply.reply c.plains.any c.in_ok-done.done _ _ (inv.any told (head told by)) c.in-Some.ensures.some c.in_ok-done.ensures.done refl (c.in_ok-reply.ensures.left told (own told by)) c.in_ok-reply.ensures.counts (is told by);
      held = λ told by. held_on (s told) (next told) _ plain rest others (inv.held told (head told by)) c.in-Some.ensures.some (is told by);
      lacks = λ told by fault at. inv.lacks told (head told by) fault (each_later (LacksOne fault) first plain (s told) (next told) rest others c.in-Some.ensures.some (is told by) at);
      within = omega (arith, c.in-Some.ensures.shorter, inv.within);
      quiet = ap (λ (r : Progress). r.log.failures) c.hold.ensures ∙ c.in_ok-reply.ensures.quiet ∙ inv.quiet;
      here = ap (λ (r : Progress). r.line) c.hold.ensures ∙ c.line-number.ensures;
      count = ap (λ (r : Progress). r.refused) c.hold.ensures ∙ c.refused-refused.ensures.value;
      look = ap (λ (r : Progress). r.look) c.hold.ensures ∙ c.reply.ensures.look ∙ c.plains.invariant.look;
      follows = follows_more c.args.runner.now.log c.plains.runner.log c.hold.new.self.log inv.follows (rw (ap (λ (r : Progress). r.log) c.hold.ensures) c.reply.ensures.follows);
    }

-- so too where its reply has something to drop
pub plains-preserved-in_ok-done : goal.plains-preserved-in_ok-done
plains-preserved-in_ok-done g c =
    let inv = c.plains.invariant in
    let s : List ℕ → Standing = λ told. standing_at told c.plains.runner in
    let now : List ℕ → Standing = λ told. standing_at told c.reply.new.self in
    let next : List ℕ → Standing = λ told. standing_at told c.hold.new.self in
    let plain : List ℕ = c.in-Some.plain.now in
    let rest : List (List ℕ) = lines_in c.plains.rest.now in
    let others : List (List ℕ) = lines_in c.in-Some.others.now in
    let first : List ℕ = first_line (lines_in c.args.plains.now) in
    let own : (told : List ℕ) → IsToldBy g.H.Holder.whole told c.hold.new.self.log → IsToldBy g.H.Holder.whole told c.reply.new.self.log = λ told by. rw (ap (λ (r : Progress). r.log) c.hold.ensures) at by in
    let head : (told : List ℕ) → IsToldBy g.H.Holder.whole told c.hold.new.self.log → IsToldBy g.H.Holder.whole told c.plains.runner.log = λ told by. told_before g.H.Holder.whole told c.plains.runner.log c.reply.new.self.log c.reply.ensures.follows (own told by) in
    let is : (told : List ℕ) → IsToldBy g.H.Holder.whole told c.hold.new.self.log → next told ≡ held_at (s told) (reading_of plain) = λ told by.
    holds_at (s told) (now told) (next told) plain c.line-number.result c.refused-refused.result (c.in_ok-reply.ensures.left told (own told by)) (ap (standing_at told) c.hold.ensures) (c.line-number.ensures ∙ sym inv.here) (c.refused-refused.ensures.value ∙ sym inv.count) in
    record {
      text = λ told by. answers_on (c.plains.hdu + 1) (s told) (now told) (next told) plain c.plains.text.items c.push_numbered.new.text.items _ rest others c.in_ok-reply.reply (inv.text told (head told by)) c.in-Some.ensures.some c.in_ok-done.ensures.text (c.in_ok-reply.ensures.text told (own told by)) (c.in_ok-reply.ensures.left told (own told by)) c.in_ok-reply.ensures.counts (is told by);
      any = λ told by. refused_on (s told) (now told) (next told) plain rest others c.in_ok-reply.reply c.plains.any c.in_ok-done.done _ _ (inv.any told (head told by)) c.in-Some.ensures.some c.in_ok-done.ensures.done refl (c.in_ok-reply.ensures.left told (own told by)) c.in_ok-reply.ensures.counts (is told by);
      held = λ told by. held_on (s told) (next told) _ plain rest others (inv.held told (head told by)) c.in-Some.ensures.some (is told by);
      lacks = λ told by fault at. inv.lacks told (head told by) fault (each_later (LacksOne fault) first plain (s told) (next told) rest others c.in-Some.ensures.some (is told by) at);
      within = omega (arith, c.in-Some.ensures.shorter, inv.within);
      quiet = ap (λ (r : Progress). r.log.failures) c.hold.ensures ∙ c.in_ok-reply.ensures.quiet ∙ inv.quiet;
      here = ap (λ (r : Progress). r.line) c.hold.ensures ∙ c.line-number.ensures;
      count = ap (λ (r : Progress). r.refused) c.hold.ensures ∙ c.refused-refused.ensures.value;
      look = ap (λ (r : Progress). r.look) c.hold.ensures ∙ c.reply.ensures.look ∙ c.plains.invariant.look;
      follows = follows_more c.args.runner.now.log c.plains.runner.log c.hold.new.self.log inv.follows (rw (ap (λ (r : Progress). r.log) c.hold.ensures) c.reply.ensures.follows);
    }

-- one is done, and the answers of all that are stand for the line
pub returns-then-any-clause-text : goal.returns-then-any-clause-text
returns-then-any-clause-text g c told by =
    let inv = c.plains.invariant in
    let s : Standing = standing_at told c.plains.runner in
    let rest : List (List ℕ) = lines_in c.plains.rest.now in
    let all : List (List ℕ) = lines_in c.args.plains.now in
    let first : Standing = standing_at told c.args.runner.now in
    let own : IsToldBy g.H.Holder.whole told c.plains.runner.log = rw (ap (λ (r : Progress). r.log) c.go_on.ensures.left) at by in
    let some : all_refused first all ≡ false = refused_end s rest c.plains.any _ (inv.any told own) c.in_default.ensures.none ∙ ap not c.if-any.true in
    ap (reply_text first.line) c.go_on.ensures.reply
    ∙ sym (append-nil c.plains.text.items) ∙ answers_end (c.plains.hdu + 1) s c.plains.text.items _ rest (inv.text told own) c.in_default.ensures.none
    ∙ each_done first all some

pub returns-then-any-clause-remark : goal.returns-then-any-clause-remark
unfolding remark_by
returns-then-any-clause-remark g c told by wanted =
    let inv = c.plains.invariant in
    let s : Standing = standing_at told c.plains.runner in
    let rest : List (List ℕ) = lines_in c.plains.rest.now in
    let all : List (List ℕ) = lines_in c.args.plains.now in
    let first : Standing = standing_at told c.args.runner.now in
    let own : IsToldBy g.H.Holder.whole told c.plains.runner.log = rw (ap (λ (r : Progress). r.log) c.go_on.ensures.left) at by in
    let some : all_refused first all ≡ false = refused_end s rest c.plains.any _ (inv.any told own) c.in_default.ensures.none ∙ ap not c.if-any.true in
    ap (λ it. remark_line first.line (remark_by [] it)) c.go_on.ensures.reply ∙ each_done_quiet first all some

pub returns-then-any-clause-left : goal.returns-then-any-clause-left
returns-then-any-clause-left g c told by =
    let inv = c.plains.invariant in
    let s : Standing = standing_at told c.plains.runner in
    let rest : List (List ℕ) = lines_in c.plains.rest.now in
    let all : List (List ℕ) = lines_in c.args.plains.now in
    let first : Standing = standing_at told c.args.runner.now in
    let own : IsToldBy g.H.Holder.whole told c.plains.runner.log = rw (ap (λ (r : Progress). r.log) c.go_on.ensures.left) at by in
    let some : all_refused first all ≡ false = refused_end s rest c.plains.any _ (inv.any told own) c.in_default.ensures.none ∙ ap not c.if-any.true in
    ap (standing_at told) c.go_on.ensures.left ∙ ap at_next (held_end s _ rest (inv.held told own) c.in_default.ensures.none) ∙ each_done_left first all some

-- none is, and the first of them is asked again
pub returns-in_err-reply-2-clause-err : goal.returns-in_err-reply-2-clause-err
returns-in_err-reply-2-clause-err g c told by =
    let inv = c.plains.invariant in
    let s : Standing = standing_at told c.plains.runner in
    let all : List (List ℕ) = lines_in c.args.plains.now in
    let fault = c.in_err-reply-2.field-0.0 in
    let before = told_before g.H.Holder.whole told c.plains.runner.log c.reply-2.new.self.log c.reply-2.ensures.follows by in
    at_exit _ _ _ c.from_residual-in_err-reply-2.ensures.1
    (LacksEach-at (standing_at told c.args.runner.now) all fault (inv.lacks told before fault (each_again (LacksOne fault) (first_line all) s (lines_in c.plains.rest.now) c.in_default.ensures.none (rw c.first_line-first.ensures at (c.in_err-reply-2.ensures.err told by)))))

pub returns-clause-text : goal.returns-clause-text
returns-clause-text g c told by =
    let inv = c.plains.invariant in
    let s : Standing = standing_at told c.plains.runner in
    let rest : List (List ℕ) = lines_in c.plains.rest.now in
    let all : List (List ℕ) = lines_in c.args.plains.now in
    let first : Standing = standing_at told c.args.runner.now in
    let own : IsToldBy g.H.Holder.whole told c.plains.runner.log = told_before g.H.Holder.whole told c.plains.runner.log c.reply-2.new.self.log c.reply-2.ensures.follows by in
    let none : all_refused first all ≡ true = refused_end s rest c.plains.any _ (inv.any told own) c.in_default.ensures.none ∙ ap not c.if-any.false in
    let again = asked_as s first c.first_line-first.result.now all (held_end s _ rest (inv.held told own) c.in_default.ensures.none) c.first_line-first.ensures in
    ap (λ (n : ℕ). reply_text n c.in_ok-reply-2.field-0) (sym inv.here) ∙ c.in_ok-reply-2.ensures.text told by ∙ ap plain_answer again ∙ each_none first all none

pub returns-clause-remark : goal.returns-clause-remark
returns-clause-remark g c told by wanted =
    let inv = c.plains.invariant in
    let s : Standing = standing_at told c.plains.runner in
    let rest : List (List ℕ) = lines_in c.plains.rest.now in
    let all : List (List ℕ) = lines_in c.args.plains.now in
    let first : Standing = standing_at told c.args.runner.now in
    let own : IsToldBy g.H.Holder.whole told c.plains.runner.log = told_before g.H.Holder.whole told c.plains.runner.log c.reply-2.new.self.log c.reply-2.ensures.follows by in
    let none : all_refused first all ≡ true = refused_end s rest c.plains.any _ (inv.any told own) c.in_default.ensures.none ∙ ap not c.if-any.false in
    let again = asked_as s first c.first_line-first.result.now all (held_end s _ rest (inv.held told own) c.in_default.ensures.none) c.first_line-first.ensures in
    remark_lines s c.first_line-first.result.now first.line c.in_ok-reply-2.field-0 (sym inv.here) (c.in_ok-reply-2.ensures.remark told by wanted) ∙ ap plain_remark again ∙ each_none_said first all none

pub returns-clause-left : goal.returns-clause-left
returns-clause-left g c told by =
    let inv = c.plains.invariant in
    let s : Standing = standing_at told c.plains.runner in
    let rest : List (List ℕ) = lines_in c.plains.rest.now in
    let all : List (List ℕ) = lines_in c.args.plains.now in
    let first : Standing = standing_at told c.args.runner.now in
    let own : IsToldBy g.H.Holder.whole told c.plains.runner.log = told_before g.H.Holder.whole told c.plains.runner.log c.reply-2.new.self.log c.reply-2.ensures.follows by in
    let none : all_refused first all ≡ true = refused_end s rest c.plains.any _ (inv.any told own) c.in_default.ensures.none ∙ ap not c.if-any.false in
    let again = asked_as s first c.first_line-first.result.now all (held_end s _ rest (inv.held told own) c.in_default.ensures.none) c.first_line-first.ensures in
    c.in_ok-reply-2.ensures.left told by ∙ ap plain_left again ∙ each_none_left first all none

-- the log goes on
pub returns-in_err-reply-clause-follows : goal.returns-in_err-reply-clause-follows
returns-in_err-reply-clause-follows g c = follows_more c.args.runner.now.log c.plains.runner.log c.reply.new.self.log c.plains.invariant.follows c.reply.ensures.follows

pub returns-in_err-done-clause-follows : goal.returns-in_err-done-clause-follows
returns-in_err-done-clause-follows g c = follows_more c.args.runner.now.log c.plains.runner.log c.reply.new.self.log c.plains.invariant.follows c.reply.ensures.follows

pub returns-then-any-clause-follows : goal.returns-then-any-clause-follows
returns-then-any-clause-follows g c = rw (ap (λ (r : Progress). r.log) c.go_on.ensures.left) c.plains.invariant.follows

pub returns-in_err-reply-2-clause-follows : goal.returns-in_err-reply-2-clause-follows
returns-in_err-reply-2-clause-follows g c = follows_more c.args.runner.now.log c.plains.runner.log c.reply-2.new.self.log c.plains.invariant.follows c.reply-2.ensures.follows

pub returns-clause-follows : goal.returns-clause-follows
returns-clause-follows g c = follows_more c.args.runner.now.log c.plains.runner.log c.reply-2.new.self.log c.plains.invariant.follows c.reply-2.ensures.follows
