-- Plain queries of each HDU that one line stands for, each asked whatever the others come to.
use Rattle.std.proofs.Common.{◌≡◌, ℕ, zero, suc, ◌+◌, List, [], ◌∷◌, ◌++◌, length, Bool, true, false, refl, ap, sym, ◌∙◌, inl, inr, append_assoc, subst, arith}
use Rattle.std.proofs.lemmas.Bool.{le-ltb, lt-ltb}
use Rattle.std.specs.Prelude.{◌&&◌, ◌||◌, not, nat_lt, codes, if◌then◌else◌}
use Rattle.std.specs.Fmt.{decimal}
use Rattle.fits_script.specs.Line.{reading_of}
use Rattle.fits_cli.specs.Answer.{Standing, all_refused, asked_again, at_next, each_answer, each_left, first_line, hdu_answer, hdu_answers, held_after, held_at, is_refused, line_answer, line_left, plain_answer, plain_left, AtEach, PlainWantsData}
use Rattle.fits_cli.specs.Faults.{IsUnchanged}
use Rattle.fits_cli.specs.Remark.{each_remark, plain_remark}
use Rattle.fits_cli.specs.Reply.{counts_as_refused, numbered_reply, reply_text}
use Rattle.fits_cli.specs.Running.{Heard, LacksEach, LacksOne, StopsAs}
use Rattle.fits_cli.specs.declared.reply.Reply.{Reply}
use Rattle.fits_cli.specs.declared.reply.Reply.TheVariants as reply
use Rattle.fits_tell.specs.declared.fault.Fault.{Fault}
use Rattle.fits_tell.specs.declared.fault.Fault.TheVariants.{Refused, ScriptTooLong, Memory, ReadFailed, WriteFailed, Reread as RereadFault}

-- what is so at the query that comes next, after those of earlier HDUs
pub each_now : (Is : Standing → List ℕ → Type 0) (first plain : List ℕ) (s : Standing) (rest others : List (List ℕ)) → rest ≡ plain ∷ others → Is s plain → AtEach Is first s rest
unfolding AtEach
each_now Is first plain s rest others cut is = subst (AtEach Is first s) (sym cut) (let at : AtEach Is first s (plain ∷ others) = inl is in at)

-- and at one after it
pub each_later : (Is : Standing → List ℕ → Type 0) (first plain : List ℕ) (s next : Standing) (rest others : List (List ℕ)) → rest ≡ plain ∷ others → next ≡ held_at s (reading_of plain)
    → AtEach Is first next others → AtEach Is first s rest
unfolding AtEach
each_later Is first plain s next rest others cut is at =
    subst (AtEach Is first s) (sym cut) (let later : AtEach Is first s (plain ∷ others) = inr (subst (λ (st : Standing). AtEach Is first st others) is at) in later)

-- and at the one that is asked again, once all were asked
pub each_again : (Is : Standing → List ℕ → Type 0) (first : List ℕ) (s : Standing) (rest : List (List ℕ)) → rest ≡ [] → Is s first → AtEach Is first s rest
unfolding AtEach
each_again Is first s rest none is = subst (AtEach Is first s) (sym none) (let at : AtEach Is first s [] = is in at)

-- what follows from it is so there
AtEach-weaker : (Is So : Standing → List ℕ → Type 0) (f : (s : Standing) (plain : List ℕ) → Is s plain → So s plain) (first : List ℕ) (s : Standing) (plains : List (List ℕ)) → AtEach Is first s plains → AtEach So first s plains
unfolding AtEach
AtEach-weaker Is So f first s [] is = f s first is
AtEach-weaker Is So f first s (plain ∷ others) (inl is) = inl (f s plain is)
AtEach-weaker Is So f first s (plain ∷ others) (inr later) = inr (AtEach-weaker Is So f first (held_at s (reading_of plain)) others later)

-- and what follows whatever the query
AtEach-so : (Is : Standing → List ℕ → Type 0) (So : Type 0) (f : (s : Standing) (plain : List ℕ) → Is s plain → So) (first : List ℕ) (s : Standing) (plains : List (List ℕ)) → AtEach Is first s plains → So
unfolding AtEach
AtEach-so Is So f first s [] is = f s first is
AtEach-so Is So f first s (plain ∷ others) (inl is) = f s plain is
AtEach-so Is So f first s (plain ∷ others) (inr later) = AtEach-so Is So f first (held_at s (reading_of plain)) others later

-- one of them has no answer
pub LacksEach-at : (s : Standing) (plains : List (List ℕ)) (fault : Fault) → AtEach (LacksOne fault) (first_line plains) s plains → LacksEach s plains fault
LacksEach-at s plains (Refused why) at = AtEach-so (LacksOne (Refused why)) ⊥ (λ s plain is. is) (first_line plains) s plains at
LacksEach-at s plains ScriptTooLong at = AtEach-so (LacksOne ScriptTooLong) ⊥ (λ s plain is. is) (first_line plains) s plains at
LacksEach-at s plains Memory at = tt
LacksEach-at s plains ReadFailed at = AtEach-so (LacksOne ReadFailed) ⊥ (λ s plain is. is) (first_line plains) s plains at
LacksEach-at s plains WriteFailed at = AtEach-so (LacksOne WriteFailed) ⊥ (λ s plain is. is) (first_line plains) s plains at
LacksEach-at s plains (RereadFault why) at = (
  AtEach-so (LacksOne (RereadFault why)) (IsUnchanged why) (λ s plain is. is.0) (first_line plains) s plains at,
  AtEach-weaker (LacksOne (RereadFault why)) PlainWantsData (λ s plain is. is.1) (first_line plains) s plains at,
)

-- so they aren't answered
pub StopsAs-each : (text : List ℕ) (s : Standing) (plains : List (List ℕ)) (held : Heard) (fault : Fault) → LacksEach s plains fault
    → StopsAs text (Unit {0}) (AtEach PlainWantsData (first_line plains) s plains) held held fault
StopsAs-each text s plains held (Refused why) lacks = lacks
StopsAs-each text s plains held ScriptTooLong lacks = lacks
StopsAs-each text s plains held Memory lacks = (lacks, refl)
StopsAs-each text s plains held ReadFailed lacks = lacks
StopsAs-each text s plains held WriteFailed lacks = absurd lacks
StopsAs-each text s plains held (RereadFault why) lacks = (lacks.0, (lacks.1, refl))

-- one more is more
more_is : (n : ℕ) (is : Bool) → nat_lt n (n + (if is then 1 else 0)) ≡ is
more_is n true = lt-ltb n (n + 1) (omega arith)
more_is n false = le-ltb n (n + 0) (omega arith)

-- a query is refused as its reply counts
refused_as : (s now : Standing) (plain : List ℕ) (it : Reply) → now ≡ line_left s (reading_of plain) → now.refused ≡ s.refused + (if counts_as_refused it then 1 else 0)
    → is_refused s (reading_of plain) ≡ counts_as_refused it
refused_as s now plain it left counts =
    ap (λ (st : Standing). nat_lt s.refused st.refused) (sym left) ∙ ap (nat_lt s.refused) counts ∙ more_is s.refused (counts_as_refused it)

-- a reply is printed with the number of its HDU, unless it counts as refused
numbered_as : (h : ℕ) (text : List ℕ) (number : ℕ) (it : Reply) → reply_text number it ≡ text → numbered_reply h it ≡ (if counts_as_refused it then [] else decimal h ++ (codes " " ++ text))
numbered_as h text number (reply.Done said) is = ap (λ (t : List ℕ). decimal h ++ (codes " " ++ t)) is
numbered_as h text number (reply.Refused why clues) is = refl
numbered_as h text number reply.TooLong is = refl
numbered_as h text number (reply.NoCommand misfit) is = refl
numbered_as h text number (reply.Unmet why) is = refl

-- so a query prints it
hdu_answer-reply : (h : ℕ) (s now : Standing) (plain : List ℕ) (it : Reply) → reply_text s.line it ≡ line_answer s (reading_of plain) → now ≡ line_left s (reading_of plain)
    → now.refused ≡ s.refused + (if counts_as_refused it then 1 else 0) → numbered_reply h it ≡ hdu_answer h s plain
hdu_answer-reply h s now plain it text left counts =
    numbered_as h (line_answer s (reading_of plain)) s.line it text
    ∙ ap (λ (is : Bool). if is then [] else decimal h ++ (codes " " ++ line_answer s (reading_of plain))) (sym (refused_as s now plain it left counts))

-- and things stand so at the next query
pub holds_at : (s now next : Standing) (plain : List ℕ) (number refused : ℕ) → now ≡ line_left s (reading_of plain) → next ≡ record now { line = number; refused = refused } → number ≡ s.line → refused ≡ s.refused
    → next ≡ held_at s (reading_of plain)
holds_at s now next plain number refused left is at_line count =
    is ∙ ap (λ (st : Standing). record st { line = number; refused = refused }) left ∙ ap (λ (n : ℕ). record (line_left s (reading_of plain)) { line = n; refused = refused }) at_line
    ∙ ap (λ (n : ℕ). record (line_left s (reading_of plain)) { line = s.line; refused = n }) count

-- the answers so far, and those that come
pub answers_on : (h : ℕ) (s now next : Standing) (plain text new all : List ℕ) (rest others : List (List ℕ)) (it : Reply) → text ++ hdu_answers h s rest ≡ all → rest ≡ plain ∷ others → new ≡ text ++ numbered_reply h it
    → reply_text s.line it ≡ line_answer s (reading_of plain) → now ≡ line_left s (reading_of plain)
    → now.refused ≡ s.refused + (if counts_as_refused it then 1 else 0) → next ≡ held_at s (reading_of plain) → new ++ hdu_answers (h + 1) next others ≡ all
unfolding hdu_answers
answers_on h s now next plain text new all rest others it so_far cut added said left counts is =
    ap (λ (t : List ℕ). t ++ hdu_answers (h + 1) next others) (added ∙ ap (λ (t : List ℕ). text ++ t) (hdu_answer-reply h s now plain it said left counts))
    ∙ ap (λ (st : Standing). (text ++ hdu_answer h s plain) ++ hdu_answers (h + 1) st others) is
    ∙ append_assoc text (hdu_answer h s plain) (hdu_answers (h + 1) (held_at s (reading_of plain)) others)
    ∙ ap (λ (t : List (List ℕ)). text ++ hdu_answers h s t) (sym cut) ∙ so_far

-- so are they all
pub answers_end : (h : ℕ) (s : Standing) (text all : List ℕ) (rest : List (List ℕ)) → text ++ hdu_answers h s rest ≡ all → rest ≡ [] → text ++ [] ≡ all
unfolding hdu_answers
answers_end h s text all rest so_far none = ap (λ (t : List (List ℕ)). text ++ hdu_answers h s t) (sym none) ∙ so_far

-- some are done so far, or none
both_not : (any done all : Bool) → (not any && (not done && all)) ≡ (not (any || done) && all)
both_not true done all = refl
both_not false done all = refl

-- twice not
not_not : (is : Bool) → not (not is) ≡ is
not_not true = refl
not_not false = refl

-- and so with the next
pub refused_on : (s now next : Standing) (plain : List ℕ) (rest others : List (List ℕ)) (it : Reply) (any done new all : Bool) → all ≡ (not any && all_refused s rest) → rest ≡ plain ∷ others
    → done ≡ not (counts_as_refused it) → new ≡ (any || done) → now ≡ line_left s (reading_of plain)
    → now.refused ≡ s.refused + (if counts_as_refused it then 1 else 0) → next ≡ held_at s (reading_of plain) → all ≡ (not new && all_refused next others)
unfolding all_refused
refused_on s now next plain rest others it any done new all so_far cut is_done is_new left counts is =
    let here : is_refused s (reading_of plain) ≡ not done = refused_as s now plain it left counts ∙ sym (not_not (counts_as_refused it)) ∙ ap not (sym is_done) in
    so_far ∙ ap (λ (t : List (List ℕ)). not any && all_refused s t) cut
    ∙ ap (λ (b : Bool). not any && (b && all_refused (held_at s (reading_of plain)) others)) here
    ∙ both_not any done (all_refused (held_at s (reading_of plain)) others)
    ∙ ap (λ (b : Bool). not b && all_refused (held_at s (reading_of plain)) others) (sym is_new)
    ∙ ap (λ (st : Standing). not new && all_refused st others) (sym is)

-- all were refused where none is done
pub refused_end : (s : Standing) (rest : List (List ℕ)) (any all : Bool) → all ≡ (not any && all_refused s rest) → rest ≡ [] → all ≡ not any
unfolding all_refused
refused_end s rest any all so_far none = so_far ∙ ap (λ (t : List (List ℕ)). not any && all_refused s t) none ∙ of any
  where
    of : (is : Bool) → (not is && true) ≡ not is
    of true = refl
    of false = refl

-- how things stand after the queries that come
pub held_on : (s next left : Standing) (plain : List ℕ) (rest others : List (List ℕ)) → held_after s rest ≡ left → rest ≡ plain ∷ others → next ≡ held_at s (reading_of plain) → held_after next others ≡ left
unfolding held_after
held_on s next left plain rest others so_far cut is = ap (λ (st : Standing). held_after st others) is ∙ ap (held_after s) (sym cut) ∙ so_far

-- after all of them
pub held_end : (s left : Standing) (rest : List (List ℕ)) → held_after s rest ≡ left → rest ≡ [] → s ≡ left
unfolding held_after
held_end s left rest so_far none = ap (held_after s) (sym none) ∙ so_far

-- so the first of them is asked again
pub asked_as : (s before : Standing) (first : List ℕ) (plains : List (List ℕ)) → s ≡ held_after before plains → first ≡ first_line plains → (s, first) ≡ asked_again before plains
asked_as s before first plains is one = ap (λ (st : Standing). (st, first)) is ∙ ap (λ (t : List ℕ). (held_after before plains, t)) one

-- where one is done, that is what they print
pub each_done : (s : Standing) (plains : List (List ℕ)) → all_refused s plains ≡ false → hdu_answers 1 s plains ≡ each_answer s plains
each_done s plains some = sym (ap (λ (is : Bool). if is then plain_answer (asked_again s plains) else hdu_answers 1 s plains) some)

-- so it is with what they leave
pub each_done_left : (s : Standing) (plains : List (List ℕ)) → all_refused s plains ≡ false → at_next (held_after s plains) ≡ each_left s plains
each_done_left s plains some = sym (ap (λ (is : Bool). if is then plain_left (asked_again s plains) else at_next (held_after s plains)) some)

-- and nothing is said of them
pub each_done_quiet : (s : Standing) (plains : List (List ℕ)) → all_refused s plains ≡ false → [] ≡ each_remark s plains
each_done_quiet s plains some = sym (ap (λ (is : Bool). if is then plain_remark (asked_again s plains) else []) some)

-- where each is refused, the first of them is asked again
pub each_none : (s : Standing) (plains : List (List ℕ)) → all_refused s plains ≡ true → plain_answer (asked_again s plains) ≡ each_answer s plains
each_none s plains all = sym (ap (λ (is : Bool). if is then plain_answer (asked_again s plains) else hdu_answers 1 s plains) all)

-- so it is with what that leaves
pub each_none_left : (s : Standing) (plains : List (List ℕ)) → all_refused s plains ≡ true → plain_left (asked_again s plains) ≡ each_left s plains
each_none_left s plains all = sym (ap (λ (is : Bool). if is then plain_left (asked_again s plains) else at_next (held_after s plains)) all)

-- and with what is said of it
pub each_none_said : (s : Standing) (plains : List (List ℕ)) → all_refused s plains ≡ true → plain_remark (asked_again s plains) ≡ each_remark s plains
each_none_said s plains all = sym (ap (λ (is : Bool). if is then plain_remark (asked_again s plains) else []) all)
