-- A script's lines, answered one after another as they come.
use Rattle.std.proofs.Common.{◌≡◌, ℕ, zero, suc, ◌+◌, ◌<◌, List, [], ◌∷◌, ◌++◌, length, take, refl, ap, sym, ◌∙◌, append_assoc, arith, inl, inr, Bool, false, true, subst, Some, None, Ok, Err}
use Rattle.std.specs.Prelude.{◌&&◌, Result, if◌then◌else◌}
use Rattle.std.proofs.lemmas.Bool.{cases_lt}
use Rattle.std.proofs.lemmas.List.{append-nil, take_all, take-append-le, length-take-le}
use Rattle.fits_extended.specs.Stands.{queries_for, standing_in, stands_for, with_numbers}
use Rattle.fits_extended.specs.Words.{is_query_of_each, may_stand}
use Rattle.fits_script.specs.Words.{after_next, after_word, first_word}
use Rattle.fits_extended.specs.declared.unmet.Unmet.{Unmet}
use Rattle.fits_cli.specs.Answer.{Meant, in_turn, of_each, of_none, Standing, meant_by, plains_for, queries_by, StandsForData, StandsForMemory, answer_of, answer_to, left_after, left_of, line_answer, line_left, line_stands, plain_answer, plain_left, AtOne, CommandWantsData, LineNeedsMemory, NeedsMemoryFor, PlainNeedsMemory, PlainWantsData, WantsData, WantsDataFor}
use Rattle.fits_script.specs.declared.limits.TheConstants.{LINE_LIMIT}
use Rattle.fits_script.specs.Line.{reading_of}
use Rattle.fits_script.specs.declared.line_reading.LineReading.TheVariants.{TooLong}
use Rattle.fits_cli.specs.Output.{answers, standing_after}
use Rattle.fits_cli.specs.Remark.{line_remark, long_text, plain_remark, remark_line, remark_of, remark_on, remark_to, remarks}
use Rattle.fits_cli.specs.Running.{Heard, AnswersAs, AnswersLine, AnswersLines, AnswersPlain, LacksReply, LineStops, LinesStop, PlainStops, StopsAs, HasCome, HasStopped, Continues, PieceStops, EndsScript, EndStops, kept_of}
use Rattle.fits_cli.specs.Script.{HasNoLineFeed, script_lines}
use Rattle.fits_tell.specs.declared.fault.Fault.{Fault}
use Rattle.fits_tell.specs.declared.fault.Fault.TheVariants.{Refused, ScriptTooLong, Memory, ReadFailed, WriteFailed, Reread as RereadFault}
use Rattle.fits_tell.specs.Faults.{fault_of_load, reread_of}
use Rattle.fits_cli.specs.Faults.{IsUnchanged}
use Rattle.fits_unit.specs.declared.again.LoadFault.{LoadFault}
use Rattle.fits_unit.specs.declared.again.LoadFault.TheVariants as load
use Rattle.fits_session.specs.Marked.{Marked}
use Rattle.fits_script.specs.declared.command.Command.{Command}
use Rattle.fits_script.specs.declared.line_reading.LineReading.TheVariants.{Said}
use Rattle.fits_cli.proofs.LinesLemmas.{IsCutInLines-none, IsCutInLines-open, IsCutInLines-line, IsCutInLines-append, a_cut}
use Rattle.fits_cli.proofs.PlainsLemmas.{at_first, at_one, done_last-one}
use Rattle.fits_cli.proofs.ReadingLemmas.{kept_of-short, over_limit, reading_of-long}
use Rattle.fits_cli.proofs.RemarkLemmas.{Says-none, Says-more, Says-text, Remarks-same}
use Rattle.fits_stream.proofs.StreamLemmas.{PrintsFront-more, PrintsFront-longer}

-- answers to lines, and to more lines
pub answers-append : (s : Standing) (xs ys : List (List ℕ)) → answers s (xs ++ ys) ≡ answers s xs ++ answers (standing_after s xs) ys
unfolding answers standing_after
answers-append s [] ys = refl
answers-append s (x ∷ xs) ys =
    let next : Standing = left_after s x in
    ap (λ t. answer_to s x ++ t) (answers-append next xs ys) ∙ sym (append_assoc (answer_to s x) (answers next xs) (answers (standing_after next xs) ys))

-- how things stand after lines, and after more lines
pub standing_after-append : (s : Standing) (xs ys : List (List ℕ)) → standing_after s (xs ++ ys) ≡ standing_after (standing_after s xs) ys
unfolding standing_after
standing_after-append s [] ys = refl
standing_after-append s (x ∷ xs) ys = standing_after-append (left_after s x) xs ys

-- the answer to one line
answers-one : (s : Standing) (x : List ℕ) → answers s (x ∷ []) ≡ answer_to s x
unfolding answers
answers-one s x = append-nil (answer_to s x)

-- how things stand after one
standing_after-one : (s : Standing) (x : List ℕ) → standing_after s (x ∷ []) ≡ left_after s x
unfolding standing_after
standing_after-one s x = refl

-- no line prints nothing
pub answers-none : (s : Standing) → answers s [] ≡ []
unfolding answers
answers-none s = refl

-- and leaves things as they stand
standing_after-none : (s : Standing) → standing_after s [] ≡ s
unfolding standing_after
standing_after-none s = refl

-- remarks on lines, and on more lines
pub remarks-append : (s : Standing) (xs ys : List (List ℕ)) → remarks s (xs ++ ys) ≡ remarks s xs ++ remarks (standing_after s xs) ys
unfolding remarks standing_after
remarks-append s [] ys = refl
remarks-append s (x ∷ xs) ys =
    let next : Standing = left_after s x in
    ap (λ t. remark_to s x ++ t) (remarks-append next xs ys) ∙ sym (append_assoc (remark_to s x) (remarks next xs) (remarks (standing_after next xs) ys))

-- that on one line
remarks-one : (s : Standing) (x : List ℕ) → remarks s (x ∷ []) ≡ remark_to s x
unfolding remarks
remarks-one s x = append-nil (remark_to s x)

-- on no line none is made
pub remarks-none : (s : Standing) → remarks s [] ≡ []
unfolding remarks
remarks-none s = refl

-- the remark on a line after others
remarks-next : (lines : List (List ℕ)) (line : List ℕ) (before now : Standing) → now ≡ standing_after before lines
    → remarks before (lines ++ line ∷ []) ≡ remarks before lines ++ remark_to now line
remarks-next lines line before now left =
    remarks-append before lines (line ∷ []) ∙ ap (λ t. remarks before lines ++ t) (ap (λ s. remarks s (line ∷ [])) (sym left) ∙ remarks-one now line)

-- no line yet
pub AnswersLines-none : (s : Standing) (held : Heard) → AnswersLines [] s s held held
AnswersLines-none s held = record { said = Says-text [] _ [] _ held held (sym (answers-none s)) (sym (remarks-none s)) (Says-none held); left = sym (standing_after-none s) }

-- the answer to a line after others
answers-next : (lines : List (List ℕ)) (line : List ℕ) (before now : Standing) → now ≡ standing_after before lines
    → answers before (lines ++ line ∷ []) ≡ answers before lines ++ answer_to now line
answers-next lines line before now left =
    answers-append before lines (line ∷ []) ∙ ap (λ t. answers before lines ++ t) (ap (λ s. answers s (line ∷ [])) (sym left) ∙ answers-one now line)

-- one more line
pub AnswersLines-more : (lines : List (List ℕ)) (line : List ℕ) (before now next : Standing) (held holds more : Heard)
    → AnswersLines lines before now held holds → AnswersLine line now next holds more → AnswersLines (lines ++ line ∷ []) before next held more
AnswersLines-more lines line before now next held holds more so_far one = record {
  said = Says-text _ _ _ _ held more (sym (answers-next lines line before now so_far.left)) (sym (remarks-next lines line before now so_far.left))
      (Says-more held holds more (answers before lines) (answer_to now line) (remarks before lines) (remark_to now line) so_far.said one.said);
  left = one.left ∙ sym (standing_after-append before lines (line ∷ []) ∙ ap (λ s. standing_after s (line ∷ [])) (sym so_far.left) ∙ standing_after-one now line);
}

-- of two parts of a line as much is kept as of the first and what is kept of the second
kept_of-more : (last piece : List ℕ) → kept_of (kept_of last ++ piece) ≡ kept_of (last ++ piece)
unfolding kept_of
kept_of-more last piece =
    let n : ℕ = LINE_LIMIT + 1 in
    elim (cases_lt n (length last)) [
      | inl long ↦
          let size : length (take n last) ≡ n = length-take-le n last (omega (arith, long)) in
          take-append-le n (take n last) piece (omega (arith, size)) ∙ take_all n (take n last) (omega (arith, size)) ∙ sym (take-append-le n last piece (omega (arith, long)))
      | inr short ↦ ap (λ t. take n (t ++ piece)) (take_all n last short)
    ]

-- nothing has come yet
pub HasCome-none : (s : Standing) (held : Heard) → HasCome [] [] s s held held
unfolding kept_of
HasCome-none s held = record { lines = []; last = []; cut = IsCutInLines-none; kept_is = refl; answered = AnswersLines-none s held }

-- more of the open end
HasCome-open : (script kept piece : List ℕ) (before now : Standing) (held holds : Heard) → HasNoLineFeed piece
    → HasCome script kept before now held holds → HasCome (script ++ piece) (kept_of (kept ++ piece)) before now held holds
HasCome-open script kept piece before now held holds none come = record {
  lines = come.lines;
  last = come.last ++ piece;
  cut = IsCutInLines-open script piece come.last come.lines none come.cut;
  kept_is = ap (λ t. kept_of (t ++ piece)) come.kept_is ∙ kept_of-more come.last piece;
  answered = come.answered;
}

-- what has this answer isn't answered, and what it needs and wants a line does too
StopsAs-weaker : (text : List ℕ) (needs wants needs' wants' : Type 0) (held holds : Heard) (fault : Fault) → (needs → needs') → (wants → wants') → StopsAs text needs wants held holds fault → StopsAs text needs' wants' held holds fault
StopsAs-weaker text needs wants needs' wants' held holds (Refused why) f g stops = stops
StopsAs-weaker text needs wants needs' wants' held holds ScriptTooLong f g stops = stops
StopsAs-weaker text needs wants needs' wants' held holds Memory f g stops = (f stops.0, stops.1)
StopsAs-weaker text needs wants needs' wants' held holds ReadFailed f g stops = stops
StopsAs-weaker text needs wants needs' wants' held holds WriteFailed f g stops = stops
StopsAs-weaker text needs wants needs' wants' held holds (RereadFault why) f g stops = (stops.0, (g stops.1.0, stops.1.1))

-- a line past the limit stands for itself, extended or not
may_stand-long : (line : List ℕ) → LINE_LIMIT < length line → may_stand line ≡ false
unfolding may_stand
may_stand-long line long = rw (over_limit (length line) LINE_LIMIT long) refl

-- a line that is too long stands for itself
stands-long : (s : Standing) (line : List ℕ) → LINE_LIMIT < length line → line_stands s line ≡ in_turn (line ∷ [])
unfolding stands_for queries_for
stands-long s line long = of s.extended (may_stand line) (may_stand-long line long)
  where
    of : (extended may : Bool) → may ≡ false
        → meant_by (if extended then (if may && is_query_of_each line then Some (with_numbers (first_word line) (after_next (after_word line)) (length s.marked.file.hdus) 1) else None) else None)
        (if extended then (if may then standing_in s.whole s.marked.file line else Ok (line ∷ [])) else Ok (line ∷ [])) ≡ in_turn (line ∷ [])
    of false may over = refl
    of true may over = rw over refl

-- what a line past the limit prints and leaves, and what is said of it
answer_to-long : (s : Standing) (line : List ℕ) → LINE_LIMIT < length line → answer_to s line ≡ line_answer s TooLong
unfolding answer_to
answer_to-long s line long = ap (answer_of s) (stands-long s line long) ∙ ap plain_answer (done_last-one s line) ∙ ap (line_answer s) (reading_of-long line long)

-- what it leaves
left_after-long : (s : Standing) (line : List ℕ) → LINE_LIMIT < length line → left_after s line ≡ line_left s TooLong
unfolding left_after
left_after-long s line long = ap (left_of s) (stands-long s line long) ∙ ap plain_left (done_last-one s line) ∙ ap (line_left s) (reading_of-long line long)

-- what is remarked of it
remark_to-long : (s : Standing) (line : List ℕ) → LINE_LIMIT < length line → remark_to s line ≡ remark_line s.line (Some long_text)
unfolding remark_to line_remark remark_on
remark_to-long s line long = ap (remark_of s) (stands-long s line long) ∙ ap plain_remark (done_last-one s line) ∙ (rw (reading_of-long line long) refl)

-- what is kept of a line past the limit is past it
kept_of-over : (line : List ℕ) → LINE_LIMIT < length line → LINE_LIMIT < length (kept_of line)
unfolding kept_of
kept_of-over line long = let size : length (take (LINE_LIMIT + 1) line) ≡ LINE_LIMIT + 1 = length-take-le (LINE_LIMIT + 1) line (omega (arith, long)) in omega (arith, size)

-- so what a line prints and leaves, and what is said of it, is decided by what is kept of it
kept-same : {X : Type 0} (f : List ℕ → X) (long_is : X) (line : List ℕ) → ((text : List ℕ) → LINE_LIMIT < length text → f text ≡ long_is) → f (kept_of line) ≡ f line
kept-same f long_is line long_so =
    elim (cases_lt LINE_LIMIT (length line)) [
      | inl long ↦ long_so (kept_of line) (kept_of-over line long) ∙ sym (long_so line long)
      | inr short ↦ ap f (kept_of-short line short)
    ]

-- a line of which this is kept is answered
AnswersLine-kept : (kept line : List ℕ) (before now : Standing) (held holds : Heard) → kept ≡ kept_of line → AnswersLine kept before now held holds → AnswersLine line before now held holds
AnswersLine-kept kept line before now held holds is one = record {
  said = Says-text _ _ _ _ held holds (ap (answer_to before) is ∙ kept-same (answer_to before) (line_answer before TooLong) line (answer_to-long before))
      (ap (remark_to before) is ∙ kept-same (remark_to before) (remark_line before.line (Some long_text)) line (remark_to-long before)) one.said;
  left = one.left ∙ ap (left_after before) is ∙ kept-same (left_after before) (line_left before TooLong) line (left_after-long before);
}

-- at a line past the limit no memory runs out, and it wants no pixels
no_memory-long : (s : Standing) (line : List ℕ) → LINE_LIMIT < length line → NeedsMemoryFor s line → ⊥
unfolding NeedsMemoryFor LineNeedsMemory
no_memory-long s line long (inl finding) = absurd (let e : true ≡ false = sym finding.1 ∙ may_stand-long line long in cc)
no_memory-long s line long (inr needs) =
    let one : PlainNeedsMemory s line = at_one PlainNeedsMemory s line (rw (stands-long s line long) at needs) in
    rw (reading_of-long line long) at one

-- it wants no pixels
no_pixels-long : (s : Standing) (line : List ℕ) → LINE_LIMIT < length line → WantsDataFor s line → ⊥
unfolding WantsDataFor WantsData
no_pixels-long s line long wants =
    let one : PlainWantsData s line = at_one PlainWantsData s line (rw (stands-long s line long) at wants) in
    rw (reading_of-long line long) at one

-- so what is kept of a line needs and wants, the line does
kept-so : (P : List ℕ → Type 0) (line : List ℕ) → ((text : List ℕ) → LINE_LIMIT < length text → P text → ⊥) → P (kept_of line) → P line
kept-so P line never p =
    elim (cases_lt LINE_LIMIT (length line)) [ inl long ↦ absurd (never (kept_of line) (kept_of-over line long) p) | inr short ↦ subst P (kept_of-short line short) p ]

-- or it isn't
LineStops-kept : (kept line : List ℕ) (before : Standing) (held holds : Heard) (fault : Fault) → kept ≡ kept_of line → LineStops kept before held holds fault → LineStops line before held holds fault
LineStops-kept kept line before held holds fault is stops =
    let same : answer_to before kept ≡ answer_to before line = ap (answer_to before) is ∙ kept-same (answer_to before) (line_answer before TooLong) line (answer_to-long before) in
    subst (λ text. StopsAs text (NeedsMemoryFor before line) (WantsDataFor before line) held holds fault) same
    (StopsAs-weaker (answer_to before kept) (NeedsMemoryFor before kept) (WantsDataFor before kept) (NeedsMemoryFor before line) (WantsDataFor before line) held holds fault
    (λ needs. kept-so (NeedsMemoryFor before) line (no_memory-long before) (subst (NeedsMemoryFor before) is needs))
    (λ wants. kept-so (WantsDataFor before) line (no_pixels-long before) (subst (WantsDataFor before) is wants)) stops)

-- what data weren't had again for is no change
unchanged_of : (why : LoadFault) → (why ≡ load.Changed → ⊥) → IsUnchanged (reread_of why)
unchanged_of load.Memory same e = cc
unchanged_of load.Failed same e = cc
unchanged_of load.Changed same e = same refl

-- data that a line wants aren't had again
pub lacks_data : (it : Marked) (line : List ℕ) (command : Command) (why : LoadFault) → Said command ≡ reading_of line → CommandWantsData it.file command → (why ≡ load.Changed → ⊥) → LacksReply it (reading_of line) (fault_of_load why)
unfolding WantsData
lacks_data it line command why is wants same = (unchanged_of why same, rw (← is) wants)

-- a plain line that has no answer isn't answered
pub PlainStops-reply : (line : List ℕ) (before : Standing) (held : Heard) (fault : Fault) → LacksReply before.marked (reading_of line) fault → PlainStops line before held held fault
PlainStops-reply line before held (Refused why) lacks = absurd lacks
PlainStops-reply line before held ScriptTooLong lacks = absurd lacks
PlainStops-reply line before held Memory lacks = (lacks, refl)
PlainStops-reply line before held ReadFailed lacks = absurd lacks
PlainStops-reply line before held WriteFailed lacks = absurd lacks
PlainStops-reply line before held (RereadFault why) lacks = (lacks.0, (lacks.1, refl))

-- what a line stands for is answered
pub AnswersLine-stands : (line : List ℕ) (stands : Meant) (before now : Standing) (held holds : Heard) → line_stands before line ≡ stands
    → AnswersAs (answer_of before stands) (remark_of before stands) (left_of before stands) now held holds → AnswersLine line before now held holds
unfolding answer_to left_after remark_to
AnswersLine-stands line stands before now held holds is one = rw is one

-- also where that is one plain line
pub AnswersLine-plain : (line plain : List ℕ) (before now : Standing) (held holds : Heard) → line_stands before line ≡ in_turn (plain ∷ []) → AnswersPlain plain before now held holds → AnswersLine line before now held holds
AnswersLine-plain line plain before now held holds is one =
    AnswersLine-stands line (in_turn (plain ∷ [])) before now held holds is
    (subst (λ last. AnswersAs (plain_answer last) (plain_remark last) (plain_left last) now held holds) (sym (done_last-one before plain)) one)

-- what a line stands for isn't answered
pub LineStops-stands : (line : List ℕ) (stands : Meant) (before : Standing) (held holds : Heard) (fault : Fault) → line_stands before line ≡ stands
    → StopsAs (answer_of before stands) (StandsForMemory before stands) (StandsForData before stands) held holds fault → LineStops line before held holds fault
unfolding answer_to NeedsMemoryFor WantsDataFor
LineStops-stands line stands before held holds fault is stops =
    rw is (StopsAs-weaker (answer_of before stands) (StandsForMemory before stands) (StandsForData before stands) _ _ held holds fault (λ needs. inr needs) (λ wants. wants) stops)

-- also where that is one plain line
pub LineStops-plain : (line plain : List ℕ) (before : Standing) (held holds : Heard) (fault : Fault) → line_stands before line ≡ in_turn (plain ∷ []) → PlainStops plain before held holds fault → LineStops line before held holds fault
LineStops-plain line plain before held holds fault is stops =
    LineStops-stands line (in_turn (plain ∷ [])) before held holds fault is
    (subst (λ last. StopsAs (plain_answer last) (AtOne PlainNeedsMemory before (plain ∷ [])) (AtOne PlainWantsData before (plain ∷ [])) held holds fault) (sym (done_last-one before plain))
    (StopsAs-weaker (line_answer before (reading_of plain)) (LineNeedsMemory before.marked (reading_of plain)) (WantsData before.marked (reading_of plain)) _ _ held holds fault
    (λ needs. at_first PlainNeedsMemory before plain [] needs) (λ wants. at_first PlainWantsData before plain [] wants) stops))

-- a line stands for queries of each HDU
pub meant_each : (s : Standing) (line : List ℕ) (queries : List (List ℕ)) → queries_by s line ≡ Some queries → line_stands s line ≡ of_each queries
meant_each s line queries is = ap (λ q. meant_by q (plains_for s line)) is

-- or for plain lines, each in its turn
pub meant_turn : (s : Standing) (line : List ℕ) (plains : List (List ℕ)) → queries_by s line ≡ None → plains_for s line ≡ Ok plains → line_stands s line ≡ in_turn plains
meant_turn s line plains none is = ap (λ q. meant_by q (plains_for s line)) none ∙ ap (meant_by None) is

-- or for nothing
pub meant_none : (s : Standing) (line : List ℕ) (why : Unmet) → queries_by s line ≡ None → plains_for s line ≡ Err why → line_stands s line ≡ of_none why
meant_none s line why none is = ap (λ q. meant_by q (plains_for s line)) none ∙ ap (meant_by None) is

-- memory is refused as it is found what a line stands for
pub LineStops-finding : (line : List ℕ) (before : Standing) (held : Heard) → before.extended ≡ true → may_stand line ≡ true → LineStops line before held held Memory
unfolding NeedsMemoryFor
LineStops-finding line before held on may = (inl (on, may), refl)

-- a line feed, and the line before it is answered
HasCome-line : (script kept : List ℕ) (before now next : Standing) (held holds more : Heard)
    → HasCome script kept before now held holds → AnswersLine kept now next holds more → HasCome (script ++ 10 ∷ []) [] before next held more
unfolding kept_of
HasCome-line script kept before now next held holds more come one = record {
  lines = come.lines ++ come.last ∷ [];
  last = [];
  cut = IsCutInLines-line script come.last come.lines come.cut;
  kept_is = refl;
  answered = AnswersLines-more come.lines come.last before now next held holds more come.answered (AnswersLine-kept kept come.last now next holds more come.kept_is one);
}

-- a line after others isn't answered
pub LinesStop-line : (lines others : List (List ℕ)) (line : List ℕ) (before now : Standing) (held holds more : Heard) (fault : Fault)
    → AnswersLines lines before now held holds → LineStops line now holds more fault → LinesStop (lines ++ line ∷ others) before held more fault
LinesStop-line lines others line before now held holds more (Refused why) so_far stops = stops
LinesStop-line lines others line before now held holds more ScriptTooLong so_far stops = stops
LinesStop-line lines others line before now held holds more Memory so_far stops = record {
  done = lines;
  line = line;
  others = others;
  split = refl;
  needs = rw (← so_far.left) stops.0;
  said = rw stops.1 so_far.said;
}
LinesStop-line lines others line before now held holds more ReadFailed so_far stops = stops
LinesStop-line lines others line before now held holds more (RereadFault why) so_far stops = (
  stops.0,
  record { done = lines; line = line; others = others; split = refl; needs = rw (← so_far.left) stops.1.0; said = rw stops.1.1 so_far.said },
)
LinesStop-line lines others line before now held holds more WriteFailed so_far stops =
    let split : (lines ++ line ∷ []) ++ others ≡ lines ++ line ∷ others = append_assoc lines (line ∷ []) others in
    let all : answers before (lines ++ line ∷ others) ≡ (answers before lines ++ answer_to now line) ++ answers (standing_after before (lines ++ line ∷ [])) others =
    ap (answers before) (sym split) ∙ answers-append before (lines ++ line ∷ []) others ∙ ap (λ t. t ++ answers (standing_after before (lines ++ line ∷ [])) others) (answers-next lines line before now so_far.left) in
    record {
      printed =
          rw all (PrintsFront-longer held.out more.out (answers before lines ++ answer_to now line) (answers (standing_after before (lines ++ line ∷ [])) others)
          (PrintsFront-more held.out holds.out more.out (answers before lines) (answer_to now line) so_far.said.printed stops.0));
      done = lines;
      others = line ∷ others;
      split = refl;
      told = Remarks-same (remarks before lines) held.told holds.told more.told so_far.said.told stops.1;
    }

-- a line of a piece isn't answered, whatever follows it
HasStopped-line : (script kept next : List ℕ) (before now : Standing) (held holds more : Heard) (fault : Fault)
    → HasCome script kept before now held holds → LineStops kept now holds more fault → HasStopped (script ++ 10 ∷ next) before held more fault
HasStopped-line script kept next before now held holds more fault come stops =
    let rest = a_cut next in
    record {
      lines = come.lines ++ come.last ∷ rest.lines;
      last = rest.last;
      cut =
          rw (← append_assoc script (10 ∷ []) next, ← append_assoc come.lines (come.last ∷ []) rest.lines)
          (IsCutInLines-append (script ++ 10 ∷ []) next rest.last (come.lines ++ come.last ∷ []) rest.lines (IsCutInLines-line script come.last come.lines come.cut) rest.cut);
      stops = LinesStop-line come.lines rest.lines come.last before now held holds more fault come.answered (LineStops-kept kept come.last now holds more fault come.kept_is stops);
    }

-- no piece yet
pub Continues-none : (kept : List ℕ) (s : Standing) (held : Heard) → Continues [] kept kept s s held held
Continues-none kept s held script first start come = rw (append-nil script) come

-- a piece without a line feed
pub Continues-open : (done rest kept_before kept_now kept_next : List ℕ) (before now : Standing) (held holds : Heard)
    → Continues done kept_before kept_now before now held holds → HasNoLineFeed rest → kept_next ≡ kept_of (kept_now ++ rest)
    → Continues (done ++ rest) kept_before kept_next before now held holds
Continues-open done rest kept_before kept_now kept_next before now held holds so_far none is script first start come =
    rw (is, ← append_assoc script done rest) (HasCome-open (script ++ done) kept_now rest first now start holds none (so_far script first start come))

-- a line of a piece
pub Continues-line : (done front kept_before kept_now kept : List ℕ) (before now next : Standing) (held holds more : Heard)
    → Continues done kept_before kept_now before now held holds → HasNoLineFeed front → kept ≡ kept_of (kept_now ++ front)
    → AnswersLine kept now next holds more → Continues (done ++ (front ++ 10 ∷ [])) kept_before [] before next held more
Continues-line done front kept_before kept_now kept before now next held holds more so_far none is one script first start come =
    let opened = HasCome-open (script ++ done) kept_now front first now start holds none (so_far script first start come) in
    let ended = HasCome-line ((script ++ done) ++ front) (kept_of (kept_now ++ front)) first now next start holds more opened (rw is at one) in
    rw (append_assoc (script ++ done) front (10 ∷ []) ∙ append_assoc script done (front ++ 10 ∷ [])) at ended

-- or a line of it isn't answered
pub PieceStops-line : (done front next kept_before kept_now kept : List ℕ) (before now : Standing) (held holds more : Heard) (fault : Fault)
    → Continues done kept_before kept_now before now held holds → HasNoLineFeed front → kept ≡ kept_of (kept_now ++ front)
    → LineStops kept now holds more fault → PieceStops (done ++ (front ++ 10 ∷ next)) kept_before before held more fault
PieceStops-line done front next kept_before kept_now kept before now held holds more fault so_far none is stops script first start come =
    let opened = HasCome-open (script ++ done) kept_now front first now start holds none (so_far script first start come) in
    let stopped = HasStopped-line ((script ++ done) ++ front) (kept_of (kept_now ++ front)) next first now start holds more fault opened (rw is at stops) in
    rw (append_assoc (script ++ done) front (10 ∷ next) ∙ append_assoc script done (front ++ 10 ∷ next)) at stopped

-- nothing is taken of nothing alone
nothing_taken : (n : ℕ) (xs : List ℕ) → 0 < n → length (take n xs) ≡ 0 → xs ≡ []
nothing_taken zero xs some e = absurd (omega arith)
nothing_taken (suc n) [] some e = refl
nothing_taken (suc n) (x ∷ xs) some e = absurd (omega (arith, e))

-- so where nothing is kept, nothing is there
kept_of-nothing : (last : List ℕ) → length (kept_of last) ≡ 0 → last ≡ []
unfolding kept_of
kept_of-nothing last e = nothing_taken (LINE_LIMIT + 1) last (omega arith) e

-- nothing after the last line feed
pub EndsScript-none : (kept : List ℕ) (s : Standing) (held : Heard) → length kept ≡ 0 → EndsScript kept s s held held
EndsScript-none kept s held empty lines last first start is answered =
    let nothing : last ≡ [] = kept_of-nothing last (sym (ap length is) ∙ empty) in
    rw nothing answered

-- the lines of a script with a last piece
lines_with_last : (lines : List (List ℕ)) (last : List ℕ) → 0 < length last → script_lines lines last ≡ lines ++ last ∷ []
lines_with_last lines [] some = absurd (omega arith)
lines_with_last lines (byte ∷ bytes) some = refl

-- something is taken of something alone
something_taken : (n : ℕ) (xs : List ℕ) → 0 < length (take n xs) → 0 < length xs
something_taken zero xs some = absurd (omega arith)
something_taken (suc n) [] some = absurd (omega arith)
something_taken (suc n) (x ∷ xs) some = omega arith

-- so where something is kept, something is there
kept_of-some : (kept last : List ℕ) → 0 < length kept → kept ≡ kept_of last → 0 < length last
unfolding kept_of
kept_of-some kept last some is = something_taken (LINE_LIMIT + 1) last (omega (arith, some, ap length is))

-- a line after the last line feed
pub EndsScript-line : (kept : List ℕ) (before now : Standing) (held holds : Heard) → 0 < length kept → AnswersLine kept before now held holds → EndsScript kept before now held holds
EndsScript-line kept before now held holds some one lines last first start is answered =
    rw (lines_with_last lines last (kept_of-some kept last some is)) (AnswersLines-more lines last first before now start held holds answered (AnswersLine-kept kept last before now held holds is one))

-- or it isn't answered
pub EndStops-line : (kept : List ℕ) (before : Standing) (held holds : Heard) (fault : Fault) → 0 < length kept → LineStops kept before held holds fault → EndStops kept before held holds fault
EndStops-line kept before held holds fault some stops lines last first start is answered =
    rw (lines_with_last lines last (kept_of-some kept last some is))
    (LinesStop-line lines [] last first before start held holds fault answered (LineStops-kept kept last before held holds fault is stops))
