-- What hears of the lines of a script: answers, and remarks, put together.
use Rattle.std.proofs.Common.{◌≡◌, ℕ, Bool, true, false, List, [], ◌++◌, refl, ap, sym, subst, ◌∙◌, arith, Option, None, Some, option_map, is_some}
use Rattle.fits_stream.specs.Stream.{SinkState}
use Rattle.fits_stream.proofs.StreamLemmas.{Gains-more, Gains-none, Prints-none, Prints-more}
use Rattle.fits_script.specs.Line.{reading_of}
use Rattle.fits_cli.specs.Answer.{Standing, complaint}
use Rattle.fits_cli.specs.Remark.{line_remark, remark_by, remark_line, remark_on, words_of, IsSaid, Remarks}
use Rattle.fits_cli.specs.Running.{Heard, Says}
use Rattle.fits_cli.specs.Reply.{counts_as_refused}
use Rattle.fits_cli.specs.declared.reply.Reply.{Reply}
use Rattle.fits_cli.specs.declared.reply.Reply.TheVariants as reply

-- nothing is said
pub IsSaid-none : (a : SinkState) → IsSaid [] a a
IsSaid-none a = record { later = omega arith; bytes = λ quiet. Gains-none a.contents; flushed = λ quiet was. was }

-- a text, and then another
IsSaid-more : (a b c : SinkState) (xs ys : List ℕ) → IsSaid xs a b → IsSaid ys b c → IsSaid (xs ++ ys) a c
IsSaid-more a b c xs ys p q = record {
  later = omega (arith, p.later, q.later);
  bytes = λ quiet. Gains-more a.contents b.contents c.contents xs ys (p.bytes (omega (arith, quiet, p.later, q.later))) (q.bytes (omega (arith, quiet, p.later, q.later)));
  flushed = λ quiet was. q.flushed (omega (arith, quiet, p.later, q.later)) (p.flushed (omega (arith, quiet, p.later, q.later)) was);
}

-- no remark
pub Remarks-none : (a : Option SinkState) → Remarks [] a a
Remarks-none None = tt
Remarks-none (Some a) = IsSaid-none a

-- remarks, and then others
pub Remarks-more : (a b c : Option SinkState) (xs ys : List ℕ) → Remarks xs a b → Remarks ys b c → Remarks (xs ++ ys) a c
Remarks-more None None None xs ys p q = tt
Remarks-more None None (Some c) xs ys p q = absurd q
Remarks-more None (Some b) c xs ys p q = absurd p
Remarks-more (Some a) None c xs ys p q = absurd p
Remarks-more (Some a) (Some b) None xs ys p q = absurd q
Remarks-more (Some a) (Some b) (Some c) xs ys p q = IsSaid-more a b c xs ys p q

-- nothing was said since
pub Remarks-same : (text : List ℕ) (a b c : Option SinkState) → Remarks text a b → c ≡ b → Remarks text a c
Remarks-same text a b c p same = subst (λ (s : Option SinkState). Remarks text a s) (sym same) p

-- neither answers nor remarks
pub Says-none : (a : Heard) → Says [] [] a a
Says-none a = record { printed = Prints-none a.out; told = Remarks-none a.told }

-- some of both, and then more
pub Says-more : (a b c : Heard) (xs ys rs ss : List ℕ) → Says xs rs a b → Says ys ss b c → Says (xs ++ ys) (rs ++ ss) a c
Says-more a b c xs ys rs ss p q = record {
  printed = Prints-more a.out b.out c.out xs ys p.printed q.printed;
  told = Remarks-more a.told b.told c.told rs ss p.told q.told;
}

-- the same texts
pub Says-text : (xs ys rs ss : List ℕ) (a b : Heard) → xs ≡ ys → rs ≡ ss → Says xs rs a b → Says ys ss a b
Says-text xs ys rs ss a b p q said = rw (← p, ← q) said

-- of a line that wasn't done something is said
pub said_of_refused : (line : List ℕ) (number : ℕ) (reply : Reply) → counts_as_refused reply ≡ true → complaint number (words_of (remark_by line reply)) ≡ remark_line number (remark_by line reply)
unfolding remark_by
said_of_refused line number (reply.Done text) refused = cc
said_of_refused line number (reply.Refused why clues) refused = refl
said_of_refused line number reply.TooLong refused = refl
said_of_refused line number (reply.NoCommand misfit) refused = refl
said_of_refused line number (reply.Unmet why) refused = refl

-- of one that was nothing is
pub said_of_done : (line : List ℕ) (number : ℕ) (reply : Reply) → counts_as_refused reply ≡ false → [] ≡ remark_line number (remark_by line reply)
unfolding remark_by
said_of_done line number (reply.Done text) done = refl
said_of_done line number (reply.Refused why clues) done = cc
said_of_done line number reply.TooLong done = cc
said_of_done line number (reply.NoCommand misfit) done = cc
said_of_done line number (reply.Unmet why) done = cc

-- the remark that a reply has is the one on its line
pub remark_lines : (standing : Standing) (line : List ℕ) (number : ℕ) (reply : Reply) → number ≡ standing.line
    → remark_by line reply ≡ remark_on standing.marked line (reading_of line)
    → remark_line number (remark_by line reply) ≡ line_remark standing line
unfolding line_remark
remark_lines standing line number reply at on = ap (λ (n : ℕ). remark_line n (remark_by line reply)) at ∙ ap (remark_line standing.line) on

-- so it is said where it is wanted
pub said_line : {E : Type 0} (state : E → SinkState) (standing : Standing) (line : List ℕ) (number : ℕ) (wanted : Bool) (reply : Reply) (told : Option E) (after : Option SinkState)
    → number ≡ standing.line → wanted ≡ is_some told
    → (wanted ≡ true → remark_by line reply ≡ remark_on standing.marked line (reading_of line))
    → Remarks (remark_line number (remark_by line reply)) (option_map state told) after → Remarks (line_remark standing line) (option_map state told) after
said_line state standing line number wanted reply None None at is on said = tt
said_line state standing line number wanted reply None (Some b) at is on said = absurd said
said_line state standing line number wanted reply (Some e) None at is on said = absurd said
said_line state standing line number wanted reply (Some e) (Some b) at is on said = rw (← remark_lines standing line number reply at (on is)) said

-- also where the line that it is said of is one of several
pub said_last : {E : Type 0} (state : E → SinkState) (here : ℕ) (text : List ℕ) (number : ℕ) (wanted : Bool) (reply : Reply) (line : List ℕ) (told : Option E) (after : Option SinkState)
    → number ≡ here → wanted ≡ is_some told
    → (wanted ≡ true → remark_line here (remark_by line reply) ≡ text)
    → Remarks (remark_line number (remark_by line reply)) (option_map state told) after → Remarks text (option_map state told) after
said_last state here text number wanted reply line None None same is on said = tt
said_last state here text number wanted reply line None (Some b) same is on said = absurd said
said_last state here text number wanted reply line (Some e) None same is on said = absurd said
said_last state here text number wanted reply line (Some e) (Some b) same is on said = rw (← on is, ← same) said
