-- What a line comes to by its command, over each file that the reads may be of.
use Rattle.std.proofs.Common.{◌≡◌, ℕ, ◌+◌, Bool, true, false, Result, Ok, Err, ap, sym, subst, refl, ◌∙◌, inl, inr, arith}
use Rattle.std.specs.Prelude.{◌||◌, ◌⊎◌, if◌then◌else◌, IfErr, IfOk, OnErr}
use Rattle.std.specs.declared.alloc.Global.{Global}
use Rattle.std.specs.declared.vec.Vec.{Vec}
use Rattle.fits_making.specs.declared.refusal.Refusal.{Refusal}
use Rattle.fits_making.specs.declared.refusal.Refusal.TheVariants.{NoHdu, NoCard, NoKey, BadText, EndCard, Shape as OtherShape, BadName, BadValue, NotImage, BadRect, WrongCount, Range, PrimaryStays, TooLarge, Memory}
use Rattle.fits_session.specs.Marked.{Marked}
use Rattle.fits_script.specs.declared.command.Command.{Command}
use Rattle.fits_script.specs.declared.line_reading.LineReading.{LineReading}
use Rattle.fits_script.specs.declared.line_reading.LineReading.TheVariants.{Said}
use Rattle.fits_cli.specs.Answer.{after_outcome, is_edit, line_answer, line_left, outcome_of, outcome_text, CommandFails, Standing}
use Rattle.fits_cli.specs.Reply.{counts_as_refused, reply_text, settled}
use Rattle.fits_cli.specs.declared.clues.Clues.{Clues}
use Rattle.fits_cli.specs.declared.reply.Reply.{Reply}
use Rattle.fits_cli.specs.declared.reply.Reply.TheVariants.{Done, Refused}
use Rattle.fits_cli.proofs.GuardLemmas.{fails_refused}

-- two facts of a result that isn't there
pub on_err_both : {X E : Type 0} (result : Result X E) (P Q R : Type 0) → (P → Q → R) → OnErr result P → OnErr result Q → OnErr result R
on_err_both (Ok x) P Q R both p q = tt
on_err_both (Err e) P Q R both p q = both p q

-- a reply is that of what was done, or of what was refused
abbrev Settles : Clues → Result (Vec ℕ Global) Refusal → Reply → Type 0
Settles clues result it =
    ((text : Vec ℕ Global) × (result ≡ Ok text) × (it ≡ Done text)) ⊎ ((why : Refusal) × (why ≡ Memory → ⊥) × (result ≡ Err why) × (it ≡ Refused why clues))

-- so it is with what settling gives
settles : (clues : Clues) (result : Result (Vec ℕ Global) Refusal) (it : Reply) → settled clues result ≡ Ok it → Settles clues result it
settles clues (Ok text) it is = let here : Done text ≡ it = cc in inl (text, refl, sym here)
settles clues (Err Memory) it is = absurd (cc)
settles clues (Err NoHdu) it is = let here : Refused NoHdu clues ≡ it = cc in inr (NoHdu, (λ e. cc), refl, sym here)
settles clues (Err NoCard) it is = let here : Refused NoCard clues ≡ it = cc in inr (NoCard, (λ e. cc), refl, sym here)
settles clues (Err NoKey) it is = let here : Refused NoKey clues ≡ it = cc in inr (NoKey, (λ e. cc), refl, sym here)
settles clues (Err BadText) it is = let here : Refused BadText clues ≡ it = cc in inr (BadText, (λ e. cc), refl, sym here)
settles clues (Err EndCard) it is = let here : Refused EndCard clues ≡ it = cc in inr (EndCard, (λ e. cc), refl, sym here)
settles clues (Err OtherShape) it is = let here : Refused OtherShape clues ≡ it = cc in inr (OtherShape, (λ e. cc), refl, sym here)
settles clues (Err BadName) it is = let here : Refused BadName clues ≡ it = cc in inr (BadName, (λ e. cc), refl, sym here)
settles clues (Err BadValue) it is = let here : Refused BadValue clues ≡ it = cc in inr (BadValue, (λ e. cc), refl, sym here)
settles clues (Err NotImage) it is = let here : Refused NotImage clues ≡ it = cc in inr (NotImage, (λ e. cc), refl, sym here)
settles clues (Err BadRect) it is = let here : Refused BadRect clues ≡ it = cc in inr (BadRect, (λ e. cc), refl, sym here)
settles clues (Err WrongCount) it is = let here : Refused WrongCount clues ≡ it = cc in inr (WrongCount, (λ e. cc), refl, sym here)
settles clues (Err Range) it is = let here : Refused Range clues ≡ it = cc in inr (Range, (λ e. cc), refl, sym here)
settles clues (Err PrimaryStays) it is = let here : Refused PrimaryStays clues ≡ it = cc in inr (PrimaryStays, (λ e. cc), refl, sym here)
settles clues (Err TooLarge) it is = let here : Refused TooLarge clues ≡ it = cc in inr (TooLarge, (λ e. cc), refl, sym here)

-- it is printed as the line's answer
pub reply_told : (s : Standing) (reading : LineReading) (command : Command) (clues : Clues) (result : Result (Vec ℕ Global) Refusal) (it : Reply) (after : Marked) → reading ≡ Said command → settled clues result ≡ Ok it
    → IfOk result (λ text. outcome_of s.marked command ≡ Ok (record { text = text.items; left = after })) → IfErr result (CommandFails s.marked command) → reply_text s.line it ≡ line_answer s reading
unfolding line_answer
reply_told s reading command clues result it after is reply done fails =
    elim (settles clues result it reply) [
      | inl w ↦ let here = subst (λ (r : Result (Vec ℕ Global) Refusal). IfOk r (λ text. outcome_of s.marked command ≡ Ok (record { text = text.items; left = after }))) w.1 done in
          ap (reply_text s.line) w.2 ∙ sym (ap (outcome_text s.line) here) ∙ sym (ap (line_answer s) is)
      | inr w ↦ let here = fails_refused s.marked command w.0 (subst (λ (r : Result (Vec ℕ Global) Refusal). IfErr r (CommandFails s.marked command)) w.2 fails) w.1 in
          ap (reply_text s.line) w.3 ∙ sym (ap (outcome_text s.line) here) ∙ sym (ap (line_answer s) is)
    ]

-- how things stand at the next line
abbrev replied : Standing → Marked → ℕ → Bool → Standing
replied s after refused edited = record s { marked = after; line = s.line + 1; refused = refused; edited = edited }

-- so they stand as the line leaves them
pub left_told : (s now : Standing) (reading : LineReading) (command : Command) (clues : Clues) (result : Result (Vec ℕ Global) Refusal) (it : Reply) (after : Marked) (edits : Bool) → reading ≡ Said command → settled clues result ≡ Ok it
    → edits ≡ is_edit command → IfOk result (λ text. outcome_of s.marked command ≡ Ok (record { text = text.items; left = after })) → IfErr result (CommandFails s.marked command) → OnErr result (after ≡ s.marked)
    → now ≡ replied s after (s.refused + (if counts_as_refused it then 1 else 0)) (if counts_as_refused it then s.edited else edits || s.edited) → now ≡ line_left s reading
unfolding line_left
left_told s now reading command clues result it after edits is reply by_edit done fails stays now_is =
    elim (settles clues result it reply) [
      | inl w ↦ let here = subst (λ (r : Result (Vec ℕ Global) Refusal). IfOk r (λ text. outcome_of s.marked command ≡ Ok (record { text = text.items; left = after }))) w.1 done in
          let none : s.refused + 0 ≡ s.refused = omega arith in
          now_is ∙ ap (λ (r : Reply). replied s after (s.refused + (if counts_as_refused r then 1 else 0)) (if counts_as_refused r then s.edited else edits || s.edited)) w.2
          ∙ ap (λ (n : ℕ). replied s after n (edits || s.edited)) none ∙ ap (λ (e : Bool). replied s after s.refused (e || s.edited)) by_edit
          ∙ sym (ap (after_outcome s command) here) ∙ sym (ap (line_left s) is)
      | inr w ↦ let here = fails_refused s.marked command w.0 (subst (λ (r : Result (Vec ℕ Global) Refusal). IfErr r (CommandFails s.marked command)) w.2 fails) w.1 in
          let same : after ≡ s.marked = subst (λ (r : Result (Vec ℕ Global) Refusal). OnErr r (after ≡ s.marked)) w.2 stays in
          now_is ∙ ap (λ (r : Reply). replied s after (s.refused + (if counts_as_refused r then 1 else 0)) (if counts_as_refused r then s.edited else edits || s.edited)) w.3
          ∙ ap (λ (m : Marked). replied s m (s.refused + 1) s.edited) same
          ∙ sym (ap (after_outcome s command) here) ∙ sym (ap (line_left s) is)
    ]
