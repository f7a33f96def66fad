-- Why texts say no value, and when that is no reason.
use Rattle.std.proofs.Common.{◌≡◌, ℕ, ◌+◌, ◌<◌, ◌≤◌, Bool, true, false, cond, eqb, get_or, append_assoc, List, [], ◌∷◌, ◌++◌, length, take, drop, map, Option, None, Some, refl, sym, ◌∙◌, ap, inl, inr, bytes_eq}
use Rattle.std.specs.Prelude.{IsTrue, ◌↔◌}
use Rattle.std.specs.Char.{to_ascii_lowercase}
use Rattle.std.specs.Cmp.{both_ways}
use Rattle.std.specs.List.{prefix_len}
use Rattle.std.specs.Option.{is_none, is_some}
use Rattle.std.proofs.lemmas.Bool.{cases_Bool, cond-true, cond-false}
use Rattle.std.proofs.lemmas.List.{append-nil, drop_more, drop_all, take_all, take_more}
use Rattle.std.proofs.lemmas.Slice.Eq.{bytes_eq-Decides}
use Rattle.fits_card.specs.Card.{is_text}
use Rattle.fits_value.proofs.FieldLemmas.{found_said}
use Rattle.fits_value.proofs.SaysLemmas.{field_speaks, field_says-other}
use Rattle.fits_value.proofs.WithinLemmas.{reading_within}
use Rattle.fits_value.specs.Says.{field_says, read_said}
use Rattle.fits_value.specs.Scan.{front_value, value_span, ending_of, valued_of, reading_of}
use Rattle.fits_value.specs.Spelling.{is_space}
use Rattle.fits_value.specs.Unreadable.{begins_comment, before_comment, unspaced, is_ending, after_fault, body_fault, unreadable_of}
use Rattle.fits_value.specs.declared.reading.ValueKind.{ValueKind}
use Rattle.fits_value.specs.declared.reading.Reading.{Reading}
use Rattle.fits_value.specs.declared.reading.Span.{Span}
use Rattle.fits_value.specs.declared.unreadable.Unreadable.{Unreadable}

-- the same letters
pub same_letters : (b : Bool) (s t : List ℕ) → IsTrue b ↔ (map to_ascii_lowercase s ≡ map to_ascii_lowercase t) → b ≡ bytes_eq (map to_ascii_lowercase s) (map to_ascii_lowercase t)
same_letters b s t h =
    let d = bytes_eq-Decides (map to_ascii_lowercase s) (map to_ascii_lowercase t) in
    both_ways b (bytes_eq (map to_ascii_lowercase s) (map to_ascii_lowercase t)) (λ e. d.1 (h.0 e)) (λ e. h.1 (d.0 e))

pub ruleset letter_steps = (same_letters)

-- a comment ends what stands before it
comment_stops : (text : List ℕ) → begins_comment text ≡ true → before_comment text ≡ []
unfolding before_comment
comment_stops [] e = refl
comment_stops (b ∷ s) e = cond-true (begins_comment (b ∷ s)) [] (b ∷ before_comment s) e

-- and another byte doesn't
comment_goes_on : (b : ℕ) (s : List ℕ) → begins_comment (b ∷ s) ≡ false → before_comment (b ∷ s) ≡ b ∷ before_comment s
unfolding before_comment
comment_goes_on b s e = cond-false (begins_comment (b ∷ s)) [] (b ∷ before_comment s) e

-- at a comment
pub comment_here : (text whole : List ℕ) (i : ℕ) → begins_comment (drop i text) ≡ true → take i text ++ before_comment (drop i text) ≡ whole → take i text ≡ whole
comment_here text whole i e inv =
    sym (append-nil (take i text)) ∙ (ap (λ (x : List ℕ). take i text ++ x) (sym (comment_stops (drop i text) e)) ∙ inv)

-- one byte on
pub comment_later : (text whole : List ℕ) (i : ℕ) → i < length text → begins_comment (drop i text) ≡ false → take i text ++ before_comment (drop i text) ≡ whole
    → take (i + 1) text ++ before_comment (drop (i + 1) text) ≡ whole
comment_later text whole i h e inv =
    let b = get_or text i 0 in
    let cut : drop i text ≡ b ∷ drop (i + 1) text = drop_more text i 0 h in
    let goes = comment_goes_on b (drop (i + 1) text) (ap begins_comment (sym cut) ∙ e) in
    ap (λ (x : List ℕ). x ++ before_comment (drop (i + 1) text)) (take_more text i 0 h)
    ∙ (append_assoc (take i text) (b ∷ []) (before_comment (drop (i + 1) text))
    ∙ (ap (λ (x : List ℕ). take i text ++ x) (sym (ap before_comment cut ∙ goes)) ∙ inv))

-- at the end
pub comment_never : (text whole : List ℕ) (i : ℕ) → length text ≤ i → take i text ++ before_comment (drop i text) ≡ whole → text ≡ whole
unfolding before_comment
comment_never text whole i h inv =
    let none : drop i text ≡ [] = drop_all i text h in
    sym (append-nil text) ∙ (ap (λ (x : List ℕ). x ++ []) (sym (take_all i text h)) ∙ (ap (λ (x : List ℕ). take i text ++ before_comment x) (sym none) ∙ inv))

pub ruleset comment_steps = (comment_here, comment_later, comment_never)

-- what follows a value ends it, exactly where that gives a reading
ending_reads : (kind : ValueKind) (value : Span) (n : ℕ) (rest : List ℕ) → is_some (ending_of kind value n rest) ≡ is_ending rest
ending_reads kind value n [] = refl
ending_reads kind value n (c ∷ s) = elim (cases_Bool (eqb c 47)) [
  | inl e ↦ ap is_some (cond-true (eqb c 47) _ None e) ∙ sym e
  | inr e ↦ ap is_some (cond-false (eqb c 47) _ None e) ∙ sym e
]

-- no fault where a test holds
none_if : (test : Bool) (fault : Unreadable) → is_none (cond test None (Some fault)) ≡ test
none_if true fault = refl
none_if false fault = refl

-- nothing is at fault exactly where a value was taken and ends
body_reads : (start : ℕ) (body : List ℕ) (v : Option (ValueKind × ℕ)) → is_none (body_fault body v) ≡ is_some (valued_of start body v)
body_reads start body None = refl
body_reads start body (Some v) =
    let rest = drop v.1 body in
    none_if (is_ending (unspaced rest)) (after_fault v.0 body rest)
    ∙ sym (ending_reads v.0 (value_span v.0 start v.1) (start + v.1 + prefix_len is_space rest) (unspaced rest))

-- what isn't none is some
said : {X : Type 0} (o : Option X) → (o ≡ None → ⊥) → true ≡ is_some o
said None h = absurd (h refl)
said (Some x) h = refl

-- a text says something exactly where it has a reading
reading_says : (text : List ℕ) (o : Option Reading) → reading_of text ≡ o → is_text text ≡ true → is_some o ≡ is_some (field_says text)
unfolding field_says
reading_says text None e h = sym (ap is_some (cond-true (is_text text) (read_said text (reading_of text)) None h ∙ ap (read_said text) e))
reading_says text (Some r) e h = said (field_says text) (λ none. field_speaks text _ _ _ (found_said text (Some r) h (reading_within text r e) (sym e)) none)

-- no fault is found exactly where a text says a value
pub readable : (text : List ℕ) → is_none (unreadable_of text) ≡ is_some (field_says text)
unfolding unreadable_of reading_of
readable text = elim (cases_Bool (is_text text)) [
  | inl e ↦
      ap is_none (cond-true (is_text text) _ _ e)
      ∙ (body_reads (prefix_len is_space text) (unspaced text) (front_value (unspaced text))
      ∙ reading_says text (reading_of text) refl e)
  | inr e ↦ ap is_none (cond-false (is_text text) _ _ e) ∙ sym (ap is_some (field_says-other text e))
]

pub ruleset unreadable_steps = (readable)
