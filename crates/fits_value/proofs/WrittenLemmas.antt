-- Cards that are written are text, and say what was written on them.
use Rattle.std.proofs.Common.{Bool, take, ◌≡◌, ℕ, zero, suc, ◌+◌, ◌-◌, true, List, [], ◌∷◌, ◌++◌, length, drop, replicate, Option, None, Some, refl, sym, ◌∙◌, ap, subst, append_assoc}
use Rattle.std.specs.Prelude.{IfSome}
use Rattle.std.specs.List.{list_all}
use Rattle.std.proofs.Math.Seq.{drop-append_seam, take-append_seam}
use Rattle.std.proofs.lemmas.List.{append-nil}
use Rattle.std.proofs.lemmas.List.Folds.{list_all-append}
use Rattle.std.proofs.lemmas.Bool.{and_parts, and_from}
use Rattle.fits_card.specs.Card.{IsText, is_text, is_text_byte, card_of_text, keyword_name, indicator}
use Rattle.fits_value.specs.Field.{field, FieldReadsAs}
use Rattle.fits_value.specs.Spelling.{IsSpaces, Spells}
use Rattle.fits_value.specs.Value.{CardSays, IsValueOf, kind_of}
use Rattle.fits_value.specs.Written.{commented, card_of, IsWritableComment}
use Rattle.fits_value.specs.declared.value.Value.{Value}

-- spaces are spaces
pub spaces_are : (n : ℕ) → IsSpaces (replicate n 32)
spaces_are zero = refl
spaces_are (suc n) = spaces_are n

-- and text
pub text_spaces : (n : ℕ) → IsText (replicate n 32)
unfolding is_text
text_spaces zero = refl
text_spaces (suc n) = text_spaces n

-- text after text
pub text_both : (s t : List ℕ) → IsText s → IsText t → IsText (s ++ t)
unfolding is_text
text_both s t a b = list_all-append is_text_byte s t ∙ and_from _ _ a b

-- one character more
pub text_more : (c : ℕ) (s : List ℕ) → is_text_byte c ≡ true → IsText s → IsText (c ∷ s)
unfolding is_text
text_more c s a b = and_from _ _ a b

-- bytes 11 to 80 of a card that begins with ten bytes
after_lead : (lead body : List ℕ) → length lead ≡ 10 → field (card_of_text (lead ++ body)) ≡ body ++ replicate (80 - length (lead ++ body)) 32
after_lead lead body size =
    let spaces : List ℕ = replicate (80 - length (lead ++ body)) 32 in
    ap (λ (x : List ℕ). drop 10 x) (append_assoc lead body spaces) ∙ (ap (λ (k : ℕ). drop k (lead ++ (body ++ spaces))) (sym size) ∙ drop-append_seam lead (body ++ spaces))

-- a value with spaces before it, with its comment, in a card
pub card_says_written : (lead before spelling : List ℕ) (comment : Option (List ℕ)) (v : Value) → length lead ≡ 10 → IsText lead → IsSpaces before → IsText (before ++ spelling) → Spells (kind_of v) spelling → IsValueOf v spelling
    → IfSome comment IsWritableComment → CardSays (card_of lead (before ++ spelling) comment) v comment
card_says_written lead before spelling None v size is_lead spaced texts spelled is_value ok =
    let body : List ℕ = before ++ spelling in
    let n = 80 - length (lead ++ body) in
    let spaces : List ℕ = replicate n 32 in
    let at : field (card_of_text (lead ++ body)) ≡ body ++ spaces = after_lead lead body size in
    record {
      is_text = text_both (lead ++ body) spaces (text_both lead body is_lead texts) (text_spaces n);
      says = record {
        spelling = spelling;
        reads = subst (λ (x : List ℕ). FieldReadsAs x (kind_of v) spelling None) (sym at) (record {
          before = before;
          after = spaces;
          ending = [];
          parts = simp (append_assoc, append-nil);
          is_text = text_both body spaces texts (text_spaces n);
          spaced = (spaced, spaces_are n);
          spelled = spelled;
          ends = refl;
        });
        is_value = is_value;
      };
    }
card_says_written lead before spelling (Some comment) v size is_lead spaced texts spelled is_value ok =
    let m = 1 + (30 - length (lead ++ (before ++ spelling))) in
    let gap : List ℕ = replicate m 32 in
    let body : List ℕ = (before ++ spelling) ++ gap ++ 47 ∷ comment in
    let n = 80 - length (lead ++ body) in
    let spaces : List ℕ = replicate n 32 in
    let at : field (card_of_text (lead ++ body)) ≡ body ++ spaces = after_lead lead body size in
    let is_body : IsText body = text_both (before ++ spelling ++ gap) (47 ∷ comment) (text_both (before ++ spelling) gap texts (text_spaces m)) (text_more 47 comment refl ok.0) in
    let whole : lead ++ (before ++ spelling) ++ gap ++ 47 ∷ comment ≡ lead ++ body = simp append_assoc in
    subst (λ (x : List ℕ). CardSays (card_of_text x) v (Some comment)) (sym whole) (record {
      is_text = text_both (lead ++ body) spaces (text_both lead body is_lead is_body) (text_spaces n);
      says = record {
        spelling = spelling;
        reads = subst (λ (x : List ℕ). FieldReadsAs x (kind_of v) spelling (Some comment)) (sym at) (record {
          before = before;
          after = gap;
          ending = 47 ∷ comment ++ spaces;
          parts = simp append_assoc;
          is_text = text_both body spaces is_body (text_spaces n);
          spaced = (spaced, spaces_are m);
          spelled = spelled;
          ends = (spaces, spaces_are n, ok.1, refl);
        });
        is_value = is_value;
      };
    })

-- ten bytes stand before what follows them
pub commented_after : (lead value : List ℕ) (comment : Option (List ℕ)) → (body : List ℕ) × (commented (lead ++ value) comment ≡ lead ++ body)
commented_after lead value None = (value, refl)
commented_after lead value (Some comment) = (value ++ replicate (1 + (30 - length (lead ++ value))) 32 ++ 47 ∷ comment, simp append_assoc)

-- the first eight bytes of a card that begins with a name
pub lead_name : (name mark body : List ℕ) → length name ≡ 8 → keyword_name (card_of_text (name ++ mark ++ body)) ≡ name
lead_name name mark body e =
    let spaces : List ℕ = replicate (80 - length (name ++ mark ++ body)) 32 in
    let at : name ++ mark ++ body ++ spaces ≡ name ++ (mark ++ (body ++ spaces)) = simp append_assoc in
    ap (λ (x : List ℕ). take 8 x) at ∙ (ap (λ (k : ℕ). take k (name ++ (mark ++ (body ++ spaces)))) (sym e) ∙ take-append_seam name (mark ++ (body ++ spaces)))

-- and the two bytes after them
pub lead_mark : (name mark body : List ℕ) → length name ≡ 8 → length mark ≡ 2 → indicator (card_of_text (name ++ mark ++ body)) ≡ mark
lead_mark name mark body e f =
    let spaces : List ℕ = replicate (80 - length (name ++ mark ++ body)) 32 in
    let at : name ++ mark ++ body ++ spaces ≡ name ++ (mark ++ (body ++ spaces)) = simp append_assoc in
    let after : drop 8 (name ++ mark ++ body ++ spaces) ≡ mark ++ (body ++ spaces) =
    ap (λ (x : List ℕ). drop 8 x) at ∙ (ap (λ (k : ℕ). drop k (name ++ (mark ++ (body ++ spaces)))) (sym e) ∙ drop-append_seam name (mark ++ (body ++ spaces))) in
    ap (λ (x : List ℕ). take 2 x) after ∙ (ap (λ (k : ℕ). take k (mark ++ (body ++ spaces))) (sym f) ∙ take-append_seam mark (body ++ spaces))

-- what passes a narrower test is text
pub narrower : (p : ℕ → Bool) (s : List ℕ) → ((b : ℕ) → p b ≡ true → is_text_byte b ≡ true) → list_all p s ≡ true → IsText s
unfolding is_text
narrower p [] h all = refl
narrower p (b ∷ s) h all =
    let both = and_parts (p b) (list_all p s) all in
    and_from _ _ (h b both.0) (narrower p s h both.1)

-- nothing is text
pub none_text : IsText []
unfolding is_text
none_text = refl
