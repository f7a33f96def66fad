-- Names, and strings between their quotes, are text.
use Rattle.std.proofs.Common.{ℕ, ◌+◌, eqb, List, [], ◌∷◌, ◌++◌, refl, sym, ◌∙◌, ap, inl, inr, ◌≡◌, suc, true, not, drop, arith}
use Rattle.std.specs.List.{list_all, prefix_len}
use Rattle.std.proofs.lemmas.List.Folds.{list_all-append}
use Rattle.std.proofs.lemmas.Bool.{cases_Bool, and_parts, and_from, cond-true, cond-false}
use Rattle.fits_card.specs.Card.{IsText, is_text, is_text_byte}
use Rattle.fits_value.specs.Spelling.{doubled}
use Rattle.fits_value.specs.Written.{quoted}
use Rattle.fits_value.proofs.WrittenLemmas.{text_both, text_more, text_spaces, narrower, none_text}
use Rattle.std.specs.Prelude.{IsTrue}
use Rattle.fits_card.specs.Name.{is_valueless, is_spelled, is_settable, is_name_byte}

-- the parts of a text
pub text_parts : (s t : List ℕ) → IsText (s ++ t) → IsText s × IsText t
unfolding is_text
text_parts s t h = let p = and_parts (list_all is_text_byte s) (list_all is_text_byte t) (sym (list_all-append is_text_byte s t) ∙ h) in (p.0, p.1)

-- a text with its quotes doubled
pub text_doubled : (s : List ℕ) → IsText s → IsText (doubled s)
unfolding is_text
text_doubled [] h = refl
text_doubled (c ∷ s) h =
    let p = and_parts (is_text_byte c) (list_all is_text_byte s) h in
    let more = text_doubled s p.1 in
    elim (cases_Bool (eqb c 39)) [
      | inl e ↦ ap (λ (x : List ℕ). list_all is_text_byte x) (cond-true (eqb c 39) (39 ∷ 39 ∷ doubled s) (c ∷ doubled s) e) ∙ more
      | inr e ↦ ap (λ (x : List ℕ). list_all is_text_byte x) (cond-false (eqb c 39) (39 ∷ 39 ∷ doubled s) (c ∷ doubled s) e) ∙ and_from _ _ p.0 more
    ]

-- text between quotes
pub text_quoted : (s : List ℕ) → IsText s → IsText (quoted s)
text_quoted s h = text_more 39 (doubled s ++ 39 ∷ []) refl (text_both (doubled s) (39 ∷ []) (text_doubled s h) (text_more 39 [] refl (text_spaces 0)))

-- characters of names and spaces are text
name_text : (b : ℕ) → is_name_byte b ≡ true → is_text_byte b ≡ true
name_text b h = grind arith

-- and so is a space
space_text : (b : ℕ) → eqb 32 b ≡ true → is_text_byte b ≡ true
space_text b h = grind arith

-- a name that is spelled as the standard asks is text
spelled_text : (s : List ℕ) → list_all (eqb 32) (drop (prefix_len is_name_byte s) s) ≡ true → IsText s
spelled_text [] h = none_text
spelled_text (c ∷ s) h = elim (cases_Bool (is_name_byte c)) [
  | inl e ↦
      let n : prefix_len is_name_byte (c ∷ s) ≡ 1 + prefix_len is_name_byte s = cond-true (is_name_byte c) (1 + prefix_len is_name_byte s) 0 e in
      let m : prefix_len is_name_byte (c ∷ s) ≡ suc (prefix_len is_name_byte s) = omega (arith, n) in
      text_more c s (name_text c e) (spelled_text s (ap (λ (k : ℕ). list_all (eqb 32) (drop k (c ∷ s))) (sym m) ∙ h))
  | inr e ↦
      let n : prefix_len is_name_byte (c ∷ s) ≡ 0 = cond-false (is_name_byte c) (1 + prefix_len is_name_byte s) 0 e in
      narrower (eqb 32) (c ∷ s) space_text (ap (λ (k : ℕ). list_all (eqb 32) (drop k (c ∷ s))) (sym n) ∙ h)
]

-- and so is one that may have a value
pub settable_text : (name : List ℕ) → IsTrue (is_settable name) → IsText name
unfolding is_settable is_spelled
settable_text name h = spelled_text name (and_parts (is_spelled name) (not (is_valueless name)) h).0
