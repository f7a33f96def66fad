-- A string that was written over cards reads back.
use Rattle.std.proofs.Common.{◌≡◌, ℕ, zero, suc, ◌+◌, ◌-◌, Bool, true, false, leb, not, List, [], ◌∷◌, ◌++◌, length, take, drop, reverse, codes, Option, None, Some, refl, sym, ◌∙◌, ap, subst, arith, inl, inr, append_assoc, length-append}
use Rattle.std.specs.Prelude.{IfSome}
use Rattle.std.specs.List.{prefix_len, suffix_len}
use Rattle.std.specs.Option.{option_map}
use Rattle.std.proofs.Math.Seq.{take-append_seam}
use Rattle.std.proofs.lemmas.List.{take-append-drop, reverse-append}
use Rattle.std.proofs.lemmas.Bool.{cases_Bool, and_from, cond-true, cond-false}
use Rattle.std.proofs.lemmas.Slice.Eq.{bytes_eq-Decides}
use Rattle.fits_card.specs.Card.{IsText, is_text, card_of_text, keyword_name, indicator, has_value}
use Rattle.fits_card.specs.Name.{is_valueless}
use Rattle.fits_value.proofs.ReadLemmas.{Said}
use Rattle.fits_value.proofs.SaysLemmas.{card_said}
use Rattle.fits_value.proofs.AmpersandLemmas.{ampersand_told, ampersand_said}
use Rattle.fits_value.proofs.WrittenLemmas.{card_says_written, commented_after, text_both, text_more, text_spaces, lead_name, lead_mark}
use Rattle.fits_laws.proofs.TextLemmas.{text_parts, text_quoted}
use Rattle.fits_value.specs.Spelling.{is_space, doubled}
use Rattle.fits_value.specs.Text.{normal_form}
use Rattle.fits_value.specs.Value.{CardSays}
use Rattle.fits_value.specs.LongString.{EndsInAmpersand, without_last}
use Rattle.fits_value.specs.Says.{card_says, link_before, links_of, link_says, is_continue, said_string, ends_in_ampersand, joined, continued, first_says}
use Rattle.fits_value.specs.Written.{card_of, quoted, fitting, continue_lead, cards_of_string, IsWritableComment}
use Rattle.fits_value.specs.declared.value.Value.TheVariants.{Str}
use Rattle.fits_value.proofs.WrittenStringLemmas.{normal_stops}

-- nothing passes at the front of a part
prefix_zero : (p : ℕ → Bool) (s t : List ℕ) → prefix_len p (s ++ t) ≡ 0 → prefix_len p s ≡ 0
prefix_zero p [] t h = refl
prefix_zero p (c ∷ s) t h = elim (cases_Bool (p c)) [
  | inl e ↦ let x : 1 + prefix_len p (s ++ t) ≡ 0 = sym (cond-true (p c) (1 + prefix_len p (s ++ t)) 0 e) ∙ h in absurd (omega arith)
  | inr e ↦ cond-false (p c) _ _ e
]

-- nor at the end of one
pub suffix_zero : (p : ℕ → Bool) (s t : List ℕ) → suffix_len p (s ++ t) ≡ 0 → suffix_len p t ≡ 0
suffix_zero p s t h = prefix_zero p (reverse t) (reverse s) (sym (ap (λ (x : List ℕ). prefix_len p x) (reverse-append s t)) ∙ h)

-- an ampersand is no space
open_stops : (s : List ℕ) → suffix_len is_space (s ++ 38 ∷ []) ≡ 0
open_stops s = ap (λ (x : List ℕ). prefix_len is_space x) (reverse-append s (38 ∷ []))

-- a part of a text that ends in no ampersand does not either
closed_after : (s t : List ℕ) → (EndsInAmpersand (s ++ t) → ⊥) → EndsInAmpersand t → ⊥
closed_after s t h e = h (s ++ e.0, ap (λ (x : List ℕ). s ++ x) e.1 ∙ sym (append_assoc s e.0 (38 ∷ [])))

-- what ends in no ampersand is not continued
pub joined_stops : (text : List ℕ) (comment : Option (List ℕ)) (links : List (List ℕ × Option (List ℕ))) → (EndsInAmpersand text → ⊥) → joined text comment links ≡ (text, comment)
joined_stops text comment [] h = refl
joined_stops text comment (l ∷ ls) h = elim (cases_Bool (ends_in_ampersand text)) [
  | inl e ↦ absurd (h (ampersand_told text e))
  | inr e ↦ cond-false (ends_in_ampersand text) _ _ e
]

-- what ends in one goes on in the next
joined_more : (s t : List ℕ) (c d : Option (List ℕ)) (link : List ℕ × Option (List ℕ)) (links : List (List ℕ × Option (List ℕ))) → joined link.0 link.1 links ≡ (t, d) → joined (s ++ 38 ∷ []) c (link ∷ links) ≡ (s ++ t, d)
joined_more s t c d link links e =
    let is_open : ends_in_ampersand (s ++ 38 ∷ []) ≡ true = ampersand_said (s ++ 38 ∷ []) (s, refl) in
    let size : length (s ++ 38 ∷ []) - 1 ≡ length s = omega (arith, length-append s (38 ∷ [])) in
    let kept : without_last (s ++ 38 ∷ []) ≡ s = ap (λ (k : ℕ). take k (s ++ 38 ∷ [])) size ∙ take-append_seam s (38 ∷ []) in
    let rest = joined link.0 link.1 links in
    cond-true (ends_in_ampersand (s ++ 38 ∷ [])) (without_last (s ++ 38 ∷ []) ++ rest.0, rest.1) (s ++ 38 ∷ [], c) is_open
    ∙ (ap (λ (x : List ℕ). (x ++ rest.0, rest.1)) kept ∙ ap (λ (x : List ℕ × Option (List ℕ)). (s ++ x.0, x.1)) e)

-- cards of which the first begins so and says a string, which those after it continue to a text and a comment
pub record Reads (cards : List (List ℕ)) (lead text : List ℕ) (comment : Option (List ℕ)) : Type 0 where
  pub body : List ℕ
  pub after : List (List ℕ)
  pub is : cards ≡ card_of_text (lead ++ body) ∷ after
  pub piece : List ℕ
  pub piece_comment : Option (List ℕ)
  pub says : CardSays (card_of_text (lead ++ body)) (Str piece) piece_comment
  pub joins : joined piece piece_comment (links_of after) ≡ (text, comment)

-- the card that ends a string
closed_reads : (lead text : List ℕ) (comment : Option (List ℕ)) (rest : List (List ℕ)) → length lead ≡ 10 → IsText lead → IsText text → suffix_len is_space text ≡ 0 → (EndsInAmpersand text → ⊥) → IfSome comment IsWritableComment
    → Reads (card_of lead (quoted text) comment ∷ rest) lead text comment
closed_reads lead text comment rest size is_lead texts stops closed ok =
    let b = commented_after lead (quoted text) comment in
    let says = card_says_written lead [] (quoted text) comment (Str text) size is_lead refl (text_quoted text texts) (text, refl) (text, refl, sym (normal_stops text stops)) ok in
    record {
      body = b.0;
      after = rest;
      is = ap (λ (x : List ℕ). card_of_text x ∷ rest) b.1;
      piece = text;
      piece_comment = comment;
      says = subst (λ (x : List ℕ). CardSays (card_of_text x) (Str text) comment) b.1 says;
      joins = joined_stops text comment (links_of rest) closed;
    }

-- a card that goes on with a string is named CONTINUE, with spaces in bytes 9 and 10
continues : (body : List ℕ) → is_continue (card_of_text (continue_lead ++ body)) ≡ true
unfolding is_continue
continues body =
    let card = card_of_text (continue_lead ++ body) in
    and_from _ _ ((bytes_eq-Decides (keyword_name card) (codes "CONTINUE")).1 (lead_name (codes "CONTINUE") (codes "  ") body refl)) ((bytes_eq-Decides (indicator card) (codes "  ")).1 (lead_mark (codes "CONTINUE") (codes "  ") body refl refl))

-- so it is a link
links_read : (cards : List (List ℕ)) (text : List ℕ) (comment : Option (List ℕ)) → (r : Reads cards continue_lead text comment) → links_of cards ≡ (r.piece, r.piece_comment) ∷ links_of r.after
unfolding link_says
links_read cards text comment r =
    let card = card_of_text (continue_lead ++ r.body) in
    let said = ap said_string (card_said card (Str r.piece) r.piece_comment r.says) in
    let is : link_says card ≡ Some (r.piece, r.piece_comment) = cond-true (is_continue card) (said_string (card_says card)) None (continues r.body) ∙ said in
    ap links_of r.is ∙ ap (λ o. link_before o (links_of r.after)) is

-- a piece that the cards after it continue
open_reads : (lead piece text : List ℕ) (comment : Option (List ℕ)) (cards : List (List ℕ)) → length lead ≡ 10 → IsText lead → IsText piece → Reads cards continue_lead text comment
    → Reads (card_of lead (quoted (piece ++ 38 ∷ [])) None ∷ cards) lead (piece ++ text) comment
open_reads lead piece text comment cards size is_lead texts r =
    let s : List ℕ = piece ++ 38 ∷ [] in
    let is_s : IsText s = text_both piece (38 ∷ []) texts (text_more 38 [] refl (text_spaces 0)) in
    record {
      body = quoted s;
      after = cards;
      is = refl;
      piece = s;
      piece_comment = None;
      says = card_says_written lead [] (quoted s) None (Str s) size is_lead refl (text_quoted s is_s) (s, refl) (s, refl, sym (normal_stops s (open_stops piece))) tt;
      joins = ap (λ x. joined s None x) (links_read cards text comment r) ∙ joined_more piece text None comment (r.piece, r.piece_comment) (links_of r.after) r.joins;
    }

-- the first ten bytes of a card that continues a string are text
continue_text : IsText continue_lead
unfolding is_text
continue_text = refl

-- all cards of a string, whatever follows them
pub string_reads : (n : ℕ) (lead text : List ℕ) (comment : Option (List ℕ)) (rest : List (List ℕ)) → length lead ≡ 10 → IsText lead → IsText text → suffix_len is_space text ≡ 0 → (EndsInAmpersand text → ⊥) → IfSome comment IsWritableComment
    → Reads (cards_of_string lead n text comment ++ rest) lead text comment
string_reads zero lead text comment rest size is_lead texts stops closed ok = closed_reads lead text comment rest size is_lead texts stops closed ok
string_reads (suc n) lead text comment rest size is_lead texts stops closed ok =
    let k = fitting 67 text in
    let cut : take k text ++ drop k text ≡ text = take-append-drop k text in
    let parts = text_parts (take k text) (drop k text) (subst (λ (x : List ℕ). IsText x) (sym cut) texts) in
    let off : List (List ℕ) = card_of lead (quoted text) comment ∷ [] in
    let on : List (List ℕ) = card_of lead (quoted (take k text ++ 38 ∷ [])) None ∷ cards_of_string continue_lead n (drop k text) comment in
    elim (cases_Bool (leb (length (doubled text)) 68)) [
      | inl e ↦
          subst (λ (x : List (List ℕ)). Reads (x ++ rest) lead text comment) (sym (cond-true (leb (length (doubled text)) 68) off on e))
          (closed_reads lead text comment rest size is_lead texts stops closed ok)
      | inr e ↦
          let more = string_reads n continue_lead (drop k text) comment rest refl continue_text parts.1
          (suffix_zero is_space (take k text) (drop k text) (ap (λ (x : List ℕ). suffix_len is_space x) cut ∙ stops))
          (closed_after (take k text) (drop k text) (λ h. closed (subst (λ (x : List ℕ). EndsInAmpersand x) cut h))) ok in
          subst (λ (x : List (List ℕ)). Reads (x ++ rest) lead text comment) (sym (cond-false (leb (length (doubled text)) 68) off on e))
          (subst (λ (x : List ℕ). Reads (on ++ rest) lead x comment) cut (open_reads lead (take k text) (drop k text) comment (cards_of_string continue_lead n (drop k text) comment ++ rest) size is_lead parts.0 more))
    ]

-- a card with a value that begins a string says all of it
pub first_reads : (name text : List ℕ) (comment : Option (List ℕ)) (cards : List (List ℕ)) → length name ≡ 8 → is_valueless name ≡ false → normal_form text ≡ text → Reads cards (name ++ codes "= ") text comment
    → first_says cards ≡ Some (Str text, comment)
unfolding has_value
first_reads name text comment cards size valued normal r =
    let card = card_of_text (name ++ codes "= " ++ r.body) in
    let marked = (bytes_eq-Decides (indicator card) (codes "= ")).1 (lead_mark name (codes "= ") r.body size refl) in
    let named : not (is_valueless (keyword_name card)) ≡ true = ap (λ (x : List ℕ). not (is_valueless x)) (lead_name name (codes "= ") r.body size) ∙ ap not valued in
    let value : has_value card ≡ true = and_from _ _ marked named in
    ap first_says r.is ∙ (cond-true (has_value card) (option_map (λ (x : Said). continued x.0 x.1 r.after) (card_says card)) (card_says card) value
    ∙ (ap (option_map (λ (x : Said). continued x.0 x.1 r.after)) (card_said card (Str r.piece) r.piece_comment r.says)
    ∙ (ap (λ (x : List ℕ × Option (List ℕ)). Some (Str (normal_form x.0), x.1)) r.joins ∙ ap (λ (x : List ℕ). Some (Str x, comment)) normal)))
