-- Written cards are cards of a header before its END.
use Rattle.std.proofs.Common.{◌≡◌, ℕ, zero, suc, true, false, not, eqb, leb, List, [], ◌∷◌, ◌++◌, length, take, drop, codes, bytes_eq, All, Option, None, Some, Result, Ok, Err, refl, sym, ◌∙◌, ap, subst, inl, inr}
use Rattle.std.specs.Prelude.{IfOk, OnOk, IsTrue, is_ok}
use Rattle.std.proofs.lemmas.Bool.{cases_Bool, and_parts, cond-true, cond-false, not-true, eqb-true}
use Rattle.std.proofs.lemmas.List.Elements.{All-cons, All-nil}
use Rattle.std.proofs.lemmas.Slice.Eq.{bytes_eq-Decides}
use Rattle.fits_card.specs.Card.{IsEnd, is_end, card_of_text, keyword_name}
use Rattle.fits_card.specs.Header.{IsInnerCard}
use Rattle.fits_card.specs.Name.{end_name, is_valueless, is_spelled, is_settable}
use Rattle.fits_value.proofs.WrittenLemmas.{commented_after, lead_name}
use Rattle.fits_value.specs.Spelling.{doubled}
use Rattle.fits_value.specs.Written.{value_lead, value_field, continue_lead, card_of, quoted, fitting, cards_of_string, is_long, characters_of, cards_of, all_fit, writable_parts, is_writable, write_says}
use Rattle.fits_value.proofs.WritableLemmas.{says_parts}
use Rattle.fits_value.specs.declared.value.Value.{Value}
use Rattle.fits_value.specs.declared.write.WriteFault.{WriteFault}

-- a name that has a value is not END
valued_no_end : (name : List ℕ) → is_valueless name ≡ false → bytes_eq name end_name ≡ false
unfolding is_valueless
valued_no_end name h = elim (cases_Bool (bytes_eq name end_name)) [
  | inl e ↦
      let same : name ≡ end_name = (bytes_eq-Decides name end_name).0 e in
      let is : is_valueless name ≡ true = ap is_valueless same in
      absurd (let z = sym h ∙ is in (cc))
  | inr e ↦ e
]

-- so its cards don't end a header
pub no_end : (name mark value : List ℕ) (comment : Option (List ℕ)) → length name ≡ 8 → bytes_eq name end_name ≡ false → IsEnd (card_of (name ++ mark) value comment) → ⊥
unfolding is_end
no_end name mark value comment size e h =
    let b = commented_after (name ++ mark) value comment in
    let named : keyword_name (card_of (name ++ mark) value comment) ≡ name = ap (λ (x : List ℕ). keyword_name (card_of_text x)) b.1 ∙ lead_name name mark b.0 size in
    let z : true ≡ false = sym h ∙ (ap (λ (x : List ℕ). bytes_eq x end_name) named ∙ e) in
    absurd (cc)

-- cards that fit and are no END
pub inner : (card : List ℕ) (others : List (List ℕ)) → all_fit (card ∷ others) ≡ true → (IsEnd card → ⊥) → (all_fit others ≡ true → All IsInnerCard others) → All IsInnerCard (card ∷ others)
inner card others fits no_end more =
    let both = and_parts (eqb (length card) 80) (all_fit others) fits in
    All-cons IsInnerCard card others (record { size = eqb-true (length card) 80 both.0; not_end = no_end }) (more both.1)

-- the cards of a string
pub inner_string : (n : ℕ) (name mark text : List ℕ) (comment : Option (List ℕ)) → length name ≡ 8 → bytes_eq name end_name ≡ false → all_fit (cards_of_string (name ++ mark) n text comment) ≡ true → All IsInnerCard (cards_of_string (name ++ mark) n text comment)
inner_string zero name mark text comment size e fits = inner _ [] fits (no_end name mark (quoted text) comment size e) (λ _. All-nil IsInnerCard)
inner_string (suc n) name mark text comment size e fits =
    let k = fitting 67 text in
    let lead : List ℕ = name ++ mark in
    let off : List (List ℕ) = card_of lead (quoted text) comment ∷ [] in
    let others : List (List ℕ) = cards_of_string continue_lead n (drop k text) comment in
    let on : List (List ℕ) = card_of lead (quoted (take k text ++ 38 ∷ [])) None ∷ others in
    let short = leb (length (doubled text)) 68 in
    elim (cases_Bool short) [
      | inl f ↦
          let cut = cond-true short off on f in
          subst (λ (x : List (List ℕ)). All IsInnerCard x) (sym cut) (inner (card_of lead (quoted text) comment) [] (ap all_fit (sym cut) ∙ fits) (no_end name mark (quoted text) comment size e) (λ _. All-nil IsInnerCard))
      | inr f ↦
          let cut = cond-false short off on f in
          subst (λ (x : List (List ℕ)). All IsInnerCard x) (sym cut)
          (inner (card_of lead (quoted (take k text ++ 38 ∷ [])) None) others (ap all_fit (sym cut) ∙ fits) (no_end name mark (quoted (take k text ++ 38 ∷ [])) None size e)
          (inner_string n (codes "CONTINUE") (codes "  ") (drop k text) comment refl refl))
    ]

-- and those of any value under a name that may have one
pub inner_cards : (name : List ℕ) (value : Value) (comment : Option (List ℕ)) → length name ≡ 8 → is_valueless name ≡ false → all_fit (cards_of name value comment) ≡ true → All IsInnerCard (cards_of name value comment)
inner_cards name value comment size valued fits =
    let e = valued_no_end name valued in
    let one : List (List ℕ) = card_of (value_lead name) (value_field value) comment ∷ [] in
    let text = characters_of value in
    let many : List (List ℕ) = cards_of_string (value_lead name) (length text) text comment in
    elim (cases_Bool (is_long value)) [
      | inl f ↦
          let cut = cond-true (is_long value) many one f in
          subst (λ (x : List (List ℕ)). All IsInnerCard x) (sym cut) (inner_string (length text) name (codes "= ") text comment size e (ap all_fit (sym cut) ∙ fits))
      | inr f ↦
          let cut = cond-false (is_long value) many one f in
          subst (λ (x : List (List ℕ)). All IsInnerCard x) (sym cut)
          (inner (card_of (value_lead name) (value_field value) comment) [] (ap all_fit (sym cut) ∙ fits) (no_end name (codes "= ") (value_field value) comment size e) (λ _. All-nil IsInnerCard))
    ]

-- the name may have a value
pub settable_valued : (name : List ℕ) → IsTrue (is_settable name) → is_valueless name ≡ false
unfolding is_settable
settable_valued name h = not-true (is_valueless name) (and_parts (is_spelled name) (not (is_valueless name)) h).1

-- so the cards of a value that was written are inner cards
pub inner_result : (r : Result (List (List ℕ)) WriteFault) (name : List ℕ) (value : Value) (comment : Option (List ℕ)) → IsTrue (is_settable name) → IfOk r (λ (x : List (List ℕ)). x ≡ cards_of name value comment) → OnOk r (IsTrue (all_fit (cards_of name value comment)))
    → OnOk r (length name ≡ 8) → IfOk r (λ (x : List (List ℕ)). All IsInnerCard x)
inner_result (Ok x) name value comment settable is fits size = subst (λ (y : List (List ℕ)). All IsInnerCard y) (sym is) (inner_cards name value comment size (settable_valued name settable) fits)
inner_result (Err f) name value comment settable is fits size = tt

-- and those that it has by the definition
pub inner_written : (written : List (List ℕ)) (name : List ℕ) (value : Value) (comment : Option (List ℕ)) → length name ≡ 8 → IsTrue (is_settable name) → write_says name value comment ≡ Some written → All IsInnerCard written
unfolding is_writable
inner_written written name value comment size settable e =
    let w = says_parts name value comment written e in
    let fits = (and_parts (is_ok (writable_parts value comment)) (all_fit (cards_of name value comment)) w.0).1 in
    subst (λ (x : List (List ℕ)). All IsInnerCard x) w.1 (inner_cards name value comment size (settable_valued name settable) fits)
