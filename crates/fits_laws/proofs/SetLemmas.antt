-- A keyword that was set says what it was set to.
use Rattle.std.proofs.Common.{◌≡◌, inl, inr, ℕ, ◌+◌, ◌-◌, ◌<◌, ◌≤◌, true, false, List, [], ◌∷◌, ◌++◌, length, take, drop, get_or, codes, zero, suc, refl, ap, sym, ◌∙◌, subst, arith, Option, None, Some}
use Rattle.std.specs.Prelude.{Ok, not, nat_le, position}
use Rattle.std.specs.List.{position_or_len}
use Rattle.std.specs.Option.{option_map}
use Rattle.std.proofs.Math.Seq.{get_or-append_seam, drop-append_seam}
use Rattle.std.proofs.lemmas.Bool.{cases_Bool, and_from, cond-true, cond-false}
use Rattle.std.proofs.lemmas.Grind.{common_steps}
use Rattle.std.proofs.lemmas.List.{get_or_append_left, get_or-take, length-append, length-take-le}
use Rattle.std.proofs.lemmas.List.Quantifiers.{position-Some}
use Rattle.std.proofs.lemmas.List.Sums.{fails_before_first}
use Rattle.std.proofs.lemmas.Slice.Eq.{bytes_eq-Decides}
use Rattle.fits_card.specs.Card.{card_of_text, has_value, indicator, keyword_name}
use Rattle.fits_card.specs.Change.{cards_after}
use Rattle.fits_card.specs.Name.{is_settable, is_valueless}
use Rattle.fits_card.specs.declared.change.Change.{Change}
use Rattle.fits_value.specs.LongString.{cards_from}
use Rattle.fits_value.specs.Spelling.{doubled}
use Rattle.fits_value.specs.Written.{card_of, cards_of, cards_of_string, characters_of, continue_lead, fitting, is_long, quoted, value_field, value_lead, write_says}
use Rattle.fits_value.specs.declared.value.Value.{Value}
use Rattle.fits_value.proofs.InnerLemmas.{settable_valued}
use Rattle.fits_laws.proofs.ReadBackLemmas.{written_said}
use Rattle.fits_value.proofs.WritableLemmas.{says_parts}
use Rattle.fits_value.proofs.WrittenLemmas.{commented_after, lead_name, lead_mark}
use Rattle.fits_rules.specs.Lead.{is_value_of, lead_place}
use Rattle.fits_rules.proofs.LeadLemmas.{NoneBefore, lead_at}
use Rattle.fits_rules.proofs.LeadCardLemmas.{lead_to}
use Rattle.fits_hdu.specs.Keyword.{keyword_cards, keyword_value, with_links, replacing}
use Rattle.fits_hdu.proofs.KeywordLemmas.{keyword_at, keyword_nowhere, lead_says}
use Rattle.fits_making.specs.CardEdit.{setting, set_of}
use Rattle.fits_making.proofs.CardEditLemmas.{set_if}

-- a card that is written under a name has that name and a value
written_valued : (name value : List ℕ) (comment : Option (List ℕ)) → length name ≡ 8 → is_valueless name ≡ false → is_value_of name (card_of (value_lead name) value comment) ≡ true
unfolding is_value_of has_value
written_valued name value comment size valued =
    let b = commented_after (value_lead name) value comment in
    let card : List ℕ = card_of_text (name ++ codes "= " ++ b.0) in
    let is : card_of (value_lead name) value comment ≡ card = ap card_of_text b.1 in
    let named : keyword_name card ≡ name = lead_name name (codes "= ") b.0 size in
    let marked = (bytes_eq-Decides (indicator card) (codes "= ")).1 (lead_mark name (codes "= ") b.0 size refl) in
    let has = and_from _ _ marked (ap (λ (x : List ℕ). not (is_valueless x)) named ∙ ap not valued) in
    ap (is_value_of name) is ∙ and_from _ _ ((bytes_eq-Decides (keyword_name card) name).1 named) has

-- cards begin with one that has a name and a value
record BeginsWith (name : List ℕ) (cards : List (List ℕ)) : Type 0 where
  pub first : List ℕ
  pub others : List (List ℕ)
  pub is : cards ≡ first ∷ others
  pub has : is_value_of name first ≡ true

-- the cards of a string do
begins_string : (n : ℕ) (name text : List ℕ) (comment : Option (List ℕ)) → length name ≡ 8 → is_valueless name ≡ false → BeginsWith name (cards_of_string (value_lead name) n text comment)
begins_string zero name text comment size valued = record {
  first = card_of (value_lead name) (quoted text) comment;
  others = [];
  is = refl;
  has = written_valued name (quoted text) comment size valued;
}
begins_string (suc n) name text comment size valued =
    let k = fitting 67 text in
    let lead : List ℕ = value_lead name in
    let others : List (List ℕ) = cards_of_string continue_lead n (drop k text) comment in
    let off : List (List ℕ) = card_of lead (quoted text) comment ∷ [] in
    let on : List (List ℕ) = card_of lead (quoted (take k text ++ 38 ∷ [])) None ∷ others in
    let short = nat_le (length (doubled text)) 68 in
    elim (cases_Bool short) [
      | inl f ↦ record {
        first = card_of lead (quoted text) comment;
        others = [];
        is = cond-true short off on f;
        has = written_valued name (quoted text) comment size valued;
      }
      | inr f ↦ record {
        first = card_of lead (quoted (take k text ++ 38 ∷ [])) None;
        others = others;
        is = cond-false short off on f;
        has = written_valued name (quoted (take k text ++ 38 ∷ [])) None size valued;
      }
    ]

-- and so do those of any value
begins_value : (name : List ℕ) (value : Value) (comment : Option (List ℕ)) → length name ≡ 8 → is_valueless name ≡ false → BeginsWith name (cards_of name value comment)
begins_value name value comment size valued =
    let text = characters_of value in
    let one : List (List ℕ) = card_of (value_lead name) (value_field value) comment ∷ [] in
    let many : List (List ℕ) = cards_of_string (value_lead name) (length text) text comment in
    let string = begins_string (length text) name text comment size valued in
    elim (cases_Bool (is_long value)) [
      | inl f ↦ record { first = string.first; others = string.others; is = cond-true (is_long value) many one f ∙ string.is; has = string.has }
      | inr f ↦ record {
        first = card_of (value_lead name) (value_field value) comment;
        others = [];
        is = cond-false (is_long value) many one f;
        has = written_valued name (value_field value) comment size valued;
      }
    ]

-- no card before the lead is one
before_lead : (cards : List (List ℕ)) (name : List ℕ) (place : ℕ) (o : Option ℕ) (k : ℕ) → position (is_value_of name) cards ≡ o → option_map (λ index. index + 1) o ≡ Some place → k < place - 1 → is_value_of name (get_or cards k []) ≡ false
before_lead cards name place None k at e l = cc
before_lead cards name place (Some i) k at e l =
    let same : i + 1 ≡ place = cc in
    (position-Some (is_value_of name) cards i [] at).2 k (omega arith)

-- no card before the lead is the name's
before_place : (cards : List (List ℕ)) (name : List ℕ) (place k : ℕ) → lead_place cards name ≡ Some place → k < place - 1 → is_value_of name (get_or cards k []) ≡ false
unfolding lead_place
before_place cards name place k e l = before_lead cards name place (position (is_value_of name) cards) k refl e l

-- and none at all where there is no lead
no_position : (o : Option ℕ) → option_map (λ index. index + 1) o ≡ None → o ≡ None
no_position None e = refl
no_position (Some i) e = cc

-- without a lead no card is
nowhere : (cards : List (List ℕ)) (name : List ℕ) (k : ℕ) → lead_place cards name ≡ None → k < length cards → is_value_of name (get_or cards k []) ≡ false
unfolding lead_place
nowhere cards name k e l =
    let none : position (is_value_of name) cards ≡ None = no_position (position (is_value_of name) cards) e in
    let past : length cards ≤ position_or_len (is_value_of name) cards = grind (arith, common_steps) in
    fails_before_first (is_value_of name) cards k [] (omega arith)

-- the lead is the first of the new cards, where none before them is one
lead_new : (front others : List (List ℕ)) (first name : List ℕ) → ((k : ℕ) → k < length front → is_value_of name (get_or front k []) ≡ false) → is_value_of name first ≡ true → Some (length front + 1) ≡ lead_place (front ++ first ∷ others) name
lead_new front others first name none has =
    let before : NoneBefore (front ++ first ∷ others) name (length front) = record { none = λ k l. ap (is_value_of name) (get_or_append_left front (first ∷ others) [] k l) ∙ none k l } in
    lead_at (front ++ first ∷ others) name (length front) before (omega (arith, length-append front (first ∷ others))) (ap (is_value_of name) (get_or-append_seam front first others []) ∙ has)

-- what the new cards say is what the keyword says
new_says : (front new after : List (List ℕ)) (name : List ℕ) (value : Value) (comment : Option (List ℕ)) → ((k : ℕ) → k < length front → is_value_of name (get_or front k []) ≡ false) → length name ≡ 8 → is_settable name ≡ true → write_says name value comment ≡ Some new
    → keyword_value (front ++ (new ++ after)) name ≡ Ok (value, comment)
new_says front new after name value comment none size settable says =
    let begins = begins_value name value comment size (settable_valued name settable) in
    let is : new ≡ begins.first ∷ begins.others = sym (says_parts name value comment new says).1 ∙ begins.is in
    let lead : Some (length front + 1) ≡ lead_place (front ++ (new ++ after)) name =
    lead_new front (begins.others ++ after) begins.first name none begins.has ∙ ap (λ (cards : List (List ℕ)). lead_place (front ++ (cards ++ after)) name) (sym is) in
    let at : cards_from (front ++ (new ++ after)) (length front + 1) ≡ new ++ after = ap (λ n. drop n (front ++ (new ++ after))) (back (length front)) ∙ drop-append_seam front (new ++ after) in
    lead_says (front ++ (new ++ after)) name (length front + 1) (value, comment) lead (sym (written_said (front ++ (new ++ after)) new after (length front + 1) name value comment size settable says at))
  where
    back : (n : ℕ) → n + 1 - 1 ≡ n
    back n = omega arith

-- so it is among cards of which so many stand before the new ones
placed_says : (cards new after : List (List ℕ)) (name : List ℕ) (value : Value) (comment : Option (List ℕ)) (m : ℕ) → m ≤ length cards → ((k : ℕ) → k < m → is_value_of name (get_or cards k []) ≡ false) → length name ≡ 8 → is_settable name ≡ true → write_says name value comment ≡ Some new
    → keyword_value (take m cards ++ (new ++ after)) name ≡ Ok (value, comment)
placed_says cards new after name value comment m within none size settable says =
    let long : length (take m cards) ≡ m = length-take-le m cards within in
    new_says (take m cards) new after name value comment (λ k l. let low : k < m = omega (arith, l, long) in ap (is_value_of name) (get_or-take m cards k [] low) ∙ none k low) size settable says

-- whether it had a lead or not
replaced_says : (cards new : List (List ℕ)) (name : List ℕ) (value : Value) (comment : Option (List ℕ)) (lead : Option ℕ) → lead_place cards name ≡ lead → length name ≡ 8 → is_settable name ≡ true → write_says name value comment ≡ Some new
    → keyword_value (cards_after cards (replacing (length cards) (keyword_cards cards name) new)) name ≡ Ok (value, comment)
unfolding cards_after
replaced_says cards new name value comment None e size settable says =
    rw (keyword_nowhere cards name (sym e)) (placed_says cards new (drop (length cards + 1 - 1 + 0) cards) name value comment (length cards + 1 - 1) (omega arith) (λ k l. nowhere cards name k e (omega arith)) size settable says)
replaced_says cards new name value comment (Some place) e size settable says =
    let at = keyword_at cards name place (sym e) in
    rw at (placed_says cards new (drop (place - 1 + (with_links cards place).count) cards) name value comment (place - 1) (omega (arith, lead_to cards name place (sym e))) (λ k l. before_place cards name place k e l) size settable says)

-- a keyword that was set says its value and comment
set_says : (cards : List (List ℕ)) (name : List ℕ) (value : Value) (comment : Option (List ℕ)) (written : Option (List (List ℕ))) (change : Change) → length name ≡ 8 → is_settable name ≡ true → write_says name value comment ≡ written → setting (length cards) (keyword_cards cards name) written ≡ Ok change
    → keyword_value (cards_after cards change) name ≡ Ok (value, comment)
set_says cards name value comment None change size settable says e = cc
set_says cards name value comment (Some new) change size settable says e =
    let same : replacing (length cards) (keyword_cards cards name) new ≡ change = cc in
    subst (λ (ch : Change). keyword_value (cards_after cards ch) name ≡ Ok (value, comment)) same (replaced_says cards new name value comment (lead_place cards name) refl size settable says)

-- a keyword that was set says what it was set to
pub set_reads_back : (cards : List (List ℕ)) (name : List ℕ) (value : Value) (comment : Option (List ℕ)) (change : Change) → length name ≡ 8 → set_of cards name value comment ≡ Ok change → keyword_value (cards_after cards change) name ≡ Ok (value, comment)
unfolding set_of
set_reads_back cards name value comment change size e =
    let p = set_if (is_settable name) (setting (length cards) (keyword_cards cards name) (write_says name value comment)) change e in
    set_says cards name value comment (write_says name value comment) change size p.0 refl p.1
