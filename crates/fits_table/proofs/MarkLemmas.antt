-- Marks of numbers.
use Rattle.std.proofs.Common.{◌≡◌, ℕ, ◌+◌, ◌-◌, ◌<◌, ◌%◌, Bool, true, false, List, [], ◌∷◌, length, take, get_or, replicate, set, Option, None, Some, inl, inr, refl, ap, sym, ◌∙◌, arith}
use Rattle.std.specs.Prelude.{◌&&◌}
use Rattle.std.specs.List.{find, list_all}
use Rattle.std.specs.Str.{bytes_eq}
use Rattle.std.proofs.lemmas.Bool.{and_parts, cases_Bool, cases_lt, cond-false}
use Rattle.std.proofs.lemmas.List.{get_or-replicate, get_or-set_same, get_or-set_other}
use Rattle.std.proofs.lemmas.List.Folds.{list_all_more}
use Rattle.std.proofs.lemmas.Slice.Eq.{bytes_eq-Decides}
use Rattle.fits_card.specs.Card.{has_value, keyword_name}
use Rattle.fits_rules.proofs.LeadCardLemmas.{lead_card-find}
use Rattle.fits_rules.specs.Lead.{is_value_of, lead_card}
use Rattle.fits_table.specs.declared.marks.TheConstants.{MARK_COUNT}
use Rattle.fits_table.specs.Marks.{is_card_marked, is_marked, is_name_marked, root_number}

-- at first none has one
pub new_mark : (number : ℕ) → get_or (replicate MARK_COUNT false) (number % MARK_COUNT) false ≡ false
new_mark number = get_or-replicate MARK_COUNT (number % MARK_COUNT) false false (omega arith)

pub ruleset new_steps = (new_mark)

-- what is marked has one
pub mark_there : (marks : List Bool) (place : ℕ) → place < length marks → get_or (set marks place true) place false ≡ true
mark_there marks place within = get_or-set_same marks place true false within

-- and what had one has it
pub mark_kept : (marks : List Bool) (place other : ℕ) → place < length marks → get_or marks other false ≡ true → get_or (set marks place true) other false ≡ true
mark_kept marks place other within had = elim (cases_lt other place) [
  | inl less ↦ get_or-set_other marks place other true false (λ e. omega (arith, less, e)) ∙ had
  | inr from ↦ elim (cases_lt place other) [
    | inl less ↦ get_or-set_other marks place other true false (λ e. omega (arith, less, e)) ∙ had
    | inr to ↦
        let same : place ≡ other = omega (arith, from, to) in
        ap (λ j. get_or (set marks place true) j false) (sym same) ∙ mark_there marks place within
  ]
]

pub ruleset add_steps = (mark_there, mark_kept)

-- all that passed one test pass another
all_kept : {X : Type 0} (p q : X → Bool) (xs : List X) → ((x : X) → p x ≡ true → q x ≡ true) → list_all p xs ≡ true → list_all q xs ≡ true
all_kept p q [] kept all = refl
all_kept p q (x ∷ xs) kept all =
    let both = and_parts (p x) (list_all p xs) all in
    ap (λ b. b && list_all q xs) (kept x both.0) ∙ all_kept p q xs kept both.1

-- and one more does
pub all_step : {X : Type 0} (p q : X → Bool) (xs : List X) (i : ℕ) (x : X) → i < length xs → x ≡ get_or xs i x → list_all p (take i xs) ≡ true → ((y : X) → p y ≡ true → q y ≡ true) → q x ≡ true
    → list_all q (take (i + 1) xs) ≡ true
all_step p q xs i x within is all kept here =
    list_all_more q xs i x within
    ∙ (ap (λ b. b && q (get_or xs i x)) (all_kept p q (take i xs) kept all) ∙ (ap q (sym is) ∙ here))

-- a name that was marked is marked
pub name_kept : (old new : List Bool) → ((number : ℕ) → is_marked old number ≡ true → is_marked new number ≡ true) → (name : Option (List ℕ)) → is_name_marked old name ≡ true → is_name_marked new name ≡ true
name_kept old new kept None had = refl
name_kept old new kept (Some text) had = kept _ had

-- a card more is marked
pub card_step : (cards : List (List ℕ)) (i : ℕ) (card : List ℕ) (old new : List Bool) → i < length cards → card ≡ get_or cards (i + 1 - 1) card → list_all (is_card_marked old) (take i cards) ≡ true
    → ((number : ℕ) → is_marked old number ≡ true → is_marked new number ≡ true) → is_marked new (root_number (keyword_name card)) ≡ true → list_all (is_card_marked new) (take (i + 1) cards) ≡ true
card_step cards i card old new within is all kept here =
    let place : i + 1 - 1 ≡ i = omega arith in
    all_step (is_card_marked old) (is_card_marked new) cards i card within (is ∙ ap (λ j. get_or cards j card) place) all (λ it. kept (root_number (keyword_name it))) here

-- a card of another number has another name
other_name : (marks : List Bool) (name card : List ℕ) → is_card_marked marks card ≡ true → is_marked marks (root_number name) ≡ false → is_value_of name card ≡ false
unfolding is_value_of
other_name marks name card marked fails = elim (cases_Bool (bytes_eq (keyword_name card) name)) [
  | inl same ↦
      let is : keyword_name card ≡ name = (bytes_eq-Decides (keyword_name card) name).0 same in
      let clash : true ≡ false = sym marked ∙ (ap (λ it. is_marked marks (root_number it)) is ∙ fails) in
      cc
  | inr other ↦ ap (λ b. b && has_value card) other
]

-- so none of the cards has the name
none_named : (marks : List Bool) (cards : List (List ℕ)) (name : List ℕ) → list_all (is_card_marked marks) cards ≡ true → is_marked marks (root_number name) ≡ false → find (is_value_of name) cards ≡ None
none_named marks [] name all fails = refl
none_named marks (card ∷ cards) name all fails =
    let both = and_parts (is_card_marked marks card) (list_all (is_card_marked marks) cards) all in
    cond-false (is_value_of name card) (Some card) (find (is_value_of name) cards) (other_name marks name card both.0 fails)
    ∙ none_named marks cards name both.1 fails

-- a name whose number isn't marked has no lead
pub no_lead : (marks : List Bool) (cards : List (List ℕ)) (name : List ℕ) (number : ℕ) → number ≡ root_number name → list_all (is_card_marked marks) cards ≡ true → is_marked marks number ≡ false → None ≡ lead_card cards name
no_lead marks cards name number is all fails =
    sym (lead_card-find cards name ∙ none_named marks cards name all (ap (is_marked marks) (sym is) ∙ fails))

pub ruleset lead_steps = (no_lead)
