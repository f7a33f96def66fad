-- The entry of a place, found by its name.
use Rattle.std.proofs.Common.{◌≡◌, ℕ, suc, ◌<◌, ◌≤◌, ◌+◌, ◌==◌, ◌⊎◌, inl, inr, Bool, true, false, not, List, [], ◌∷◌, ◌++◌, length, length-append, length-drop, length-take, take, drop, get_or, filter, ap, sym, refl, subst, ◌∙◌, arith}
use Rattle.std.specs.List.{All}
use Rattle.std.specs.Prelude.{remove}
use Rattle.std.proofs.lemmas.Bool.{cases_lt, cond-true, cond-false, true≢false}
use Rattle.std.proofs.lemmas.List.{drop_more, get_or_default, get_or-drop, get_or-take, length-take-le, take-append-drop, take_all}
use Rattle.std.proofs.lemmas.Bool.Decides.{nat_tests}
use Rattle.std.proofs.lemmas.List.Elements.{All-filter, filter-append, filter_passes}
use Rattle.std.proofs.lemmas.List.Filters.{length-filter_both}
use Rattle.std.proofs.lemmas.List.Folds.{Any-from_list_any}
use Rattle.fits_card.specs.Card.{keyword_name}
use Rattle.fits_header.specs.declared.entry.Entry.{Entry}
use Rattle.fits_header.specs.Findings.{card_of}
use Rattle.fits_header.specs.Index.{IsIndex, IsIndexOf, IsInOrder, IsNameAt, comes_before, stays}
use Rattle.fits_header.specs.Names.{name_number}
use Rattle.fits_header.proofs.ChangeLemmas.{one_goes}
use Rattle.fits_header.proofs.CountLemmas.{length-index}
use Rattle.fits_header.proofs.FilterLemmas.{filter_all}
use Rattle.fits_header.proofs.PlaceLemmas.{any_place, entry_found}

-- the entry of a card's place has its name
pub named_at : (es : List Entry) (cards : List (List ℕ)) (place name : ℕ) → IsIndexOf es cards → name ≡ name_number (keyword_name (card_of cards place)) → IsNameAt es place name
named_at es cards place name index is k d within at = ap (λ (e : Entry). e.name) (entry_found es cards place k d index within at) ∙ sym is

-- what comes before the name and place is of another place
before_stays : (name place : ℕ) (e : Entry) → (e.place ≡ place → e.name ≡ name) → comes_before name place e ≡ true → stays place 1 e ≡ true
before_stays name place e named before =
    elim (cases_lt e.place place) [
      | inl low ↦ grind (arith, nat_tests)
      | inr high ↦ elim (cases_lt place e.place) [
        | inl behind ↦ grind (arith, nat_tests)
        | inr here ↦ let own = named (omega arith) in grind (arith, nat_tests)
      ]
    ]

-- so all that stand before where it goes stay
found_front : (es : List Entry) (name place at : ℕ) → IsNameAt es place name → take at es ≡ filter (comes_before name place) es → filter (stays place 1) (take at es) ≡ take at es
found_front es name place at named front =
    let first = filter (comes_before name place) es in
    let own = All-filter (comes_before name place) (λ (e : Entry). e.place ≡ place → e.name ≡ name) es named in
    let all = filter_all (stays place 1) first (λ k d l. before_stays name place (get_or first k d) (own k d l) (filter_passes (comes_before name place) es k d l)) in
    ap (filter (stays place 1)) front ∙ (all ∙ sym front)

-- what has the place goes
goes_here : (place : ℕ) (e : Entry) → e.place ≡ place → stays place 1 e ≡ false
goes_here place e here = grind (arith, nat_tests)

-- between the name and place and an entry of them there is no other
same_place : (name place : ℕ) (a b : Entry) → comes_before name place a ≡ false → b.name ≡ name → b.place ≡ place → IsInOrder a b → a.place ≡ place
same_place name place a b behind own here order = grind (arith, nat_tests)

-- what is among the first ones comes before, what is among the others doesn't
at_front : (es : List Entry) (name place at k : ℕ) (d : Entry) → take at es ≡ filter (comes_before name place) es → k < at → k < length es → comes_before name place (get_or es k d) ≡ true
at_front es name place at k d front low within =
    let passes : All (λ e. comes_before name place e ≡ true) (take at es) = rw front (filter_passes (comes_before name place) es) in
    ap (comes_before name place) (sym (get_or-take at es k d low)) ∙ passes k d (omega (arith, length-take at es))

-- the same of the others
at_back : (es : List Entry) (name place at : ℕ) (d : Entry) → drop at es ≡ filter (λ e. not (comes_before name place e)) es → at < length es → comes_before name place (get_or es at d) ≡ false
at_back es name place at d back within =
    let fails : All (λ e. not (comes_before name place e) ≡ true) (drop at es) = rw back (filter_passes (λ e. not (comes_before name place e)) es) in
    let first : get_or (drop at es) 0 d ≡ get_or es at d = get_or-drop at es 0 d ∙ ap (λ (k : ℕ). get_or es k d) {x = at + 0} {y = at} (omega arith) in
    ap (comes_before name place) (sym first) ∙ failed (comes_before name place (get_or (drop at es) 0 d)) (fails 0 d (omega (arith, length-drop at es)))
  where
    failed : (b : Bool) → not b ≡ true → b ≡ false
    failed true h = absurd (cc)
    failed false h = refl

-- where as many pass a test as there are, all do
all_kept : {X : Type 0} (p : X → Bool) (xs : List X) → length (filter p xs) ≡ length xs → filter p xs ≡ xs
all_kept p [] same = refl
all_kept {X = X} p (x ∷ xs) same = go (λ size. all_kept p xs size) (p x) refl where
  go : (length (filter p xs) ≡ length xs → filter p xs ≡ xs) → (b : Bool) → p x ≡ b → filter p (x ∷ xs) ≡ x ∷ xs
  go rest true passes =
      let kept : filter p (x ∷ xs) ≡ x ∷ filter p xs = cond-true (p x) (x ∷ filter p xs) (filter p xs) passes in
      kept ∙ ap (λ (ys : List X). x ∷ ys) (rest (omega (arith, ap (λ (ys : List X). length ys) kept, same)))
  go rest false fails =
      let left : filter p (x ∷ xs) ≡ filter p xs = cond-false (p x) (x ∷ filter p xs) (filter p xs) fails in
      absurd (omega (arith, ap (λ (ys : List X). length ys) left, same, length-filter_both p (λ x. not (p x)) (λ x. refl) xs))

-- where one only goes, it is the first that does: all others stay
one_out : (place at : ℕ) (es : List Entry) (d : Entry) → at < length es → filter (stays place 1) (take at es) ≡ take at es → stays place 1 (get_or es at d) ≡ false
    → length (filter (stays place 1) es) + 1 ≡ length es
    → remove es at ≡ filter (stays place 1) es
one_out place at es d within front goes one =
    let p = stays place 1 in
    let rest = drop (at + 1) es in
    let parts : filter p es ≡ take at es ++ filter p rest =
    ap (filter p) (sym (take-append-drop at es))
    ∙ (filter-append p (take at es) (drop at es)
    ∙ (ap (λ (xs : List Entry). xs ++ filter p (drop at es)) front
    ∙ ap (λ (xs : List Entry). take at es ++ xs) (ap (filter p) (drop_more es at d within) ∙ cond-false (p (get_or es at d)) (get_or es at d ∷ filter p rest) (filter p rest) goes))) in
    let size : length (filter p rest) ≡ length rest =
    omega (arith, ap length parts, length-append (take at es) (filter p rest), length-take-le at es (omega arith), length-drop (at + 1) es, one) in
    let next : suc at ≡ at + 1 = omega arith in
    ap (λ (k : ℕ). take at es ++ drop k es) next ∙ (ap (λ (xs : List Entry). take at es ++ xs) (sym (all_kept p rest size)) ∙ sym parts)

-- it is there
one_there : (place at : ℕ) (es : List Entry) → filter (stays place 1) (take at es) ≡ take at es → length (filter (stays place 1) es) + 1 ≡ length es → at < length es
one_there place at es front one = go (cases_lt at (length es)) where
  go : (at < length es) ⊎ (length es ≤ at) → at < length es
  go (inl within) = within
  go (inr past) =
      let all = take_all at es past in
      absurd (omega (arith, ap (λ (xs : List Entry). length (filter (stays place 1) xs)) all, ap length front, ap length all, one))

-- the entry of a place stands at an index, and is the only one that goes
pub record IsThere (es : List Entry) (place at : ℕ) : Type 0 where
  pub within : at < length es
  pub here : (d : Entry) → (get_or es at d).place ≡ place
  pub others : remove es at ≡ filter (stays place 1) es

-- where the name and place go, the entry of the place is
at_place : (es : List Entry) (name place at : ℕ) (d : Entry) → IsIndex es → 1 ≤ place → place ≤ length es → IsNameAt es place name
    → take at es ≡ filter (comes_before name place) es → drop at es ≡ filter (λ e. not (comes_before name place e)) es → at < length es → (get_or es at d).place ≡ place
at_place es name place at d index one last named front back within =
    let some = Any-from_list_any (λ (x : Entry). x.place == place) es (any_place es index.cards place index.theirs one (omega (arith, length-index es index.cards index.theirs))) in
    let k = some.0 in
    let x = get_or es k d in
    let own : x.place ≡ place = ap (λ (e : Entry). e.place) (get_or_default es k d some.1 some.2 ∙ some.3) ∙ equal some.1 some.4 in
    let name_own : x.name ≡ name = named k d some.2 own in
    let not_before : comes_before name place x ≡ false = it_is name place x name_own own in
    elim (cases_lt k at) [
      | inl low ↦ absurd (true≢false (sym (at_front es name place at k d front low some.2) ∙ not_before))
      | inr high ↦ elim (cases_lt at k) [
        | inl less ↦ same_place name place (get_or es at d) x (at_back es name place at d back within) name_own own (index.theirs.sorted at k d less some.2)
        | inr same ↦ ap (λ (i : ℕ). (get_or es i d).place) {x = at} {y = k} (omega arith) ∙ own
      ]
    ]
  where
    equal : (e : Entry) → (e.place == place) ≡ true → e.place ≡ place
    equal e h = grind (arith, nat_tests)

    it_is : (n p : ℕ) (e : Entry) → e.name ≡ n → e.place ≡ p → comes_before n p e ≡ false
    it_is n p e a b = grind (arith, nat_tests)

-- so it is found by them
pub found : (es seen : List Entry) (name place at : ℕ) → IsIndex es → 1 ≤ place → place ≤ length es → IsNameAt es place name → seen ≡ es
    → take at seen ≡ filter (comes_before name place) seen → drop at seen ≡ filter (λ e. not (comes_before name place e)) seen → IsThere es place at
found es seen name place at index one last named same below from =
    let front = subst (λ (xs : List Entry). take at xs ≡ filter (comes_before name place) xs) same below in
    let back = subst (λ (xs : List Entry). drop at xs ≡ filter (λ e. not (comes_before name place e)) xs) same from in
    let first = found_front es name place at named front in
    let goes = one_goes es place one last index in
    let within : at < length es = one_there place at es first goes in
    let here : (d : Entry) → (get_or es at d).place ≡ place = λ d. at_place es name place at d index one last named front back within in
    let d : Entry = record { name = 0; place = 0; has_value = false } in
    record {
      within = within;
      here = here;
      others = one_out place at es d within first (goes_here place (get_or es at d) (here d)) goes;
    }
