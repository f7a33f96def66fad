-- Leads.
use Rattle.std.proofs.Common.{◌≡◌, ℕ, zero, suc, ◌+◌, ◌<◌, ◌≤◌, ◌==◌, true, false, not, List, [], ◌∷◌, ◌++◌, length, drop, get_or, slice_get, filter, ap, sym, ◌∙◌, refl, inl, inr, append-nil, append_assoc, arith, Some, None}
use Rattle.std.specs.List.{All, list_any}
use Rattle.std.proofs.lemmas.List.{drop_all}
use Rattle.std.proofs.Math.Seq.{drop-cons}
use Rattle.std.proofs.lemmas.Bool.{cases_lt}
use Rattle.std.proofs.lemmas.Bool.Decides.{nat_tests}
use Rattle.std.proofs.lemmas.List.Elements.{All-cons, filter_passes}
use Rattle.fits_header.specs.declared.entry.Entry.{Entry}
use Rattle.fits_header.specs.Index.{IsSortedIndex, IsInOrder, comes_before, from_place, is_named, first_value, places_in}
use Rattle.fits_header.proofs.FilterLemmas.{any-same, filter_all, filter-filter, filter_none}

-- what doesn't come before a place of a name has it or a higher one
at_least : (name place : ℕ) (e : Entry) → not (comes_before name place e) ≡ true → name ≤ e.name
at_least name place e h = grind (arith, nat_tests)

-- what comes before place 0 has a lower one
lower : (name : ℕ) (e : Entry) → is_named name e ≡ true → comes_before name 0 e ≡ false
lower name e h = grind (arith, nat_tests)

-- those from the name's place on
pub names_from : (name place : ℕ) (es : List Entry) → All (λ (e : Entry). name ≤ e.name) (from_place name place es)
names_from name place es k d l = at_least name place (get_or (from_place name place es) k d) (filter_passes (λ x. not (comes_before name place x)) es k d l)

-- no entry of a name stands before its place 0
pub named_from_first : (name : ℕ) (es : List Entry) → filter (is_named name) (from_place name 0 es) ≡ filter (is_named name) es
named_from_first name es =
    filter-filter (is_named name) (λ x. not (comes_before name 0 x)) es
    ∙ filter_all (λ x. not (comes_before name 0 x)) (filter (is_named name) es) (λ k d l. ap not (lower name (get_or (filter (is_named name) es) k d) (filter_passes (is_named name) es k d l)))

-- the rest of a sorted index is sorted
pub sorted-drop : (n : ℕ) (es : List Entry) → IsSortedIndex es → IsSortedIndex (drop n es)
sorted-drop zero es h = h
sorted-drop (suc n) [] h = h
sorted-drop (suc n) (e ∷ es) h = sorted-drop n es (λ i j d l m. h (suc i) (suc j) d (omega arith) (omega arith))

-- behind a greater name there is no entry of this one
greater : (name : ℕ) (a b : Entry) → name < a.name → IsInOrder a b → is_named name b ≡ false
greater name a b h order = grind (arith, nat_tests)

-- a higher name is another
not_this : (name : ℕ) (e : Entry) → name < e.name → is_named name e ≡ false
not_this name e h = grind (arith, nat_tests)

-- behind a higher name there is none
pub none_behind : (name : ℕ) (e : Entry) (es : List Entry) → IsSortedIndex (e ∷ es) → name < e.name → filter (is_named name) (e ∷ es) ≡ []
none_behind name e es sorted h =
    filter_none (is_named name) (e ∷ es)
    (All-cons (λ x. is_named name x ≡ false) e es (not_this name e h) (λ k d l. greater name e (get_or es k d) h (sorted 0 (suc k) d (omega arith) (omega arith))))

-- the first of them tells whether the name is there
pub any_first : (name : ℕ) (es : List Entry) (e : Entry) → IsSortedIndex es → All (λ (e : Entry). name ≤ e.name) es → slice_get es 0 ≡ Some e → (e.name == name) ≡ list_any (is_named name) es
any_first name [] e sorted high first = absurd (cc)
any_first name (x ∷ es) e sorted high first =
    let here : x ≡ e = cc in
    rw (← here) (elim (cases_lt name x.name) [
      | inl less ↦ not_this name x less ∙ any-same (is_named name) [] (x ∷ es) (sym (none_behind name x es sorted less))
      | inr most ↦ let own : is_named name x ≡ true = grind (arith, nat_tests, high 0 x (omega arith)) in rw own refl
    ])

-- and where there is none it isn't
pub any_none : (name : ℕ) (es : List Entry) → slice_get es 0 ≡ None → false ≡ list_any (is_named name) es
any_none name [] none = refl
any_none name (x ∷ es) none = absurd (cc)

-- at an entry of another name the search ends
pub lead-stop : (name i : ℕ) (d : Entry) (es : List Entry) → IsSortedIndex es → All (λ (e : Entry). name ≤ e.name) es → i < length es → ((get_or es i d).name ≡ name → ⊥) → first_value (filter (is_named name) (drop i es)) ≡ None
lead-stop name i d es sorted high within other =
    let e : Entry = get_or es i d in
    let parts : drop i es ≡ e ∷ drop (suc i) es = drop-cons es i d within in
    ap (λ xs. first_value (filter (is_named name) xs)) parts
    ∙ ap first_value (none_behind name e (drop (suc i) es) (rw parts at (sorted-drop i es sorted)) (omega (arith, high i d within)))

-- at one with a value it has found
pub lead-here : (name i : ℕ) (d : Entry) (es : List Entry) → i < length es → (get_or es i d).name ≡ name → (get_or es i d).has_value ≡ true → first_value (filter (is_named name) (drop i es)) ≡ Some (get_or es i d).place
lead-here name i d es within own value =
    let e : Entry = get_or es i d in
    let t : is_named name e ≡ true = grind (arith, nat_tests) in
    ap (λ xs. first_value (filter (is_named name) xs)) (drop-cons es i d within) ∙ rw (t, value) refl

-- else it goes on
pub lead-more : (name i : ℕ) (d : Entry) (es : List Entry) → i < length es → (get_or es i d).name ≡ name → (get_or es i d).has_value ≡ false → first_value (filter (is_named name) (drop (i + 1) es)) ≡ first_value (filter (is_named name) (drop i es))
lead-more name i d es within own value =
    let e : Entry = get_or es i d in
    let t : is_named name e ≡ true = grind (arith, nat_tests) in
    sym (ap (λ xs. first_value (filter (is_named name) xs)) (drop-cons es i d within) ∙ rw (t, value) (ap (λ k. first_value (filter (is_named name) (drop k es))) {x = suc i} {y = i + 1} (omega arith)))

-- past the end there is no lead
pub lead-end : (name i : ℕ) (es : List Entry) → length es ≤ i → first_value (filter (is_named name) (drop i es)) ≡ None
lead-end name i es h = ap (λ xs. first_value (filter (is_named name) xs)) (drop_all i es h)

pub ruleset lead_steps = (lead-stop, lead-here, lead-more, lead-end)

-- the places of a name: at another name there are no more
pub place-stop : (name i : ℕ) (d : Entry) (es : List Entry) (ps all : List ℕ) → IsSortedIndex es → All (λ (e : Entry). name ≤ e.name) es → i < length es → ((get_or es i d).name ≡ name → ⊥)
    → ps ++ places_in (filter (is_named name) (drop i es)) ≡ all → ps ≡ all
place-stop name i d es ps all sorted high within other so_far =
    let e : Entry = get_or es i d in
    let parts : drop i es ≡ e ∷ drop (suc i) es = drop-cons es i d within in
    let none : filter (is_named name) (drop i es) ≡ [] = ap (filter (is_named name)) parts ∙ none_behind name e (drop (suc i) es) (rw parts at (sorted-drop i es sorted)) (omega (arith, high i d within)) in
    sym (append-nil ps) ∙ (ap (λ xs. ps ++ places_in xs) (sym none) ∙ so_far)

-- past the end all places were found
pub place-end : (name i : ℕ) (es : List Entry) (ps all : List ℕ) → length es ≤ i → ps ++ places_in (filter (is_named name) (drop i es)) ≡ all → ps ≡ all
place-end name i es ps all h so_far = sym (append-nil ps) ∙ (ap (λ xs. ps ++ places_in (filter (is_named name) xs)) (sym (drop_all i es h)) ∙ so_far)

-- one more place is found
pub place-more : (name i : ℕ) (d : Entry) (es : List Entry) (ps all : List ℕ) → i < length es → (get_or es i d).name ≡ name
    → ps ++ places_in (filter (is_named name) (drop i es)) ≡ all → (ps ++ (get_or es i d).place ∷ []) ++ places_in (filter (is_named name) (drop (i + 1) es)) ≡ all
place-more name i d es ps all within own so_far =
    let e : Entry = get_or es i d in
    let t : is_named name e ≡ true = grind (arith, nat_tests) in
    let parts : filter (is_named name) (drop i es) ≡ e ∷ filter (is_named name) (drop (i + 1) es) =
    ap (filter (is_named name)) (drop-cons es i d within) ∙ rw t (ap (λ k. e ∷ filter (is_named name) (drop k es)) {x = suc i} {y = i + 1} (omega arith)) in
    append_assoc ps (e.place ∷ []) _ ∙ (ap (λ xs. ps ++ places_in xs) (sym parts) ∙ so_far)

pub ruleset place_steps = (place-stop, place-end, place-more)
