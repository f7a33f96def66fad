-- Names that earlier cards have.
use Rattle.std.proofs.Common.{◌≡◌, ℕ, zero, suc, ◌+◌, ◌-◌, ◌<◌, ◌≤◌, ◌==◌, ◌&&◌, ◌||◌, nat_lt, Bool, true, false, List, [], ◌∷◌, length, take, drop, get_or, set, ap, sym, ◌∙◌, refl, subst, arith, take-append-drop, length-drop, length-set, inl, inr}
use Rattle.std.specs.List.{All, AllPairs, list_any}
use Rattle.std.proofs.lemmas.Bool.{eqb-true, cases_eq, cases_lt, or_cases, or_right, and_parts}
use Rattle.std.proofs.lemmas.Bool.Decides.{nat_tests}
use Rattle.std.proofs.lemmas.List.{get_or-take, get_or-drop, get_or-set_same, get_or-set_other, get_or_default, take_all, length-take-le}
use Rattle.std.proofs.lemmas.List.Folds.{list_any-append, list_any_none, list_any_more}
use Rattle.std.proofs.lemmas.List.Kept.{AllPairs-filter}
use Rattle.fits_codes.specs.declared.surrounding.Surrounding.{Surrounding}
use Rattle.fits_header.specs.declared.entry.Entry.{Entry}
use Rattle.fits_header.specs.declared.seen.Seen.{Seen}
use Rattle.fits_card.specs.Card.{keyword_name, has_value}
use Rattle.fits_header.specs.Findings.{card_of}
use Rattle.fits_header.specs.Index.{IsSortedIndex, IsInOrder, IsIndexOf, is_named, entry_of, entries_from}
use Rattle.fits_header.specs.Names.{name_number}
use Rattle.fits_header.specs.Repeats.{marked_by, seen_at, seen_with}
use Rattle.fits_header.proofs.EntriesLemmas.{entries-high}
use Rattle.fits_header.proofs.OpenLemmas.{pairs_by_name, entries-rise}
use Rattle.fits_header.proofs.PlaceLemmas.{IsOfName, any_of_index, any_place, index-entries, named_own}

-- the card has the name of this number
abbrev pub has_number : ℕ → List ℕ → Bool
has_number number card = name_number (keyword_name card) == number

-- it has a value too
abbrev pub has_number_value : ℕ → List ℕ → Bool
has_number_value number card = has_number number card && has_value card

-- the number of the name of the card at a place
abbrev pub number_at : List (List ℕ) → ℕ → ℕ
number_at cards place = name_number (keyword_name (card_of cards place))

-- what is marked at a place: whether cards before it have its name, and a value
abbrev pub marked_at : List (List ℕ) → ℕ → Surrounding → Surrounding
marked_at cards place surrounding = record {
  name_before = list_any (has_number (number_at cards place)) (take (place - 1) cards);
  value_before = list_any (has_number_value (number_at cards place)) (take (place - 1) cards);
  is_link = surrounding.is_link;
}

-- the entry has this name and a value
abbrev pub has_named_value : ℕ → Entry → Bool
has_named_value name entry = (entry.name == name) && entry.has_value

-- tests that agree on all of a list
pub list_any_same : {X : Type 0} (p q : X → Bool) (xs : List X) → All (λ x. p x ≡ q x) xs → list_any p xs ≡ list_any q xs
list_any_same p q [] h = refl
list_any_same p q (x ∷ xs) h = rw (h 0 x (omega arith), list_any_same p q xs (λ k d l. h (suc k) d (omega arith))) refl

-- a second test that the first one brings
with_other : (b c : Bool) → (b ≡ true → c ≡ true) → (b && c) ≡ b
with_other true c h = h refl
with_other false c h = refl

-- one that it rules out
without_other : (b c : Bool) → (b ≡ true → c ≡ false) → (b && c) ≡ false
without_other true c h = h refl
without_other false c h = refl

-- of one name the places rise
abbrev pub AreRising : List Entry → Type 0
AreRising es = AllPairs (λ (a b : Entry). a.name ≡ b.name → a.place < b.place) es

-- those of an index do
pub index-rises : (es : List Entry) (cards : List (List ℕ)) → IsIndexOf es cards → AreRising es
index-rises es cards index =
    pairs_by_name es (λ name. rw (index.same name) (AllPairs-filter (λ (a b : Entry). a.place < b.place) (is_named name) (entries_from 1 cards) (entries-rise 1 cards)))

-- of an entry's name, those before it are those of lower places
any_before : (t : Entry → Bool) (es : List Entry) (i : ℕ) (d : Entry) → i < length es → IsOfName (get_or es i d).name t → AreRising es
    → list_any t (take i es) ≡ list_any (λ x. t x && nat_lt x.place (get_or es i d).place) es
any_before t es i d within own rising =
    let e : Entry = get_or es i d in
    let u : Entry → Bool = λ x. t x && nat_lt x.place e.place in
    let low : All (λ x. t x ≡ u x) (take i es) = λ k c l.
    let at : k < i = omega (arith, length-take-le i es (omega arith)) in
    rw (get_or-take i es k c at)
    (sym (with_other (t (get_or es k c)) (nat_lt (get_or es k c).place e.place)
    (λ h. lower_place (get_or es k c) e (subst (λ (x : Entry). (get_or es k c).name ≡ x.name → (get_or es k c).place < x.place) (same_item es i c d within) (rising k i c at within) (own (get_or es k c) h))))) in
    let high : All (λ x. u x ≡ false) (drop i es) = λ k c l.
    rw (get_or-drop i es k c)
    (without_other (t (get_or es (i + k) c)) (nat_lt (get_or es (i + k) c).place e.place)
    (λ h. behind k c (omega (arith, length-drop i es)) (own (get_or es (i + k) c) h))) in
    list_any_same t u (take i es) low
    ∙ (sym (or_none (list_any u (take i es)) (list_any u (drop i es)) (list_any_none u (drop i es) high))
    ∙ (sym (list_any-append u (take i es) (drop i es)) ∙ ap (list_any u) (take-append-drop i es)))
  where
    same_item : (xs : List Entry) (j : ℕ) (a b : Entry) → j < length xs → get_or xs j a ≡ get_or xs j b
    same_item [] j a b l = absurd (omega arith)
    same_item (x ∷ xs) zero a b l = refl
    same_item (x ∷ xs) (suc j) a b l = same_item xs j a b (omega arith)

    lower_place : (a b : Entry) → a.place < b.place → nat_lt a.place b.place ≡ true
    lower_place a b h = grind (arith, nat_tests)

    not_lower : (a b : Entry) → b.place ≤ a.place → nat_lt a.place b.place ≡ false
    not_lower a b h = grind (arith, nat_tests)

    or_none : (a b : Bool) → b ≡ false → (a || b) ≡ a
    or_none true b h = refl
    or_none false b h = h

    behind : (k : ℕ) (c : Entry) → i + k < length es → (get_or es (i + k) c).name ≡ (get_or es i d).name → nat_lt (get_or es (i + k) c).place (get_or es i d).place ≡ false
    behind zero c l same = not_lower (get_or es (i + 0) c) (get_or es i d) (rw (same_place c) (omega arith))
      where
        same_place : (c : Entry) → (get_or es (i + 0) c).place ≡ (get_or es i d).place
        same_place c = ap (λ j. (get_or es j c).place) {x = i + 0} {y = i} (omega arith) ∙ ap (λ (x : Entry). x.place) (same_item es i c d within)
    behind (suc k) c l same =
        let up : (get_or es i c).place < (get_or es (i + suc k) c).place = rising i (i + suc k) c (omega arith) l (ap (λ (x : Entry). x.name) (same_item es i c d within) ∙ sym same) in
        not_lower (get_or es (i + suc k) c) (get_or es i d) (omega (arith, up, ap (λ (x : Entry). x.place) (same_item es i c d within)))

-- of the entries of cards, those of lower places are the first ones
any_below : (t : Entry → Bool) (u : List ℕ → Bool) → ((card : List ℕ) (p : ℕ) → t (entry_of card p) ≡ u card) → (start n place : ℕ) (cards : List (List ℕ)) → start + n ≡ place
    → list_any (λ x. t x && nat_lt x.place place) (entries_from start cards) ≡ list_any u (take n cards)
any_below t u same start zero place cards h =
    list_any_none (λ x. t x && nat_lt x.place place) (entries_from start cards)
    (λ k d l. past (t (get_or (entries_from start cards) k d)) (get_or (entries_from start cards) k d) (omega (arith, entries-high start start cards (omega arith) k d l)))
  where
    past : (b : Bool) (x : Entry) → place ≤ x.place → (b && nat_lt x.place place) ≡ false
    past true x g = grind (arith, nat_tests)
    past false x g = refl
any_below t u same start (suc n) place [] h = refl
any_below t u same start (suc n) place (card ∷ cards) h =
    let low : nat_lt start place ≡ true = grind (arith, nat_tests) in
    let here : (t (entry_of card start) && nat_lt start place) ≡ u card = rw low (and_true (t (entry_of card start)) ∙ same card start) in
    rw (here, any_below t u same (start + 1) n place cards (omega arith)) refl
  where
    and_true : (b : Bool) → (b && true) ≡ b
    and_true true = refl
    and_true false = refl

-- so those before an entry in the index are those before its card
any_at : (es : List Entry) (cards : List (List ℕ)) (i : ℕ) (d : Entry) (t : Entry → Bool) (u : List ℕ → Bool) → IsIndexOf es cards → i < length es → 1 ≤ (get_or es i d).place
    → IsOfName (get_or es i d).name t → ((card : List ℕ) (p : ℕ) → t (entry_of card p) ≡ u card) → list_any t (take i es) ≡ list_any u (take ((get_or es i d).place - 1) cards)
any_at es cards i d t u index within from own same =
    let place = (get_or es i d).place in
    any_before t es i d within own (index-rises es cards index)
    ∙ (any_of_index es cards (get_or es i d).name (λ x. t x && nat_lt x.place place) index (λ x h. own x (and_parts (t x) (nat_lt x.place place) h).0)
    ∙ any_below t u same 1 (place - 1) place cards (omega arith))

-- and its name with a value
valued_own : (name : ℕ) → IsOfName name (has_named_value name)
valued_own name x h = named_own name x (and_parts (is_named name x) x.has_value h).0

-- what was seen of the last name, once so many entries were
pub record AreSeen (es : List Entry) (i : ℕ) (seen : Seen) : Type 0 where
  pub card : seen.has_card ≡ list_any (is_named seen.name) (take i es)
  pub value : seen.has_value ≡ list_any (has_named_value seen.name) (take i es)
  pub past : (j : ℕ) (d : Entry) → j < i → (get_or es j d).name ≤ seen.name
  pub ahead : (j : ℕ) (d : Entry) → i ≤ j → j < length es → seen.name ≤ (get_or es j d).name

-- what was seen of the name of the entry that comes
pub record IsSeenOf (es : List Entry) (i : ℕ) (name : ℕ) (here : Seen) : Type 0 where
  pub name_is : here.name ≡ name
  pub card : here.has_card ≡ list_any (is_named name) (take i es)
  pub value : here.has_value ≡ list_any (has_named_value name) (take i es)

-- a name that is higher than all before has no entry there
none_yet : (es : List Entry) (i name : ℕ) (t : Entry → Bool) → IsOfName name t → i ≤ length es → ((j : ℕ) (d : Entry) → j < i → (get_or es j d).name < name) → list_any t (take i es) ≡ false
none_yet es i name t own within low =
    list_any_none t (take i es) (λ k d l.
    let at : k < i = omega (arith, length-take-le i es within) in
    rw (get_or-take i es k d at) (not_own (t (get_or es k d)) (get_or es k d) (low k d at) (own (get_or es k d))))
  where
    not_own : (b : Bool) (x : Entry) → x.name < name → (b ≡ true → x.name ≡ name) → b ≡ false
    not_own true x l h = absurd (omega (arith, h refl))
    not_own false x l h = refl

-- the pass knows what was seen of that name
pub seen-here : (es : List Entry) (i : ℕ) (seen : Seen) (e : Entry) → AreSeen es i seen → i < length es → e ≡ get_or es i e → IsSeenOf es i e.name (seen_at seen e)
seen-here es i seen e so_far within is = elim (cases_eq seen.name e.name) [
  | inl same ↦
      let t : (seen.name == e.name) ≡ true = grind (arith, nat_tests) in
      rw t (record { name_is = same; card = so_far.card ∙ ap (λ n. list_any (is_named n) (take i es)) same; value = so_far.value ∙ ap (λ n. list_any (has_named_value n) (take i es)) same })
  | inr other ↦
      let t : (seen.name == e.name) ≡ false = grind (arith, nat_tests) in
      let up : seen.name ≤ e.name = subst (λ (x : Entry). seen.name ≤ x.name) (sym is) (so_far.ahead i e (omega arith) within) in
      let low : (j : ℕ) (d : Entry) → j < i → (get_or es j d).name < e.name = λ j d l. below (get_or es j d).name (so_far.past j d l) up other in
      rw t (record { name_is = refl; card = sym (none_yet es i e.name (is_named e.name) (named_own e.name) (omega arith) low); value = sym (none_yet es i e.name (has_named_value e.name) (valued_own e.name) (omega arith) low) })
]
  where
    below : (n : ℕ) → n ≤ seen.name → seen.name ≤ e.name → (seen.name ≡ e.name → ⊥) → n < e.name
    below n a b c = elim (cases_lt seen.name e.name) [ inl l ↦ omega arith | inr g ↦ absurd (c (omega arith)) ]

-- in order, the second name is no lower
names_in_order : (a b : Entry) → IsInOrder a b → a.name ≤ b.name
names_in_order a b h = elim (cases_lt b.name a.name) [ inl l ↦ absurd (contrary l h) | inr g ↦ g ]
  where
    contrary : b.name < a.name → IsInOrder a b → ⊥
    contrary l h = grind (arith, nat_tests)

-- one more is seen
pub seen-more : (es : List Entry) (i : ℕ) (here : Seen) (e : Entry) → IsSortedIndex es → IsSeenOf es i e.name here → i < length es → e ≡ get_or es i e → AreSeen es (i + 1) (seen_with here e)
seen-more es i here e sorted seen within is =
    let own : is_named e.name e ≡ true = grind (arith, nat_tests) in
    record {
      card = sym (ap (λ n. list_any (is_named n) (take (i + 1) es)) seen.name_is
          ∙ (list_any_more (is_named e.name) es i e within ∙ or_right (list_any (is_named e.name) (take i es)) (is_named e.name (get_or es i e)) (subst (λ (x : Entry). is_named e.name x ≡ true) is own)));
      value = ap (λ b. b || e.has_value) seen.value
          ∙ sym (ap (λ n. list_any (has_named_value n) (take (i + 1) es)) seen.name_is
          ∙ (list_any_more (has_named_value e.name) es i e within ∙ ap (λ b. list_any (has_named_value e.name) (take i es) || b) (ap (has_named_value e.name) (sym is) ∙ ap (λ b. b && e.has_value) own)));
      past = λ j d l. rw seen.name_is (last j d l);
      ahead = λ j d l g. rw seen.name_is (next j d l g);
    }
  where
    item : (d : Entry) → e ≡ get_or es i d
    item d = is ∙ same_item es i e d within
      where
        same_item : (xs : List Entry) (j : ℕ) (a b : Entry) → j < length xs → get_or xs j a ≡ get_or xs j b
        same_item [] j a b l = absurd (omega arith)
        same_item (x ∷ xs) zero a b l = refl
        same_item (x ∷ xs) (suc j) a b l = same_item xs j a b (omega arith)

    last : (j : ℕ) (d : Entry) → j < i + 1 → (get_or es j d).name ≤ e.name
    last j d l = elim (cases_lt j i) [
      | inl less ↦ rw (item d) (names_in_order (get_or es j d) (get_or es i d) (sorted j i d less within))
      | inr same ↦ rw (item d) (equal (get_or es j d).name (get_or es i d).name (ap (λ k. (get_or es k d).name) {x = j} {y = i} (omega arith)))
    ]
      where
        equal : (a b : ℕ) → a ≡ b → a ≤ b
        equal a b h = omega arith

    next : (j : ℕ) (d : Entry) → i + 1 ≤ j → j < length es → e.name ≤ (get_or es j d).name
    next j d l g = rw (item d) (names_in_order (get_or es i d) (get_or es j d) (sorted i j d (omega arith) g))

-- what is marked once so many entries were seen
pub record AreMarked (es : List Entry) (old new : List Surrounding) (i : ℕ) : Type 0 where
  pub len : length new ≡ length old
  pub links : (k : ℕ) (d : Surrounding) → (get_or new k d).is_link ≡ (get_or old k d).is_link
  pub marked : (cards : List (List ℕ)) → IsIndexOf es cards → (place : ℕ) (d : Surrounding) → 1 ≤ place → place ≤ length cards
      → list_any (λ (x : Entry). x.place == place) (take i es) ≡ true → get_or new (place - 1) d ≡ marked_at cards place (get_or old (place - 1) d)

-- what is written at an entry's place is right there
marked-here : (es : List Entry) (cards : List (List ℕ)) (i : ℕ) (here : Seen) (e : Entry) (x y : Surrounding) → IsIndexOf es cards → IsSeenOf es i e.name here → i < length es → e ≡ get_or es i e → 1 ≤ e.place
    → x.is_link ≡ y.is_link → marked_by here x ≡ marked_at cards e.place y
marked-here es cards i here e x y index seen within is one same =
    let name : e.name ≡ number_at cards e.place = ap (λ (f : Entry). f.name) (subst (λ (f : Entry). f ≡ entry_of (card_of cards f.place) f.place) (sym is) (index-entries es cards index i e within)) in
    let card : here.has_card ≡ list_any (has_number e.name) (take (e.place - 1) cards) =
    seen.card ∙ subst (λ (f : Entry). list_any (is_named f.name) (take i es) ≡ list_any (has_number f.name) (take (f.place - 1) cards)) (sym is)
    (any_at es cards i e (is_named (get_or es i e).name) (has_number (get_or es i e).name) index within (subst (λ (f : Entry). 1 ≤ f.place) is one) (named_own (get_or es i e).name) (λ k p. refl)) in
    let value : here.has_value ≡ list_any (has_number_value e.name) (take (e.place - 1) cards) =
    seen.value ∙ subst (λ (f : Entry). list_any (has_named_value f.name) (take i es) ≡ list_any (has_number_value f.name) (take (f.place - 1) cards)) (sym is)
    (any_at es cards i e (has_named_value (get_or es i e).name) (has_number_value (get_or es i e).name) index within (subst (λ (f : Entry). 1 ≤ f.place) is one) (valued_own (get_or es i e).name) (λ k p. refl)) in
    rw (card, value, same, name) refl

-- one more is marked
pub marked-more : (es : List Entry) (old new next : List Surrounding) (i : ℕ) (here : Seen) (e : Entry) → AreMarked es old new i → IsSeenOf es i e.name here → i < length es → e ≡ get_or es i e → 1 ≤ e.place → e.place ≤ length old
    → ((d : Surrounding) → next ≡ set new (e.place - 1) (marked_by here (get_or new (e.place - 1) d))) → AreMarked es old next (i + 1)
marked-more es old new next i here e so_far seen within is one fits written = record {
  len = ap length (written (record { name_before = false; value_before = false; is_link = false })) ∙ (length-set new (e.place - 1) _ ∙ so_far.len);
  links = λ k d. elim (cases_eq k (e.place - 1)) [
    | inl same ↦ subst (λ j. (get_or next j d).is_link ≡ (get_or old j d).is_link) (sym same) (ap (λ (x : Surrounding). x.is_link) (at_place d) ∙ so_far.links (e.place - 1) d)
    | inr other ↦ ap (λ (x : Surrounding). x.is_link) (elsewhere k d other) ∙ so_far.links k d
  ];
  marked = λ cards index place d low high any. elim (cases_eq e.place place) [
    | inl same ↦ subst (λ p. get_or next (p - 1) d ≡ marked_at cards p (get_or old (p - 1) d)) same
        (at_place d ∙ marked-here es cards i here e (get_or new (e.place - 1) d) (get_or old (e.place - 1) d) index seen within is one (so_far.links (e.place - 1) d))
    | inr other ↦ elsewhere (place - 1) d (λ h. other (omega (arith, h)))
        ∙ so_far.marked cards index place d low high (before place other any)
  ];
}
  where
    at_place : (d : Surrounding) → get_or next (e.place - 1) d ≡ marked_by here (get_or new (e.place - 1) d)
    at_place d = ap (λ xs. get_or xs (e.place - 1) d) (written d) ∙ get_or-set_same new (e.place - 1) (marked_by here (get_or new (e.place - 1) d)) d (omega (arith, so_far.len))

    elsewhere : (k : ℕ) (d : Surrounding) → (k ≡ e.place - 1 → ⊥) → get_or next k d ≡ get_or new k d
    elsewhere k d other = ap (λ xs. get_or xs k d) (written d) ∙ get_or-set_other new (e.place - 1) k (marked_by here (get_or new (e.place - 1) d)) d other

    before : (place : ℕ) → (e.place ≡ place → ⊥) → list_any (λ (x : Entry). x.place == place) (take (i + 1) es) ≡ true → list_any (λ (x : Entry). x.place == place) (take i es) ≡ true
    before place other any =
        elim (or_cases (list_any (λ (x : Entry). x.place == place) (take i es)) ((get_or es i e).place == place) (sym (list_any_more (λ (x : Entry). x.place == place) es i e within) ∙ any)) [
          | inl there ↦ there
          | inr here ↦ absurd (other (same_place (subst (λ (x : Entry). (x.place == place) ≡ true) (sym is) here)))
        ]
      where
        same_place : (e.place == place) ≡ true → e.place ≡ place
        same_place h = eqb-true e.place place h

-- in the end each place is
pub marked-all : (es : List Entry) (old new : List Surrounding) (i : ℕ) (cards : List (List ℕ)) (place : ℕ) (d : Surrounding) → AreMarked es old new i → length es ≤ i → IsIndexOf es cards → 1 ≤ place → place ≤ length cards
    → get_or new (place - 1) d ≡ marked_at cards place (get_or old (place - 1) d)
marked-all es old new i cards place d so_far done index one within =
    so_far.marked cards index place d one within (ap (list_any (λ (x : Entry). x.place == place)) (take_all i es done) ∙ any_place es cards place index one within)

-- a pass goes on
pub repeats-more : (es : List Entry) (old new next : List Surrounding) (i : ℕ) (seen here after : Seen) (d : Entry) → IsSortedIndex es → All (λ (x : Entry). 1 ≤ x.place) es → All (λ (x : Entry). x.place ≤ length old) es
    → AreSeen es i seen → AreMarked es old new i → i < length es → here ≡ seen_at seen (get_or es i d) → ((c : Surrounding) → next ≡ set new ((get_or es i d).place - 1) (marked_by here (get_or new ((get_or es i d).place - 1) c)))
    → after ≡ seen_with here (get_or es i d) → AreSeen es (i + 1) after × AreMarked es old next (i + 1)
repeats-more es old new next i seen here after d sorted from to so_far marked within here_is written after_is =
    let is : get_or es i d ≡ get_or es i (get_or es i d) = get_or_default es i d (get_or es i d) within in
    let own : IsSeenOf es i (get_or es i d).name here = subst (IsSeenOf es i (get_or es i d).name) (sym here_is) (seen-here es i seen (get_or es i d) so_far within is) in (
      subst (AreSeen es (i + 1)) (sym after_is) (seen-more es i here (get_or es i d) sorted own within is),
      marked-more es old new next i here (get_or es i d) marked own within is (from i d within) (to i d within) written,
    )
