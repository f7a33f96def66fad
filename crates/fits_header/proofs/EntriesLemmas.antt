-- The entries of cards in the order of their places.
use Rattle.std.proofs.Common.{◌≡◌, ℕ, ◌+◌, ◌-◌, ◌<◌, ◌≤◌, nat_lt, true, false, List, [], ◌∷◌, ◌++◌, length, take, drop, get_or, map, filter, ap, sym, ◌∙◌, refl, append_assoc, arith, length-append, length-take, length-drop}
use Rattle.std.specs.List.{All}
use Rattle.std.proofs.lemmas.Bool.Decides.{nat_tests}
use Rattle.std.proofs.lemmas.List.{take_more, length-take-le, take_all, map-append, take-append-drop, drop-drop}
use Rattle.std.proofs.lemmas.List.Elements.{All-nil, All-cons, All-tail, filter-append}
use Rattle.fits_header.specs.declared.entry.Entry.{Entry}
use Rattle.fits_header.specs.Index.{added, is_named, shifted, stays, entry_of, entries_from, AreSame}
use Rattle.fits_header.proofs.FilterLemmas.{filter_all, filter_none}
use Rattle.fits_header.proofs.IndexLemmas.{same-added, same-stay, same-shift}

-- the entries of cards one after another
pub entries-append : (p : ℕ) (xs ys : List (List ℕ)) → entries_from p (xs ++ ys) ≡ entries_from p xs ++ entries_from (p + length xs) ys
entries-append p [] ys = ap (λ k. entries_from k ys) {x = p} {y = p + length {A = List ℕ} []} (omega arith)
entries-append p (x ∷ xs) ys =
    ap (λ es. entry_of x p ∷ es) (entries-append (p + 1) xs ys ∙ ap (λ k. entries_from (p + 1) xs ++ entries_from k ys) {x = p + 1 + length xs} {y = p + length (x ∷ xs)} (omega arith))

-- entries of places before one
pub entries-low : (p q : ℕ) (xs : List (List ℕ)) → p + length xs ≤ q → All (λ (e : Entry). e.place < q) (entries_from p xs)
entries-low p q [] h = All-nil (λ (e : Entry). e.place < q)
entries-low p q (x ∷ xs) h = All-cons (λ (e : Entry). e.place < q) _ (entries_from (p + 1) xs) (omega arith) (entries-low (p + 1) q xs (omega arith))

-- entries of places from one on
pub entries-high : (p q : ℕ) (xs : List (List ℕ)) → q ≤ p → All (λ (e : Entry). q ≤ e.place) (entries_from p xs)
entries-high p q [] h = All-nil (λ (e : Entry). q ≤ e.place)
entries-high p q (x ∷ xs) h = All-cons (λ (e : Entry). q ≤ e.place) _ (entries_from (p + 1) xs) h (entries-high (p + 1) q xs (omega arith))

-- an entry before the change stays
shift_before : (place removed coming : ℕ) (e : Entry) → e.place < place → shifted place removed coming e ≡ e
shift_before place removed coming e h =
    let t : nat_lt e.place place ≡ true = grind (arith, nat_tests) in
    rw t refl

-- one behind it moves by the difference
shift_behind : (place removed coming q : ℕ) (x : List ℕ) (p : ℕ) → place ≤ p → removed ≤ p → q + removed ≡ p + coming → shifted place removed coming (entry_of x p) ≡ entry_of x q
shift_behind place removed coming q x p a b h =
    let t : nat_lt p place ≡ false = grind (arith, nat_tests) in
    let e : (p - removed) + coming ≡ q = omega arith in
    rw (t, e) refl

-- equal firsts and equal rests
cons_both : {X : Type 0} (x y : X) (xs ys : List X) → x ≡ y → xs ≡ ys → x ∷ xs ≡ y ∷ ys
cons_both x y xs ys e f = rw (e, f) refl

-- entries before the change stay
shifted_low : (place removed coming p : ℕ) (xs : List (List ℕ)) → p + length xs ≤ place → map (shifted place removed coming) (entries_from p xs) ≡ entries_from p xs
shifted_low place removed coming p [] h = refl
shifted_low place removed coming p (x ∷ xs) h =
    cons_both _ _ _ _ (shift_before place removed coming (entry_of x p) (omega arith)) (shifted_low place removed coming (p + 1) xs (omega arith))

-- those behind it move by the difference
shifted_high : (place removed coming p q : ℕ) (xs : List (List ℕ)) → place ≤ p → removed ≤ p → q + removed ≡ p + coming → map (shifted place removed coming) (entries_from p xs) ≡ entries_from q xs
shifted_high place removed coming p q [] a b h = refl
shifted_high place removed coming p q (x ∷ xs) a b h =
    cons_both _ _ _ _ (shift_behind place removed coming q x p a b h) (shifted_high place removed coming (p + 1) (q + 1) xs (omega arith) (omega arith) (omega arith))

-- what stands before is not taken out
stays_low : (place removed : ℕ) (e : Entry) → e.place < place → stays place removed e ≡ true
stays_low place removed e h = grind (arith, nat_tests)

-- nor what stands behind
stays_high : (place removed : ℕ) (e : Entry) → place + removed ≤ e.place → stays place removed e ≡ true
stays_high place removed e h = grind (arith, nat_tests)

-- what stands between is
goes : (place removed : ℕ) (e : Entry) → place ≤ e.place → e.place < place + removed → stays place removed e ≡ false
goes place removed e h g = grind (arith, nat_tests)

-- entries before a place are not shifted
shifted_none : (place removed coming : ℕ) (es : List Entry) → All (λ (e : Entry). e.place < place) es → map (shifted place removed coming) es ≡ es
shifted_none place removed coming [] h = refl
shifted_none place removed coming (e ∷ es) h =
    cons_both _ _ _ _ (shift_before place removed coming e (h 0 e (omega arith))) (shifted_none place removed coming es (All-tail (λ (x : Entry). x.place < place) e es h))

-- below a place that is past the last
past_last : (last place n : ℕ) → last < place → n ≤ last → n < place
past_last last place n h g = omega arith

-- where cards come after all others the entries are as before
pub way-free : (es : List Entry) (place removed coming : ℕ) → All (λ (e : Entry). e.place ≤ length es) es → length es < place → es ≡ map (shifted place removed coming) (filter (stays place removed) es)
way-free es place removed coming within h =
    let low : All (λ (e : Entry). e.place < place) es = λ k d l. past_last (length es) place _ h (within k d l) in
    let all : filter (stays place removed) es ≡ es = filter_all (stays place removed) es (λ k d l. stays_low place removed (get_or es k d) (low k d l)) in
    sym (ap (map (shifted place removed coming)) all ∙ shifted_none place removed coming es low)

-- the entries that are left once some went
pub entries-taken : (place removed coming : ℕ) (xs ys zs : List (List ℕ)) → length xs + 1 ≡ place → length ys ≡ removed
    → map (shifted place removed coming) (filter (stays place removed) (entries_from 1 (xs ++ (ys ++ zs)))) ≡ entries_from 1 xs ++ entries_from (place + coming) zs
entries-taken place removed coming xs ys zs h g =
    let front = entries_from 1 xs in
    let gone = entries_from place ys in
    let rest = entries_from (place + removed) zs in
    let keeps = filter (stays place removed) in
    let parts : entries_from 1 (xs ++ (ys ++ zs)) ≡ front ++ (gone ++ rest) =
    entries-append 1 xs (ys ++ zs) ∙ (ap (λ k. front ++ entries_from k (ys ++ zs)) {x = 1 + length xs} {y = place} (omega arith)
    ∙ (ap (λ es. front ++ es) (entries-append place ys zs) ∙ ap (λ k. front ++ (gone ++ entries_from k zs)) {x = place + length ys} {y = place + removed} (omega arith))) in
    let low : All (λ (e : Entry). e.place < place) front = entries-low 1 place xs (omega arith) in
    let gone_low : All (λ (e : Entry). e.place < place + removed) gone = entries-low place (place + removed) ys (omega arith) in
    let gone_high : All (λ (e : Entry). place ≤ e.place) gone = entries-high place place ys (omega arith) in
    let high : All (λ (e : Entry). place + removed ≤ e.place) rest = entries-high (place + removed) (place + removed) zs (omega arith) in
    let one : keeps front ≡ front = filter_all (stays place removed) front (λ k d l. stays_low place removed (get_or front k d) (low k d l)) in
    let two : keeps gone ≡ [] = filter_none (stays place removed) gone (λ k d l. goes place removed (get_or gone k d) (gone_high k d l) (gone_low k d l)) in
    let three : keeps rest ≡ rest = filter_all (stays place removed) rest (λ k d l. stays_high place removed (get_or rest k d) (high k d l)) in
    let kept : keeps (front ++ (gone ++ rest)) ≡ front ++ rest =
    filter-append (stays place removed) front (gone ++ rest) ∙ (ap (λ es. keeps front ++ es) (filter-append (stays place removed) gone rest) ∙ rw (one, two, three) refl) in
    ap (λ es. map (shifted place removed coming) (keeps es)) parts ∙ (ap (map (shifted place removed coming)) kept
    ∙ (map-append (shifted place removed coming) front rest
    ∙ rw (shifted_low place removed coming 1 xs (omega arith), shifted_high place removed coming (place + removed) (place + coming) zs (omega arith) (omega arith) (omega arith)) refl))

-- a part of a list, and the two round it
pub parts_of : {X : Type 0} (all : List X) (place removed : ℕ) → all ≡ take (place - 1) all ++ (take removed (drop (place - 1) all) ++ drop (place - 1 + removed) all)
parts_of all place removed =
    sym (take-append-drop (place - 1) all)
    ∙ ap (λ ys. take (place - 1) all ++ ys) (sym (take-append-drop removed (drop (place - 1) all)) ∙ ap (λ ys. take removed (drop (place - 1) all) ++ ys) (drop-drop removed (place - 1) all))

-- what is taken out
pub same-taken : (es : List Entry) (all : List (List ℕ)) (place removed coming : ℕ) → 1 ≤ place → place + removed ≤ length all + 1 → AreSame es (entries_from 1 all)
    → AreSame (map (shifted place removed coming) (filter (stays place removed) es)) (entries_from 1 (take (place - 1) all) ++ entries_from (place + coming) (drop (place - 1 + removed) all))
same-taken es all place removed coming one fits same =
    let kept = same-shift _ _ place removed coming (same-stay es (entries_from 1 all) place removed same) in
    let parts = ap (λ ms. map (shifted place removed coming) (filter (stays place removed) (entries_from 1 ms))) (parts_of all place removed) in
    let left = entries-taken place removed coming (take (place - 1) all) (take removed (drop (place - 1) all)) (drop (place - 1 + removed) all)
    (omega (arith, length-take-le (place - 1) all (omega arith))) (omega (arith, length-take removed (drop (place - 1) all), length-drop (place - 1) all)) in
    λ name. kept name ∙ ap (filter (is_named name)) (parts ∙ left)

-- a test of places before one
pub is_low : (p : ℕ) (e : Entry) → e.place < p → nat_lt e.place p ≡ true
is_low p e h = grind (arith, nat_tests)

-- and of places from it on
pub is_high : (p : ℕ) (e : Entry) → p ≤ e.place → nat_lt e.place p ≡ false
is_high p e h = grind (arith, nat_tests)

-- at most, in two steps
no_less : (a b c : ℕ) → a ≤ b → b ≤ c → a ≤ c
no_less a b c h g = omega arith

-- one more is put in
pub same-more : (es fs : List Entry) (place : ℕ) (xs zs cards : List (List ℕ)) (index : ℕ) (d : List ℕ) → length xs + 1 ≡ place → index < length cards
    → fs ≡ added es (entry_of (get_or cards index d) (place + index))
    → AreSame es (entries_from 1 (xs ++ take index cards) ++ entries_from (place + length cards) zs)
    → AreSame fs (entries_from 1 (xs ++ take (index + 1) cards) ++ entries_from (place + length cards) zs)
same-more es fs place xs zs cards index d size within is same =
    let card : List ℕ = get_or cards index d in
    let before = xs ++ take index cards in
    let e : Entry = entry_of card (place + index) in
    let rest = entries_from (place + length cards) zs in
    let long : length before + 1 ≡ place + index = omega (arith, length-append xs (take index cards), length-take-le index cards (omega arith)) in
    let low : All (λ (x : Entry). x.place < place + index) (entries_from 1 before) = entries-low 1 (place + index) before (omega arith) in
    let high : All (λ (x : Entry). place + length cards ≤ x.place) rest = entries-high (place + length cards) (place + length cards) zs (omega arith) in
    let more = same-added es (entries_from 1 before) rest e same (λ k d l. is_low (place + index) (get_or (entries_from 1 before) k d) (low k d l)) (λ k d l. is_high (place + index) (get_or rest k d) (no_less (place + index) (place + length cards) _ (omega arith) (high k d l))) in
    let one : entries_from 1 before ++ e ∷ [] ≡ entries_from 1 (before ++ card ∷ []) =
    sym (entries-append 1 before (card ∷ []) ∙ ap (λ p. entries_from 1 before ++ entry_of card p ∷ []) {x = 1 + length before} {y = place + index} (omega arith)) in
    let longer : before ++ card ∷ [] ≡ xs ++ take (index + 1) cards = append_assoc xs (take index cards) (card ∷ []) ∙ ap (λ ys. xs ++ ys) (sym (take_more cards index d within)) in
    let all : entries_from 1 before ++ e ∷ rest ≡ entries_from 1 (xs ++ take (index + 1) cards) ++ rest =
    sym (append_assoc (entries_from 1 before) (e ∷ []) rest) ∙ ap (λ es. es ++ rest) (one ∙ ap (entries_from 1) longer) in
    λ name. ap (filter (is_named name)) is ∙ (more name ∙ ap (filter (is_named name)) all)

-- all are
pub same-all : (place : ℕ) (xs zs cards : List (List ℕ)) → length xs + 1 ≡ place → entries_from 1 (xs ++ cards) ++ entries_from (place + length cards) zs ≡ entries_from 1 ((xs ++ cards) ++ zs)
same-all place xs zs cards size =
    ap (λ k. entries_from 1 (xs ++ cards) ++ entries_from k zs) {x = place + length cards} {y = 1 + length (xs ++ cards)} (omega (arith, length-append xs cards)) ∙ sym (entries-append 1 (xs ++ cards) zs)

-- once all new cards are in, the gap in the places is closed
pub same-done : (es : List Entry) (place : ℕ) (xs zs cards : List (List ℕ)) (index : ℕ) → length xs + 1 ≡ place → length cards ≤ index
    → AreSame es (entries_from 1 (xs ++ take index cards) ++ entries_from (place + length cards) zs) → AreSame es (entries_from 1 ((xs ++ cards) ++ zs))
same-done es place xs zs cards index size whole same name =
    same name ∙ ap (filter (is_named name)) (ap (λ ys. entries_from 1 (xs ++ ys) ++ entries_from (place + length cards) zs) (take_all index cards whole) ∙ same-all place xs zs cards size)
