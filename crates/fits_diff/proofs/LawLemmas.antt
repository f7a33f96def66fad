-- No line is told of files that are one, and of others some are.
use Rattle.std.proofs.Common.{◌≡◌, ◌⊎◌, ℕ, suc, ◌+◌, ◌-◌, ◌≤◌, Bool, true, false, ◌&&◌, ◌||◌, List, [], ◌∷◌, ◌++◌, length, take, drop, get_or, refl, ap, sym, subst, ◌∙◌, arith, inl, inr}
use Rattle.std.specs.Prelude.{◌==◌, All, codes, nat_eq, if◌then◌else◌}
use Rattle.std.specs.Fmt.{decimal}
use Rattle.std.specs.List.{list_all}
use Rattle.std.specs.Str.{bytes_eq}
use Rattle.std.proofs.Common.{length-drop}
use Rattle.std.proofs.Math.Seq.{drop-cons}
use Rattle.std.proofs.lemmas.Bool.{cases_lt, false≢true}
use Rattle.std.proofs.lemmas.Bool.Decides.{Decides-eqb}
use Rattle.std.proofs.lemmas.List.{length-take-le, take_all}
use Rattle.std.proofs.lemmas.Slice.Eq.{bytes_eq-Decides}
use Rattle.fits_card.specs.Header.{fill_length, Header, is_fill_blank, IsHeader}
use Rattle.fits_passing.specs.File.{FileParts}
use Rattle.fits_passing.specs.Hdu.{HduParts, IsHdu}
use Rattle.fits_tell.specs.Numbered.{numbered}
use Rattle.fits_diff.specs.Differences.{common_len, data_text, end_text, have_one_end, hdu_text, lengths_line, tail_text, TellsFiles, TellsHdu, TellsHdus}
use Rattle.fits_diff.specs.Laws.{NothingIsToldOfOneFile}
use Rattle.fits_diff.specs.Matching.{AreMatched, IsNext, lines_before, lines_between, signed_line, unmatched_lines}
use Rattle.fits_diff.proofs.PassingLemmas.{common_cons, eq_apart, same_front}

-- a text of two is empty where both are
first_empty : {X : Type 0} (xs ys : List X) → xs ++ ys ≡ [] → xs ≡ []
first_empty [] ys e = refl
first_empty {X = X} (x ∷ xs) ys e = absurd (omega (arith, ap (λ (t : List X). length t) e))

-- nor is the second of two texts that make none
second_empty : {X : Type 0} (xs ys : List X) → xs ++ ys ≡ [] → ys ≡ []
second_empty [] ys e = e
second_empty {X = X} (x ∷ xs) ys e = absurd (omega (arith, ap (λ (t : List X). length t) e))

-- a text that begins isn't empty
begun : (x : ℕ) (xs ys : List ℕ) → (x ∷ xs) ++ ys ≡ [] → ⊥
begun x xs ys e = absurd (omega (arith, ap (λ (t : List ℕ). length t) e))

-- lines that are there have bytes
numbered-empty : {X : Type 0} (f : ℕ → X → List ℕ) (n : ℕ) (xs : List X) → ((k : ℕ) (x : X) → f k x ≡ [] → ⊥) → numbered f n xs ≡ [] → xs ≡ []
numbered-empty f n [] some e = refl
numbered-empty f n (x ∷ xs) some e = absurd (some n x (first_empty (f n x) (numbered f (n + 1) xs) e))

-- so does the line of a card
minus_some : (h k : ℕ) (card : List ℕ) → signed_line (codes "- ") h k card ≡ [] → ⊥
minus_some h k card e = absurd (omega (arith, ap (λ (t : List ℕ). length t) e))

-- nor is the line of a card of the second file
plus_some : (h k : ℕ) (card : List ℕ) → signed_line (codes "+ ") h k card ≡ [] → ⊥
plus_some h k card e = absurd (omega (arith, ap (λ (t : List ℕ). length t) e))

-- no more cards than none are before one that stands first
none_taken : (n : ℕ) (xs : List (List ℕ)) → n ≤ length xs → take n xs ≡ [] → n ≡ 0
none_taken n xs le e = omega (arith, length-take-le n xs le, ap (λ (t : List (List ℕ)). length t) e)

-- where cards have no line there are none
none_between : (h from to : ℕ) (cards : List (List ℕ)) → from ≤ to → to ≤ length cards → lines_between (codes "- ") h cards from to ≡ [] → to ≡ from
none_between h from to cards ordered within e =
    let size : length (drop from cards) ≡ length cards - from = length-drop from cards in
    let none : to - from ≡ 0 = none_taken (to - from) (drop from cards) (omega (arith, size, ordered, within)) (numbered-empty (signed_line (codes "- ") h) (from + 1) (take (to - from) (drop from cards)) (minus_some h) e) in
    omega (arith, none, ordered)

-- the same of cards of the second file
none_between_too : (h from to : ℕ) (cards : List (List ℕ)) → from ≤ to → to ≤ length cards → lines_between (codes "+ ") h cards from to ≡ [] → to ≡ from
none_between_too h from to cards ordered within e =
    let size : length (drop from cards) ≡ length cards - from = length-drop from cards in
    let none : to - from ≡ 0 = none_taken (to - from) (drop from cards) (omega (arith, size, ordered, within)) (numbered-empty (signed_line (codes "+ ") h) (from + 1) (take (to - from) (drop from cards)) (plus_some h) e) in
    omega (arith, none, ordered)

-- nothing in a list
no_items : {X : Type 0} (xs : List X) → length xs ≡ 0 → xs ≡ []
no_items [] e = refl
no_items (x ∷ xs) e = absurd (omega (arith, e))

-- past the last there is none
drop_past : {X : Type 0} (n : ℕ) (xs : List X) → length xs ≤ n → drop n xs ≡ []
drop_past n xs le = no_items (drop n xs) (omega (arith, length-drop n xs, le))

-- cards that aren't told of are the same
cards_same : (h : ℕ) (xs ys : List (List ℕ)) (i j : ℕ) (pairs : List (ℕ × ℕ)) → i ≤ length xs → j ≤ length ys → AreMatched xs ys i j pairs → unmatched_lines h xs ys i j pairs ≡ [] → drop i xs ≡ drop j ys
cards_same h xs ys i j [] l m p e =
    let none : length xs ≡ i = none_between h i (length xs) xs l (omega arith) (first_empty (lines_between (codes "- ") h xs i (length xs)) (lines_between (codes "+ ") h ys j (length ys)) e) in
    let none_other : length ys ≡ j = none_between_too h j (length ys) ys m (omega arith) (second_empty (lines_between (codes "- ") h xs i (length xs)) (lines_between (codes "+ ") h ys j (length ys)) e) in
    drop_past i xs (omega (arith, none)) ∙ sym (drop_past j ys (omega (arith, none_other)))
cards_same h xs ys i j (pair ∷ pairs) l m p e =
    let next : IsNext xs ys i j pair.0 pair.1 = p.0 in
    let before : List ℕ = lines_before h xs ys i j pair.0 pair.1 in
    let after : List ℕ = unmatched_lines h xs ys (pair.0 + 1) (pair.1 + 1) pairs in
    let front : before ≡ [] = first_empty before after e in
    let at : pair.0 ≡ i = none_between h i pair.0 xs next.from (omega (arith, next.within)) (first_empty (lines_between (codes "- ") h xs i pair.0) (lines_between (codes "+ ") h ys j pair.1) front) in
    let at_other : pair.1 ≡ j = none_between_too h j pair.1 ys next.from_other (omega (arith, next.within_other)) (second_empty (lines_between (codes "- ") h xs i pair.0) (lines_between (codes "+ ") h ys j pair.1) front) in
    let rest : drop (pair.0 + 1) xs ≡ drop (pair.1 + 1) ys = cards_same h xs ys (pair.0 + 1) (pair.1 + 1) pairs (omega (arith, next.within)) (omega (arith, next.within_other)) p.1 (second_empty before after e) in
    let one : pair.0 + 1 ≡ suc i = omega (arith, at) in
    let other : pair.1 + 1 ≡ suc j = omega (arith, at_other) in
    drop-cons xs i [] (omega (arith, next.within, at)) ∙ ap (λ k. get_or xs k [] ∷ drop (suc i) xs) (sym at) ∙ ap (λ c. c ∷ drop (suc i) xs) next.alike ∙ ap (λ k. get_or ys k [] ∷ drop (suc i) xs) at_other
    ∙ ap (λ t. get_or ys j [] ∷ t) (sym (ap (λ k. drop k xs) one) ∙ rest ∙ ap (λ k. drop k ys) other) ∙ sym (drop-cons ys j [] (omega (arith, next.within_other, at_other)))

-- the same cards aren't told of
cards_untold : (h : ℕ) (xs : List (List ℕ)) (i : ℕ) (pairs : List (ℕ × ℕ)) → i ≤ length xs → AreMatched xs xs i i pairs → unmatched_lines h xs xs i i pairs ≡ []
cards_untold h xs i [] l p = elim (cases_lt i (length xs)) [
  | inl less ↦ absurd (p i i (omega arith) (omega arith) less less (omega (arith, less)) refl)
  | inr past ↦
      let none : length xs - i ≡ 0 = omega (arith, past) in
      ap (λ k. numbered (signed_line (codes "- ") h) (i + 1) (take k (drop i xs)) ++ numbered (signed_line (codes "+ ") h) (i + 1) (take k (drop i xs))) none
]
cards_untold h xs i (pair ∷ pairs) l p =
    let next : IsNext xs xs i i pair.0 pair.1 = p.0 in
    let least : pair.0 + pair.1 ≤ i + i = elim (cases_lt (i + i) (pair.0 + pair.1)) [
      | inl less ↦ absurd (next.nearest i i (omega arith) (omega arith) (omega (arith, next.from, next.within)) (omega (arith, next.from, next.within)) less refl)
      | inr le ↦ le
    ] in
    let at : pair.0 ≡ i = omega (arith, least, next.from, next.from_other) in
    let at_other : pair.1 ≡ i = omega (arith, least, next.from, next.from_other) in
    let none : pair.0 - i ≡ 0 = omega (arith, at) in
    let none_other : pair.1 - i ≡ 0 = omega (arith, at_other) in
    let one : pair.0 + 1 ≡ i + 1 = omega (arith, at) in
    let other : pair.1 + 1 ≡ i + 1 = omega (arith, at_other) in
    let rest : unmatched_lines h xs xs (i + 1) (i + 1) pairs ≡ [] = cards_untold h xs (i + 1) pairs (omega (arith, next.within, at)) (subst (λ k. AreMatched xs xs (i + 1) k pairs) other (subst (λ k. AreMatched xs xs k (pair.1 + 1) pairs) one p.1)) in
    ap (λ k. (numbered (signed_line (codes "- ") h) (i + 1) (take k (drop i xs)) ++ lines_between (codes "+ ") h xs i pair.1) ++ unmatched_lines h xs xs (pair.0 + 1) (pair.1 + 1) pairs) none
    ∙ ap (λ k. numbered (signed_line (codes "+ ") h) (i + 1) (take k (drop i xs)) ++ unmatched_lines h xs xs (pair.0 + 1) (pair.1 + 1) pairs) none_other
    ∙ ap (λ k. unmatched_lines h xs xs k (pair.1 + 1) pairs) one ∙ ap (λ k. unmatched_lines h xs xs (i + 1) k pairs) other ∙ rest

-- where a choice is empty, and what it is else isn't, the test holds
chosen_so : (b : Bool) (x : ℕ) (xs : List ℕ) → (if b then [] else x ∷ xs) ≡ [] → b ≡ true
chosen_so true x xs e = refl
chosen_so false x xs e = absurd (omega (arith, ap (λ (t : List ℕ). length t) e))

-- both of two tests
both_true : (a b : Bool) → (a && b) ≡ true → (a ≡ true) × (b ≡ true)
both_true true b e = (refl, e)
both_true false b e = absurd (false≢true e)

-- one of two tests
one_true : (a b : Bool) → (a || b) ≡ true → (a ≡ true) ⊎ (b ≡ true)
one_true true b e = inl refl
one_true false b e = inr e

-- spaces, as many as others
spaces_same : (xs ys : List ℕ) → list_all (nat_eq 32) xs ≡ true → list_all (nat_eq 32) ys ≡ true → length xs ≡ length ys → xs ≡ ys
spaces_same [] [] p q e = refl
spaces_same [] (y ∷ ys) p q e = absurd (omega (arith, e))
spaces_same (x ∷ xs) [] p q e = absurd (omega (arith, e))
spaces_same (x ∷ xs) (y ∷ ys) p q e =
    let of_x = both_true (nat_eq 32 x) (list_all (nat_eq 32) xs) p in
    let of_y = both_true (nat_eq 32 y) (list_all (nat_eq 32) ys) q in
    let first : x ≡ y = sym ((Decides-eqb 32 x).0 of_x.0) ∙ (Decides-eqb 32 y).0 of_y.0 in
    ap (λ t. x ∷ t) (spaces_same xs ys of_x.1 of_y.1 (omega (arith, e))) ∙ ap (λ z. z ∷ ys) first

-- headers of the same cards whose ENDs aren't told of are the same
headers_same : (h : ℕ) (x y : Header) → IsHeader x → IsHeader y → x.cards ≡ y.cards → end_text h x y ≡ [] → x ≡ y
headers_same h x y p q cards e =
    let both = both_true (bytes_eq x.end y.end) ((is_fill_blank x && is_fill_blank y) || bytes_eq x.fill y.fill) (chosen_so (have_one_end x y) 104 (codes "du " ++ (decimal h ++ codes " END or the fill after it differs\n")) e) in
    let ends : x.end ≡ y.end = (bytes_eq-Decides x.end y.end).0 both.0 in
    let size : length x.fill ≡ length y.fill = p.fill_size ∙ ap (λ (t : List (List ℕ)). fill_length (length t)) cards ∙ sym q.fill_size in
    let fills : x.fill ≡ y.fill = elim (one_true (is_fill_blank x && is_fill_blank y) (bytes_eq x.fill y.fill) both.1) [
      | inl blank ↦ let of_both = both_true (is_fill_blank x) (is_fill_blank y) blank in spaces_same x.fill y.fill of_both.0 of_both.1 size
      | inr same ↦ (bytes_eq-Decides x.fill y.fill).0 same
    ] in
    ap (λ (t : List (List ℕ)). record { cards = t; end = x.end; fill = x.fill }) cards ∙ ap (λ (t : List ℕ). record { cards = y.cards; end = t; fill = x.fill }) ends ∙ ap (λ (t : List ℕ). record { cards = y.cards; end = y.end; fill = t }) fills

-- a test of a text with itself
eq_itself : (xs : List ℕ) → bytes_eq xs xs ≡ true
eq_itself xs = (bytes_eq-Decides xs xs).1 refl

-- a test that holds, and one more
and_or : (a b : Bool) → a ≡ true → b ≡ true → (c : Bool) → (a && (c || b)) ≡ true
and_or true true p q true = refl
and_or true true p q false = refl
and_or true false p q c = absurd (false≢true q)
and_or false b p q c = absurd (false≢true p)

-- of one header the END isn't told
end_untold : (h : ℕ) (x : Header) → end_text h x x ≡ []
end_untold h x = ap (λ (b : Bool). if b then [] else hdu_text h (codes " END or the fill after it differs\n")) (and_or (bytes_eq x.end x.end) (bytes_eq x.fill x.fill) (eq_itself x.end) (eq_itself x.fill) (is_fill_blank x && is_fill_blank x))

-- all bytes are alike
common_all : (xs : List ℕ) → common_len xs xs ≡ length xs
common_all [] = refl
common_all (x ∷ xs) = omega (arith, common_cons x x xs xs refl, common_all xs)

-- data of other lengths are told of
data_apart : (h : ℕ) (xs ys : List ℕ) → (length xs ≡ length ys → ⊥) → data_text h xs ys ≡ [] → ⊥
data_apart h xs ys apart e =
    let test : (length xs == length ys) ≡ false = eq_apart (length xs) (length ys) apart in
    let line : lengths_line h (length xs) (length ys) ≡ [] = rw test at e in
    absurd (omega (arith, ap (λ (t : List ℕ). length t) line))

-- data that aren't told of are the same
data_same : (h : ℕ) (xs ys : List ℕ) → data_text h xs ys ≡ [] → xs ≡ ys
data_same h xs ys e = elim (cases_lt (length xs) (length ys)) [
  | inl less ↦ absurd (data_apart h xs ys (λ same. absurd (omega (arith, same, less))) e)
  | inr le ↦ elim (cases_lt (length ys) (length xs)) [
    | inl less ↦ absurd (data_apart h xs ys (λ same. absurd (omega (arith, same, less))) e)
    | inr ge ↦
        let size : length xs ≡ length ys = omega (arith, le, ge) in
        let test : (length xs == length ys) ≡ true = (Decides-eqb (length xs) (length ys)).1 size in
        let inner : (if common_len xs ys == length xs then [] else 104 ∷ (codes "du " ++ (decimal h ++ (codes " data differ at byte " ++ (decimal (common_len xs ys) ++ codes "\n"))))) ≡ [] = rw test at e in
        let all : common_len xs ys ≡ length xs = (Decides-eqb (common_len xs ys) (length xs)).0 (chosen_so (common_len xs ys == length xs) 104 (codes "du " ++ (decimal h ++ (codes " data differ at byte " ++ (decimal (common_len xs ys) ++ codes "\n")))) inner) in
        sym (take_all (length xs) xs (omega arith)) ∙ same_front (length xs) xs ys (omega (arith, all)) ∙ take_all (length xs) ys (omega (arith, size))
  ]
]

-- the same data aren't told of
data_untold : (h : ℕ) (xs : List ℕ) → data_text h xs xs ≡ []
data_untold h xs =
    let outer : (length xs == length xs) ≡ true = (Decides-eqb (length xs) (length xs)).1 refl in
    let inner : (common_len xs xs == length xs) ≡ true = (Decides-eqb (common_len xs xs) (length xs)).1 (common_all xs) in
    rw (outer, inner) refl

-- an HDU that isn't told of is the same
hdu_same : (h : ℕ) (first other : Bool) (x y : HduParts) (text : List ℕ) → IsHdu first x → IsHdu other y → TellsHdu h x y text → text ≡ [] → x ≡ y
hdu_same h first other x y text p q told none =
    let lines : List ℕ = told.cards in
    let of_end : List ℕ = end_text h x.header y.header in
    let of_data : List ℕ = data_text h x.data_unit y.data_unit in
    let all : lines ++ (of_end ++ of_data) ≡ [] = sym told.is ∙ none in
    let rest : of_end ++ of_data ≡ [] = second_empty lines (of_end ++ of_data) all in
    let cards : x.header.cards ≡ y.header.cards =
    cards_same h x.header.cards y.header.cards 0 0 told.told.pairs (omega arith) (omega arith) told.told.matched (sym told.told.is ∙ first_empty lines (of_end ++ of_data) all) in
    let headers : x.header ≡ y.header = headers_same h x.header y.header p.header q.header cards (first_empty of_end of_data rest) in
    let units : x.data_unit ≡ y.data_unit = data_same h x.data_unit y.data_unit (second_empty of_end of_data rest) in
    ap (λ (t : Header). record { header = t; data_unit = x.data_unit }) headers ∙ ap (λ (t : List ℕ). record { header = y.header; data_unit = t }) units

-- one HDU isn't told of
hdu_untold : (h : ℕ) (x : HduParts) (text : List ℕ) → TellsHdu h x x text → text ≡ []
hdu_untold h x text told =
    let none : told.cards ≡ [] = told.told.is ∙ cards_untold h x.header.cards 0 told.told.pairs (omega arith) told.told.matched in
    told.is ∙ ap (λ t. t ++ (end_text h x.header x.header ++ data_text h x.data_unit x.data_unit)) none ∙ ap (λ t. t ++ data_text h x.data_unit x.data_unit) (end_untold h x.header) ∙ data_untold h x.data_unit

-- each is an HDU
abbrev Each : List HduParts → Type 0
Each [] = Unit {0}
Each (x ∷ xs) = ((first : Bool) × IsHdu first x) × Each xs

-- so of some that are extensions, or begin a file
each_of : (first : Bool) (xs : List HduParts) → All (IsHdu first) xs → Each xs
each_of first [] p = tt
each_of first (x ∷ xs) p = ((first, p 0 x (omega arith)), each_of first xs (λ k d l. p (suc k) d (omega (arith, l))))

-- so of a file
each_in : (xs : List HduParts) → All (IsHdu true) (take 1 xs) → All (IsHdu false) (drop 1 xs) → Each xs
each_in [] p q = tt
each_in (x ∷ xs) p q = ((true, p 0 x (omega arith)), each_of false xs q)

-- the line of an HDU that one has alone has bytes
alone_some : (label : List ℕ) (h k : ℕ) (x : HduParts) → hdu_text k (codes " only in " ++ (label ++ codes "\n")) ≡ [] → ⊥
alone_some label h k x e = absurd (omega (arith, ap (λ (t : List ℕ). length t) e))

-- HDUs that aren't told of are the same
hdus_same : (h : ℕ) (xs ys : List HduParts) (text : List ℕ) → Each xs → Each ys → TellsHdus h xs ys text → text ≡ [] → xs ≡ ys
hdus_same h [] ys text p q told none = sym (numbered-empty (λ n hdu. hdu_text n (codes " only in " ++ (codes "B" ++ codes "\n"))) h ys (alone_some (codes "B") h) (sym told ∙ none))
hdus_same h (x ∷ xs) [] text p q told none = numbered-empty (λ n hdu. hdu_text n (codes " only in " ++ (codes "A" ++ codes "\n"))) h (x ∷ xs) (alone_some (codes "A") h) (sym told ∙ none)
hdus_same h (x ∷ xs) (y ∷ ys) text p q told none =
    let all : told.0 ++ told.1 ≡ [] = sym told.2 ∙ none in
    let first : x ≡ y = hdu_same h p.0.0 q.0.0 x y told.0 p.0.1 q.0.1 told.3 (first_empty told.0 told.1 all) in
    let rest : xs ≡ ys = hdus_same (h + 1) xs ys told.1 p.1 q.1 told.4 (second_empty told.0 told.1 all) in
    ap (λ (t : HduParts). t ∷ xs) first ∙ ap (λ (t : List HduParts). y ∷ t) rest

-- HDUs of one file aren't told of
hdus_untold : (h : ℕ) (xs : List HduParts) (text : List ℕ) → TellsHdus h xs xs text → text ≡ []
hdus_untold h [] text told = told
hdus_untold h (x ∷ xs) text told = told.2 ∙ ap (λ t. t ++ told.1) (hdu_untold h x told.0 told.3) ∙ hdus_untold (h + 1) xs told.1 told.4

-- tails that aren't told of are the same
tail_same : (xs ys : List ℕ) → tail_text xs ys ≡ [] → xs ≡ ys
tail_same xs ys e = (bytes_eq-Decides xs ys).0 (chosen_so (bytes_eq xs ys) 98 (codes "ytes after the last HDU differ\n") e)

-- nothing is told of files exactly where they are one
pub told_of_others : NothingIsToldOfOneFile
told_of_others x y text p q told = (
  λ none.
      let all : told.of_hdus ++ tail_text x.tail y.tail ≡ [] = sym told.is ∙ none in
      let hdus : x.hdus ≡ y.hdus = hdus_same 1 x.hdus y.hdus told.of_hdus (each_in x.hdus p.front.first p.front.others) (each_in y.hdus q.front.first q.front.others) told.told (first_empty told.of_hdus (tail_text x.tail y.tail) all) in
      let tails : x.tail ≡ y.tail = tail_same x.tail y.tail (second_empty told.of_hdus (tail_text x.tail y.tail) all) in
      ap (λ (t : List HduParts). record { hdus = t; tail = x.tail }) hdus ∙ ap (λ (t : List ℕ). record { hdus = y.hdus; tail = t }) tails,
  λ same.
      let one : TellsFiles x x text = subst (λ (z : FileParts). TellsFiles x z text) (sym same) told in
      one.is ∙ ap (λ t. t ++ tail_text x.tail x.tail) (hdus_untold 1 x.hdus one.of_hdus one.told) ∙ ap (λ (b : Bool). if b then [] else codes "bytes after the last HDU differ\n") (eq_itself x.tail),
)
