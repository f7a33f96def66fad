-- The names of a header ascend, each once.
use Rattle.std.proofs.Common.{◌≡◌, IsTrue, ℕ, ◌<◌, ◌||◌, ◌^◌, Bool, true, false, cond, List, [], ◌∷◌, get_or, map, ap, sym, ◌∙◌, refl, subst, arith}
use Rattle.std.specs.List.{All, AllPairs, Contains, list_any}
use Rattle.std.specs.Int.{to_be_bytes, w64}
use Rattle.std.specs.Cmp.{IsEquivalence}
use Rattle.std.specs.Str.{bytes_eq}
use Rattle.std.proofs.lemmas.List.Elements.{All-tail, All-map}
use Rattle.std.proofs.lemmas.List.Kept.{AllPairs-cons}
use Rattle.std.proofs.lemmas.Slice.Eq.{bytes_eq-Decides}
use Rattle.std.proofs.lemmas.Map.Views.{list_any-from_Contains, Contains-from_any}
use Rattle.fits_card.specs.Card.{keyword_name}
use Rattle.fits_header.specs.Names.{AreNamed, is_before, with_name, header_names, AreNamesOf}
use Rattle.fits_header.proofs.NumberLemmas.{bytes-name, bytes-number, earlier}
use Rattle.fits_header.proofs.NameLemmas.{Rises, iff, names-numbers, numbers-fit, numbers-rise, numbers_of, or_same, or_swap, rises_first, rises_tail}

-- a smaller number has smaller bytes
before_bytes : (m n : ℕ) → m < 2 ^ 64 → n < 2 ^ 64 → m < n → IsTrue (is_before (to_be_bytes w64 m) (to_be_bytes w64 n))
before_bytes m n low high less = (earlier (to_be_bytes w64 m) (to_be_bytes w64 n) (bytes-name m) (bytes-name n)).1 (rw (bytes-number m low, bytes-number n high) less)

-- the names of rising numbers ascend
ascend : (ns : List ℕ) → Rises ns → All (λ m. m < 2 ^ 64) ns → AllPairs (λ (name other : List ℕ). IsTrue (is_before name other)) (map (to_be_bytes w64) ns)
ascend [] up fits = λ i j d l m. absurd (omega arith)
ascend (n ∷ ns) up fits =
    let others = All-tail (λ m. m < 2 ^ 64) n ns fits in
    AllPairs-cons (λ (name other : List ℕ). IsTrue (is_before name other)) (to_be_bytes w64 n) (map (to_be_bytes w64) ns)
    (All-map (λ (other : List ℕ). IsTrue (is_before (to_be_bytes w64 n) other)) (to_be_bytes w64) ns
    (λ k d l. before_bytes n (get_or ns k d) (fits 0 n (omega arith)) (others k d l) (rises_first n ns up k d l)))
    (ascend ns (rises_tail n ns up) others)

-- the name is among these
abbrev has_one : List ℕ → List (List ℕ) → Bool
has_one name names = list_any (bytes_eq name) names

-- a name is among those with one more where it is that one, or was there
any-with_by : (a b : Bool) (q name first : List ℕ) (others : List (List ℕ)) → bytes_eq name first ≡ b → has_one q (with_name name others) ≡ (bytes_eq q name || has_one q others)
    → has_one q (cond a (name ∷ first ∷ others) (cond b (first ∷ others) (first ∷ with_name name others))) ≡ (bytes_eq q name || (bytes_eq q first || has_one q others))
any-with_by true b q name first others is more = refl
any-with_by false true q name first others is more =
    or_same (bytes_eq q first) (has_one q others) ∙ ap (λ k. bytes_eq q k || (bytes_eq q first || has_one q others)) (sym ((bytes_eq-Decides name first).0 is))
any-with_by false false q name first others is more = ap (λ b. bytes_eq q first || b) more ∙ or_swap (bytes_eq q first) (bytes_eq q name) (has_one q others)

-- so it is
any-with : (q name : List ℕ) (names : List (List ℕ)) → has_one q (with_name name names) ≡ (bytes_eq q name || has_one q names)
any-with q name [] = refl
any-with q name (first ∷ others) = any-with_by (is_before name first) (bytes_eq name first) q name first others refl (any-with q name others)

-- the names are those of the cards
any-names : (q : List ℕ) (cards : List (List ℕ)) → has_one q (header_names cards) ≡ has_one q (map keyword_name cards)
any-names q [] = refl
any-names q (card ∷ cards) = any-with q (keyword_name card) (header_names cards) ∙ ap (λ b. bytes_eq q (keyword_name card) || b) (any-names q cards)

-- equal by the test is equal
same_bytes : (x y : List ℕ) → bytes_eq x y ≡ true → x ≡ y
same_bytes x y h = (bytes_eq-Decides x y).0 h

-- a name equals itself
same_self : (x : List ℕ) → bytes_eq x x ≡ true
same_self x = (bytes_eq-Decides x x).1 refl

-- in either order
turned : (x y : List ℕ) → bytes_eq x y ≡ bytes_eq y x
turned x y = iff (bytes_eq x y) (bytes_eq y x) (λ h. rw (same_bytes x y h) (same_self y)) (λ h. rw (same_bytes y x h) (same_self x))

-- so equality of bytes is an equivalence
bytes_equiv : IsEquivalence bytes_eq
bytes_equiv = record { refl = same_self; symm = turned; congr = λ x y z h. ap (λ k. bytes_eq k z) (same_bytes x y h) }

-- what is in one list is in another with the same names
moved_over : (q : List ℕ) (xs ys : List (List ℕ)) → has_one q xs ≡ has_one q ys → Contains xs q → Contains ys q
moved_over q xs ys same h = Contains-from_any same_bytes q ys (sym same ∙ list_any-from_Contains bytes_equiv q xs h)

-- each once, ascending, and exactly those of the cards
pub names_are_theirs : (cards : List (List ℕ)) → AreNamed cards → AreNamesOf (header_names cards) cards
names_are_theirs cards named = record {
  ascending = subst (AllPairs (λ (name other : List ℕ). IsTrue (is_before name other))) (sym (names-numbers cards named)) (ascend (numbers_of cards) (numbers-rise cards) (numbers-fit cards named));
  theirs = λ name. (moved_over name (header_names cards) (map keyword_name cards) (any-names name cards), moved_over name (map keyword_name cards) (header_names cards) (sym (any-names name cards)));
}
